-- A settings line by its fields: the rate, the letter of the parity, the bits and the stop; and the LCR byte of the last three.
use Rattle.std.specs.Prelude.{ℕ, ◌+◌, ◌-◌, ◌*◌, ◌/◌, ◌≤◌, Bool, true, false, List, ◌∷◌, ◌++◌, ◌⊎◌, ◌≡◌, eqb}
use Prim.Native.Char.{code}
use Rattle.base.specs.Pick.{pick}
use Rattle.base.specs.Bits.{digit}
use Rattle.text.specs.Quoted.{quoted}
use Rattle.text.specs.Line.{numeral, decimal}

abbrev pub comma : ℕ
comma = code ","

abbrev pub point : ℕ
point = code "."

-- ---- the fields

-- ticket 1: "Parity is N, O, E, M or S"
pub data Parity : Type 0 where
  N O E M S : Parity

-- the letter of each
abbrev pub letter : Parity → ℕ
letter N = code "N"
letter O = code "O"
letter E = code "E"
letter M = code "M"
letter S = code "S"

-- ticket 1: "(LCR bits 5-3: 000, 001, 011, 101, 111; bits 7-6 are 0)"
abbrev pub parity_bits : Parity → ℕ
parity_bits N = 0b000
parity_bits O = 0b001
parity_bits E = 0b011
parity_bits M = 0b101
parity_bits S = 0b111

-- what stands behind the rate: parity, number of bits, and whether the stop is the longer of the two that there are
pub record Shape : Type 0 where
  pub parity : Parity
  pub bits : ℕ
  pub longer : Bool

-- ticket 1: "bits 5 to 8"
pub record Sized (s : Shape) : Type 0 where
  pub fewest : 5 ≤ s.bits
  pub most : s.bits ≤ 8

-- a whole number of baud, in tenths as everywhere
abbrev pub Whole : ℕ → Type 0
Whole rate = (n : ℕ) × (1 ≤ n) × (n ≤ 99999) × (rate ≡ 10 * n)

-- ticket 1: "The rate is decimal, 1 to 99999 without leading zeros, or 134.5."
abbrev pub Rated : ℕ → Type 0
Rated rate = (rate ≡ 1345) ⊎ Whole rate

-- ---- the line of a rate and a shape

unfoldable pub rate_text : ℕ → List ℕ
rate_text rate = pick (eqb rate 1345) (quoted "134.5") (decimal (rate / 10))

-- ticket 1: "stop 1 or 2; five bits take 1 or 1.5"
unfoldable pub stop_text : ℕ → Bool → List ℕ
stop_text bits false = quoted "1"
stop_text bits true = pick (eqb bits 5) (quoted "1.5") (quoted "2")

unfoldable pub shape_text : Shape → List ℕ
shape_text s = comma ∷ letter s.parity ∷ comma ∷ numeral s.bits ∷ comma ∷ stop_text s.bits s.longer

-- ticket 1: "Our control sheets give settings as `9600,E,7,2`."
unfoldable pub line_of : ℕ → Shape → List ℕ
line_of rate s = rate_text rate ++ shape_text s

-- ---- the LCR byte of a shape

-- LCR bits 1-0 are the number of bits above five, and bit 2 is the longer stop (documents 004, 000 and 003, the line control register)
unfoldable pub lcr_of : Shape → ℕ
lcr_of s = (s.bits - 5) + 4 * digit s.longer + 8 * parity_bits s.parity
