-- Texts by how they were written: what the laws put in, and must get back.
use Rattle.std.specs.Prelude.{ℕ, suc, ◌+◌, ◌/◌, ◌%◌, ◌<◌, Bool, true, List, [], ◌∷◌, ◌++◌, ◌≡◌, ltb, eqb}
use Rattle.base.specs.Pick.{pick}
use Rattle.text.specs.Hex.{digit}
use Rattle.lesson.specs.Text.{line_feed, number_sign, white}

-- a digit below 16 as a character, with small letters or with capitals
abbrev pub letter : Bool → ℕ → ℕ
letter small d = pick (ltb d 10) (48 + d) (pick small (87 + d) (55 + d))

abbrev pub two : Bool → ℕ → List ℕ
two small byte = letter small (byte / 16) ∷ letter small (byte % 16) ∷ []

-- bytes in the plain form: two digits each, and four of them to a line
unfoldable pub plain : Bool → List ℕ → List ℕ
plain small [] = []
plain small (a ∷ []) = two small a
plain small (a ∷ b ∷ []) = two small a ++ two small b
plain small (a ∷ b ∷ c ∷ []) = two small a ++ (two small b ++ two small c)
plain small (a ∷ b ∷ c ∷ d ∷ rest) =
    two small a ++ (two small b ++ (two small c ++ (two small d ++ (line_feed ∷ plain small rest))))

abbrev pub Bytes : List ℕ → Type 0
Bytes [] = Unit {0}
Bytes (b ∷ rest) = (b < 256) × Bytes rest

abbrev pub Digits : List ℕ → Type 0
Digits [] = Unit {0}
Digits (c ∷ rest) = (digit c < 16) × Digits rest

abbrev pub Blank : List ℕ → Type 0
Blank [] = Unit {0}
Blank (c ∷ rest) = (white c ≡ true) × Blank rest

-- no line ends within
abbrev pub OneLine : List ℕ → Type 0
OneLine [] = Unit {0}
OneLine (c ∷ rest) = (c ≡ line_feed → ⊥) × OneLine rest

-- a byte as it is written: its two digits, and the white space behind them
pub record Written : Type 0 where
  pub high : ℕ
  pub low : ℕ
  pub blanks : List ℕ

abbrev pub written : List Written → List ℕ
written [] = []
written (b ∷ rest) = b.high ∷ b.low ∷ (b.blanks ++ written rest)

-- no line ends behind any of them
abbrev pub Spaced : List Written → Type 0
Spaced [] = Unit {0}
Spaced (b ∷ rest) = (digit b.high < 16) × (digit b.low < 16) × Blank b.blanks × OneLine b.blanks × Spaced rest

-- a comment with the end of its line
abbrev pub comment : List ℕ → List ℕ
comment words = number_sign ∷ (words ++ (line_feed ∷ []))

-- how many lines end
unfoldable pub feeds : List ℕ → ℕ
feeds [] = 0
feeds (c ∷ rest) = pick (eqb c line_feed) (suc (feeds rest)) (feeds rest)
