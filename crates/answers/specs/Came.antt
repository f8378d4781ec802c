-- What came of it: one piece, by the answer. `kind` and `number` are the record's, `divisor` is LCR bit 7 before it.
use Rattle.std.specs.Prelude.{ℕ, ◌%◌, ◌^◌, Bool, false, List, [], ◌++◌, eqb}
use Rattle.base.specs.Pick.{pick}
use Rattle.base.specs.declared.Answer.{Answer}
use Rattle.base.specs.declared.Figures.{Figures}
use Rattle.base.specs.declared.Answer.TheVariants.{Byte, Letter, Done, Sent, Idle, Break, Vector, Spurious, Place, Divisor, Refused}
use Rattle.text.specs.Quoted.{quoted}
use Rattle.text.specs.Line.{decimal}
use Rattle.page.specs.Pieces.{hex, letter}
use Rattle.names.specs.Words.{refusal_words, register_words, iir_words, lsr_said, msr_said, marks_said, lines_said}
use Rattle.records.specs.Kinds as kinds

-- "`refused R: WORDS`, the words of the refusals"
unfoldable pub refused_came : ℕ → List ℕ
refused_came number = quoted "refused " ++ (decimal number ++ (quoted ": " ++ refusal_words number))

-- "where more remain behind it `, B behind`, B decimal"
unfoldable pub behind_said : ℕ → List ℕ
behind_said behind = pick (eqb behind 0) [] (quoted ", " ++ (decimal behind ++ quoted " behind"))

-- "its marks as in an arrival". "Where the receive queue was empty before the record: `RBR L again: nothing waits`"
unfoldable pub figures_said : Figures → Bool → List ℕ
figures_said figures empty = pick empty (quoted " again: nothing waits") (marks_said figures.marks ++ behind_said figures.behind)

-- "`RBR L`, L the byte as a letter"
unfoldable pub letter_came : ℕ → Figures → Bool → List ℕ
letter_came byte figures empty = quoted "RBR " ++ (letter byte ++ figures_said figures empty)

-- "another register": "NAME B"
unfoldable pub plain_came : ℕ → Bool → ℕ → List ℕ
plain_came number divisor byte = register_words number divisor false ++ (quoted " " ++ hex byte)

-- IIR, LSR, MSR, or another register
unfoldable pub register_came : ℕ → Bool → ℕ → List ℕ
register_came number divisor byte =
    pick (eqb number 2) (iir_words byte)
    (pick (eqb number 5) (lsr_said byte)
    (pick (eqb number 6) (msr_said byte)
    (plain_came number divisor byte)))

-- "`requests B: `, `in service B: ` or `mask B: `"
unfoldable pub port_name : ℕ → Bool → List ℕ
port_name port selected = pick (eqb port 0) (pick selected (quoted "in service ") (quoted "requests ")) (quoted "mask ")

-- "and the lines of the set"
unfoldable pub port_came : ℕ → Bool → ℕ → List ℕ
port_came port selected byte = port_name port selected ++ (hex byte ++ (quoted ": " ++ lines_said byte))

-- a byte that was read: of a register, or "the controller, port 0 or 1"
unfoldable pub byte_came : ℕ → ℕ → Bool → Bool → ℕ → List ℕ
byte_came kind number divisor selected byte =
    pick (eqb kind kinds.read_controller_kind) (port_came number selected byte) (register_came number divisor byte)

-- "`sent L`, a letter"
unfoldable pub sent_came : ℕ → List ℕ
sent_came byte = quoted "sent " ++ letter byte

-- "`vector B: line N`, N the vector's bits 2 to 0"
unfoldable pub vector_came : ℕ → List ℕ
vector_came vector = quoted "vector " ++ (hex vector ++ (quoted ": line " ++ decimal (vector % 2 ^ 3)))

-- "vector B: spurious"
unfoldable pub spurious_came : ℕ → List ℕ
spurious_came vector = quoted "vector " ++ (hex vector ++ quoted ": spurious")

-- "One piece, by the answer."; "000": "no piece", and none of a question that is no record. `empty` tells of the receive queue before the record, and
-- `selected` of port 0
abbrev pub came_of : ℕ → ℕ → Bool → Bool → Bool → Answer → List ℕ
came_of kind number divisor selected empty (Byte byte) = byte_came kind number divisor selected byte
came_of kind number divisor selected empty (Letter byte figures) = letter_came byte figures empty
came_of kind number divisor selected empty Done = []
came_of kind number divisor selected empty (Sent byte) = sent_came byte
came_of kind number divisor selected empty Idle = quoted "nothing is sent"
came_of kind number divisor selected empty Break = quoted "break is sent"
came_of kind number divisor selected empty (Vector vector) = vector_came vector
came_of kind number divisor selected empty (Spurious vector) = spurious_came vector
came_of kind number divisor selected empty (Place place) = []
came_of kind number divisor selected empty (Divisor divisor') = []
came_of kind number divisor selected empty (Refused number') = refused_came number'
