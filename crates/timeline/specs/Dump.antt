-- A value change dump: its head, and what stands behind each step. "A line feed ends each line."
use Rattle.std.specs.Prelude.{ℕ, Bool, true, false, not, ◌||◌, List, [], ◌∷◌, ◌++◌, eqb}
use Rattle.base.specs.Pick.{pick}
use Rattle.base.specs.Bits.{bit, digit}
use Rattle.text.specs.Line.{newline, decimal}
use Rattle.text.specs.Quoted.{quoted}
use Rattle.timeline.specs.Variables.{Variable, each, down_from, numbered, bit_name, bit_word, output_variable, line_variables, of_seat, variables}
use Rattle.sight.specs.declared.Sight.{Sight}

abbrev pub line_feed : List ℕ
line_feed = newline ∷ []

-- ---- the head

-- "$var wire 1 L27 lsr2[7] $end"
unfoldable pub declaration : List ℕ → List ℕ → List ℕ
declaration name word = quoted "$var wire 1 " ++ (name ++ (quoted " " ++ (word ++ (quoted " $end" ++ line_feed))))

unfoldable pub declarations : List Variable → List ℕ
declarations [] = []
declarations (v ∷ vs) = declaration v.name v.word ++ declarations vs

-- those of a number of seat n
unfoldable pub bit_declarations : List ℕ → List ℕ → ℕ → ℕ → List ℕ
bit_declarations letter word n width = down_from width (λ k. declaration (bit_name letter n k) (bit_word word n k))

-- "$scope module seat2 $end"
unfoldable pub scope : List ℕ → ℕ → List ℕ
scope word n = quoted "$scope module " ++ (numbered word n ++ (quoted " $end" ++ line_feed))

-- "$upscope $end"
abbrev pub upscope : List ℕ
upscope = quoted "$upscope $end" ++ line_feed

-- the variables of a line or a seat stand in a scope of their own
unfoldable pub scoped : List ℕ → ℕ → List Variable → List ℕ
scoped word n vs = scope word n ++ (declarations vs ++ upscope)

unfoldable pub line_head : ℕ → List ℕ
line_head n = scoped (quoted "line") n (line_variables n)

-- what stands before the seats
unfoldable pub head_words : List ℕ
head_words =
    quoted "$version hailstoat $end" ++ (line_feed
    ++ (quoted "$timescale 1 us $end" ++ (line_feed
    ++ (quoted "$scope module bench $end" ++ (line_feed
    ++ (declarations (output_variable ∷ []) ++ each 8 line_head))))))

unfoldable pub seat_head : ℕ → List ℕ
seat_head n = scoped (quoted "seat") n (of_seat n)

-- "and at its end"
unfoldable pub head_end : List ℕ
head_end = upscope ++ (quoted "$enddefinitions $end" ++ line_feed)

-- the whole head, "for each seat in use"
unfoldable pub whole_head : ℕ → List ℕ
whole_head used = head_words ++ (each 8 (λ n. pick (bit n used) (seat_head n) []) ++ head_end)

-- ---- the steps

-- "`0` or `1` and the short name, as in `1L25`"
unfoldable pub value_line : Bool → List ℕ → List ℕ
value_line value name = decimal (digit value) ++ (name ++ line_feed)

-- it is told where all are, or where it has changed
unfoldable pub change : Bool → Bool → Bool → List ℕ → List ℕ
change all before now name = pick (all || not (eqb (digit before) (digit now))) (value_line now name) []

-- of a number of seat n, in so many bits
unfoldable pub bit_changes : Bool → List ℕ → ℕ → ℕ → ℕ → ℕ → List ℕ
bit_changes all letter n width before now = down_from width (λ k. change all (bit k before) (bit k now) (bit_name letter n k))

-- "a line for each variable, in the order in which they are declared", or "the lines of those variables that have changed, in the same order"
unfoldable pub told : Bool → Sight → Sight → List Variable → List ℕ
told all before now [] = []
told all before now (v ∷ vs) = change all (v.value before) (v.value now) v.name ++ told all before now vs

-- "#N"
unfoldable pub time : ℕ → List ℕ
time n = quoted "#" ++ (decimal n ++ line_feed)

-- "Then `#0` and a line for each variable, .. as they stand before the first record"
unfoldable pub first_words : ℕ → Sight → List ℕ
first_words used now = time 0 ++ told true now now (variables used)

-- "Behind each record stand `#N`, N the number of records so far, and the lines of those variables that have changed"
unfoldable pub step_words : ℕ → ℕ → Sight → Sight → List ℕ
step_words used n before now = time n ++ told false before now (variables used)
