-- Closed lines: what they show is false under the slips of must-fail/.
use Prim.Native.Nat.{ℕ}
use mathlib.Core.Bool.{true, false}
use mathlib.Core.List.{List, [], ◌∷◌}
use mathlib.Core.Path.{◌≡◌, refl}
use Rattle.base.specs.Pick as base
use Rattle.base.specs.Answers as answers
use Rattle.base.specs.declared.Answer.TheVariants.{Refused}
use Rattle.text.specs.Hex.{digit}
use Rattle.text.specs.Line.{digits_within, decimal, capital, output_digit, line, room}

-- the text of a line; it opens what a line is made of
unfoldable text : List ℕ → List ℕ
unfolding base.pick answers.refusal_of answers.value_of digits_within decimal capital output_digit line
text l = l

-- "refusal number (0 for none), answer in three hex capitals, output after the event; single spaces": `line_form`; it reads 0 1 FFF 0
line_of_a_refusal : text (line 0 (Refused 1) false) ≡ 48 ∷ 32 ∷ 49 ∷ 32 ∷ 70 ∷ 70 ∷ 70 ∷ 32 ∷ 48 ∷ 10 ∷ []
unfolding text
line_of_a_refusal = refl

-- `line_put`: 0 4 FFF 0 with the end of its line is ten bytes
ten_bytes_are_room : room (line 0 (Refused 4) false) (0 ∷ 0 ∷ 0 ∷ 0 ∷ 0 ∷ 0 ∷ 0 ∷ 0 ∷ 0 ∷ 0 ∷ []) 0 ≡ true
unfolding text
ten_bytes_are_room = refl

-- `letter_worth`, of lessons
small_a_is_10 : digit 97 ≡ 10
unfolding digit base.pick
small_a_is_10 = refl
