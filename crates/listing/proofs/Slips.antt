-- Closed lines and runs: what they show is false under the slips of must-fail/.
use Prim.Native.Nat.{ℕ}
use mathlib.Core.Bool.{true}
use mathlib.Core.List.{List, [], ◌∷◌}
use mathlib.Core.Path.{◌≡◌, refl}
use Rattle.base.specs.Pick as base
use Rattle.base.specs.Answers as answers
use Rattle.base.specs.Refusals as refusing
use Rattle.records.specs.Events.{whole}
use Rattle.bench.specs.Runs.{after_all}
use Rattle.bench.specs.Seats.{power_up}
use Rattle.bench.proofs.Slips as bench
use Rattle.text.specs.Line.{digits_within, decimal, capital, output_digit, line}
use Rattle.listing.specs.Run.{line_of}
use Rattle.listing.specs.Places.{record_count}

-- the text of a line; it opens what a line is made of
unfoldable text : List ℕ → List ℕ
unfolding base.pick answers.refusal_of answers.value_of refusing.refusal_by refusing.first_of digits_within decimal capital output_digit line
text l = l

-- "output after the event": `line_shown`; seat 2 raises its line, and record 4 reads 4 0 000 1
output_is_shown :
    text (line_of (after_all power_up (whole 7 0 0 0x13 ∷ whole 7 0 1 0x40 ∷ whole 7 0 1 0x01 ∷ whole 1 2 4 0x08 ∷ [])) 4 (whole 1 2 1 0x02))
    ≡ 52 ∷ 32 ∷ 48 ∷ 32 ∷ 48 ∷ 48 ∷ 48 ∷ 32 ∷ 49 ∷ 10 ∷ []
unfolding text bench.run
output_is_shown = refl

-- "record of 1 to 3 bytes at the end of input": `record_count_lem`
short_record_counts : record_count true 7 ≡ 2
unfolding base.pick record_count
short_record_counts = refl
