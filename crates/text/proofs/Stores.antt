-- Runs of stores into a buffer.
use Prim.Native.Nat.{ℕ, suc, ◌+◌, ◌%◌}
use mathlib.Core.Path.{◌≡◌}
use mathlib.Core.Bool.{Bool}
use mathlib.Core.List.{List}
use native.Mathlib.Omega.{arith}
use native.Mathlib.Numerals.{add-one}
use lib.ListN.{length, set}
use lib.Seq.{sets}
use Rattle.base.specs.Answers.{refusal_of, value_of}
use Rattle.base.specs.declared.Answer.{Answer}
use Rattle.text.specs.Line.{numeral, decimal, ending}
use Rattle.text.specs.Front.{line_after}
use Rattle.base.specs.StoreLaws.{sets_append}

-- the stores of a line's parts are those of the line
pub after_sets : (d : List ℕ) (at : ℕ) (l : List ℕ) (n : ℕ) (a : Answer) (o : Bool)
    → sets
    (sets (set (set (sets d at l) (at + length l) (numeral (n % 10))) (at + length l + 1) 32) (at + length l + 2) (decimal (refusal_of a)))
    (at + length l + 2 + length (decimal (refusal_of a)))
    (ending (value_of a) o)
    ≡ sets d at (line_after l n a o)
unfolding line_after
after_sets d at l n a o =
    let two : at + length l + 2 ≡ suc (suc (at + length l)) = omega arith in
    rw (sets_append l, sets_append (decimal (refusal_of a)), two, add-one)
