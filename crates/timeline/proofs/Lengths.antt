-- How long the lines of a timeline can be.
use Prim.Native.Nat.{ℕ, zero, suc, ◌+◌, ◌*◌, ◌-◌, ◌^◌, ◌≤◌, ◌<◌}
use mathlib.Core.Bool.{Bool, true, not, ◌||◌}
use mathlib.Core.List.{List, [], ◌∷◌, ◌++◌}
use mathlib.Core.Path.{◌≡◌}
use native.Mathlib.Omega.{arith}
use lib.Dec.{ltb, eqb}
use lib.ListN.{length, length-append}
use borrow.Author.Tests.{ltb-true}
use Rattle.base.specs.Bits.{bit, digit}
use Rattle.base.proofs.BitLaws.{digit_le}
use Rattle.base.specs.Pick.{pick}
use Rattle.base.specs.PickLaws.{pick_either, pick_cases}
use Rattle.text.specs.Line.{decimal}
use Rattle.text.specs.DecimalLaws.{length_small, decimal_length}
use Rattle.text.specs.Quoted.{quoted}
use Rattle.sight.specs.Sights.{look_at}
use Rattle.timeline.specs.Variables.{Variable, down_from, output_variable, of_number, of_seat, line_variables, seat_variables, scope_variables}
use Rattle.timeline.specs.Dump.{line_feed, value_line, change, told, time}
use Rattle.sight.specs.declared.Sight.{Sight}

pub time_length : (n : ℕ) → n < 10 ^ 20 → length (time n) ≤ 22
unfolding time
time_length n below = let few = decimal_length 19 n below in rw (length-append (decimal n)) (omega arith)

pub change_length : (all was is : Bool) (name : List ℕ) → length (change all was is name) ≤ length name + 2
unfolding change value_line
change_length all was is name =
    let one = length_small (digit is) (omega (arith, digit_le is)) in
    let long : length (decimal (digit is) ++ (name ++ line_feed)) ≤ length name + 2 =
    rw (length-append (decimal (digit is)), length-append name) (omega arith) in
    pick_either (λ (l : List ℕ). length l ≤ length name + 2) (all || not (eqb (digit was) (digit is))) _ _ long (omega arith)

-- so many bytes at the most for these variables
abbrev most : List Variable → ℕ
most [] = 0
most (v ∷ vs) = length v.name + 2 + most vs

told_most : (all : Bool) (before now : Sight) (vs : List Variable) → length (told all before now vs) ≤ most vs
unfolding told
told_most all before now [] = omega arith
told_most all before now (v ∷ vs) =
    rw (length-append (change all (v.value before) (v.value now) v.name))
    (omega (arith, change_length all (v.value before) (v.value now) v.name, told_most all before now vs))

pub output_length : (all : Bool) (before now : Sight) → length (told all before now (output_variable ∷ [])) ≤ 3
output_length all before now = omega (arith, told_most all before now (output_variable ∷ []))

-- those of a line or a seat
abbrev pub scope_most : ℕ
scope_most = 65

most_append : (vs ws : List Variable) → most (vs ++ ws) ≡ most vs + most ws
most_append [] ws = omega arith
most_append (v ∷ vs) ws = rw (most_append vs ws) (omega arith)

module _ (used n : ℕ) (few : n < 10) where
  bits_most : (letter word : List ℕ) (number : Sight → ℕ) (width : ℕ) → width ≤ 10
      → most (of_number letter word number n width) ≤ width * (length letter + 4)
  unfolding down_from
  bits_most letter word number zero ten = omega arith
  bits_most letter word number (suc k) ten =
      rw (length-append (letter ++ decimal n), length-append letter, length_small n few, length_small k (omega arith))
      (omega (arith, bits_most letter word number k (omega arith)))

  line_most : most (line_variables n) ≤ scope_most
  unfolding line_variables
  line_most = omega (arith, length_small n few)

  seat_most : most (seat_variables used n) ≤ scope_most
  unfolding seat_variables of_seat
  seat_most =
      let lsr = bits_most (quoted "L") (quoted "lsr") (λ s. (look_at s n).lsr) 8 (omega arith) in
      let queued = bits_most (quoted "q") (quoted "queued") (λ s. (look_at s n).queued) 5 (omega arith) in
      pick_either (λ (vs : List Variable). most vs ≤ scope_most) (bit n used) _ _
      (rw (most_append (of_number (quoted "L") (quoted "lsr") (λ s. (look_at s n).lsr) n 8)) (omega arith))
      (omega arith)

pub told_length : (all : Bool) (before now : Sight) (used k : ℕ) → k < 16 → length (told all before now (scope_variables used k)) ≤ scope_most
unfolding scope_variables
told_length all before now used k few =
    let fits : most (pick (ltb k 8) (line_variables k) (seat_variables used (k - 8))) ≤ scope_most =
    pick_cases (λ (vs : List Variable). most vs ≤ scope_most) (ltb k 8) _ _
    (λ (line : ltb k 8 ≡ true). line_most used k (omega (arith, ltb-true k 8 line)))
    (λ seat. seat_most used (k - 8) (omega arith)) in
    omega (arith, told_most all before now (pick (ltb k 8) (line_variables k) (seat_variables used (k - 8))), fits)
