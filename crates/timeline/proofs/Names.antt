-- The names of the variables: none is empty or has a line feed in it, and no two are the same.
use Prim.Native.Nat.{ℕ, zero, suc, ◌-◌}
use mathlib.Core.Bool.{Bool, true, false, not, ◌&&◌}
use mathlib.Core.List.{List, [], ◌∷◌}
use mathlib.Core.Path.{◌≡◌, refl}
use lib.Dec.{ltb, eqb}
use Rattle.base.specs.Pick.{pick}
use Rattle.base.specs.Bits.{bit}
use Rattle.base.specs.PickLaws.{both_hold}
use Rattle.base.specs.Subsequences.{Subsequence, ends, skips, keeps}
use Rattle.base.specs.SubsequenceLaws.{nothing_of, itself, before, behind, through}
use Rattle.text.specs.Line.{decimal, digits_within}
use Rattle.timeline.specs.Variables.{Variable, each, down_from, output_variable, line_variables, of_seat, seat_variables, scope_count, scope_variables, variables}
use Rattle.timeline.specs.Meaning.{key}
use Rattle.timeline.specs.Told.{all_of, other_than, all_apart, NamesApart}
use Rattle.timeline.proofs.Reading.{unended}

abbrev pub plain : Variable → Bool
plain v = unended v.name && not (eqb 0 (key v.name))

-- ---- with all eight seats in use

abbrev full_scope : ℕ → List Variable
full_scope k = pick (ltb k 8) (line_variables k) (of_seat (k - 8))

abbrev every : List Variable
every = output_variable ∷ each scope_count full_scope

every_plain : all_of plain every ≡ true
unfolding pick each decimal digits_within key line_variables of_seat down_from
every_plain = refl

every_apart : all_apart every ≡ true
unfolding pick each decimal digits_within key line_variables of_seat down_from
every_apart = refl

-- ---- with fewer

either_part : {A : Type 0} (b : Bool) {x y z w : List A} → Subsequence x z → Subsequence y w → Subsequence (pick b x y) (pick b z w)
unfolding pick
either_part true first second = first
either_part false first second = second

in_use_part : (b : Bool) (l : List Variable) → Subsequence (pick b l []) l
unfolding pick
in_use_part true l = itself l
in_use_part false l = nothing_of l

scope_part : (used k : ℕ) → Subsequence (scope_variables used k) (full_scope k)
unfolding scope_variables seat_variables
scope_part used k = either_part (ltb k 8) (itself _) (in_use_part (bit (k - 8) used) (of_seat (k - 8)))

each_part : {A : Type 0} (n : ℕ) (f g : ℕ → List A) → ((k : ℕ) → Subsequence (f k) (g k)) → Subsequence (each n f) (each n g)
unfolding each
each_part zero f g part = ends
each_part (suc n) f g part = through (before (f n) (each_part n f g part)) (behind (each n g) (part n))

part_of_every : (used : ℕ) → Subsequence (variables used) every
unfolding variables
part_of_every used = keeps (each_part scope_count (scope_variables used) full_scope (scope_part used))

all_part : (test : Variable → Bool) {l m : List Variable} → Subsequence l m → all_of test m ≡ true → all_of test l ≡ true
all_part test ends fine = refl
all_part test (skips {n} {l} {m} sub) fine = all_part test sub (both_hold (test n) (all_of test m) fine).1
all_part test (keeps {n} {l} {m} sub) fine =
    let two = both_hold (test n) (all_of test m) fine in rw (two.0, all_part test sub two.1)

apart_part : {l m : List Variable} → Subsequence l m → all_apart m ≡ true → all_apart l ≡ true
apart_part ends fine = refl
apart_part (skips {n} {l} {m} sub) fine = apart_part sub (both_hold (all_of (other_than n.name) m) (all_apart m) fine).1
apart_part (keeps {n} {l} {m} sub) fine =
    let two = both_hold (all_of (other_than n.name) m) (all_apart m) fine in
    rw (all_part (other_than n.name) sub two.0, apart_part sub two.1)

pub names_plain : (used : ℕ) → all_of plain (variables used) ≡ true
names_plain used = all_part plain (part_of_every used) every_plain

pub names_apart : NamesApart
names_apart used = apart_part (part_of_every used) every_apart
