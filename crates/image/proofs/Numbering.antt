-- Which number is given.
use Prim.Native.Nat.{ℕ, ◌+◌, ◌-◌, ◌<◌, ◌≤◌}
use mathlib.Core.Bool.{Bool, true, false, not, ◌&&◌}
use mathlib.Core.List.{List, [], ◌∷◌}
use mathlib.Core.Logic.{⊎_elim}
use mathlib.Core.Path.{◌≡◌, refl, ap, sym, ◌∙◌}
use native.Mathlib.Omega.{arith}
use lib.Dec.{leb, ltb}
use lib.ListN.{length}
use borrow.Author.Tests.{le-leb, lt-leb, leb-true, ltb-true, ltb-false}
use Rattle.base.specs.declared.Answer.{Answer}
use Rattle.base.specs.declared.Answer.TheVariants.{Done, Refused}
use Rattle.base.specs.Answers.{refusal_of}
use Rattle.base.specs.Pick.{pick}
use Rattle.base.specs.PickLaws.{pick_true, pick_false, either_way}
use Rattle.base.specs.Refusals.{no_room_number, first_held}
use Rattle.bench.specs.declared.Bench.{Bench}
use Rattle.image.specs.Layout.{image_length, length_in, version_of}
use Rattle.image.specs.Numbers.{Grounds, Numbers, SaveNumbers}
use Rattle.image.specs.Refusals.{marked, known, image_good, refusal}
use Rattle.image.specs.Written.{room_for, Saves}

-- the first of five tests that holds
first : (a m u s g : Bool)
    → Grounds a m u s g
    (first_held
    (record { number = 12; holds = a }
    ∷ record { number = 13; holds = m }
    ∷ record { number = 14; holds = u }
    ∷ record { number = 12; holds = s }
    ∷ record { number = 15; holds = g }
    ∷ []))
unfolding first_held pick
first true m u s g = record { twelve = refl; thirteen = refl; fourteen = refl; fifteen = refl; none = refl }
first false true u s g = record { twelve = refl; thirteen = refl; fourteen = refl; fifteen = refl; none = refl }
first false false true s g = record { twelve = refl; thirteen = refl; fourteen = refl; fifteen = refl; none = refl }
first false false false true g = record { twelve = refl; thirteen = refl; fourteen = refl; fifteen = refl; none = refl }
first false false false false true = record { twelve = refl; thirteen = refl; fourteen = refl; fifteen = refl; none = refl }
first false false false false false = record { twelve = refl; thirteen = refl; fourteen = refl; fifteen = refl; none = refl }

pub numbers : Numbers
unfolding refusal
numbers p = first (ltb (length p) 5) (not (marked p)) (not (known (version_of p))) (ltb (length p) (length_in (version_of p))) (not (image_good p))

-- ---- a save

pub no_room : (l : List ℕ) (at : ℕ) → length l < at + image_length → room_for image_length l at ≡ false
no_room l at short = by (leb at (length l)) refl
  where
    by : (b : Bool) → leb at (length l) ≡ b → (b && leb image_length (length l - at)) ≡ false
    by false e = refl
    by true e = lt-leb image_length (length l - at) (omega (arith, leb-true at (length l) e, short))

pub has_room : (l : List ℕ) (at : ℕ) → at + image_length ≤ length l → room_for image_length l at ≡ true
has_room l at fits = rw (le-leb at (length l) (omega (arith, fits)), le-leb image_length (length l - at) (omega (arith, fits)))

-- the answer is one of two
pub refused_so : (b : Bench) (at : ℕ) (l l' : List ℕ) (r : Answer) → Saves b at l l' r → length l < at + image_length → r ≡ Refused no_room_number
refused_so b at l l' r s short = s.answer ∙ pick_false _ _ _ (no_room l at short)

pub taken_so : (b : Bench) (at : ℕ) (l l' : List ℕ) (r : Answer) → Saves b at l l' r → at + image_length ≤ length l → r ≡ Done
taken_so b at l l' r s fits = s.answer ∙ pick_true _ _ _ (has_room l at fits)

save_refused : (b : Bench) (at : ℕ) (l l' : List ℕ) (r : Answer) → Saves b at l l' r → length l < at + image_length → refusal_of r ≡ 12
unfolding refusal_of
save_refused b at l l' r s short = ap refusal_of (refused_so b at l l' r s short)

pub save_taken : (b : Bench) (at : ℕ) (l l' : List ℕ) (r : Answer) → Saves b at l l' r → at + image_length ≤ length l → refusal_of r ≡ 0
unfolding refusal_of
save_taken b at l l' r s fits = ap refusal_of (taken_so b at l l' r s fits)

-- a save that is not refused so had room
pub unless : (n m : ℕ) → (m < n → ⊥) → n ≤ m
unless n m none = ⊎_elim (λ (e : ltb m n ≡ true). absurd (none (ltb-true m n e))) (λ (e : ltb m n ≡ false). ltb-false m n e) (either_way (ltb m n))

pub room_of : (b : Bench) (at : ℕ) (l l' : List ℕ) (r : Answer) → Saves b at l l' r → refusal_of r ≡ 0 → at + image_length ≤ length l
room_of b at l l' r s done =
    unless (at + image_length) (length l) (λ short. let two : ◌≡◌ {A = ℕ} 0 12 = sym done ∙ save_refused b at l l' r s short in omega (arith, two))

pub save_numbers : SaveNumbers
save_numbers =
    record {
      refused = refused_so;
      taken = λ b at l l' r s enough. taken_so b at l l' r s (unless (at + image_length) (length l) enough);
    }
