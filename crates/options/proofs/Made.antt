-- Which saves are due, and where a run stops for them.
use Prim.Native.Nat.{ℕ, ◌≤◌, ◌<◌}
use mathlib.Core.Path.{◌≡◌, refl}
use native.Mathlib.Omega.{arith}
use Rattle.std.specs.Prelude.{Option, Some, None}
use lib.Dec.{ltb}
use borrow.Author.Tests.{lt-ltb, le-ltb, ltb-true, ltb-false, eq-eqb, ne_eqb}
use Rattle.base.specs.PickLaws.{pick_true, pick_false, pick_cases}
use Rattle.options.specs.Saves.{due_by, due_of, save_next, stop_behind, stop_by, stop_of}
use Rattle.options.specs.SavesMade.{MadeOnce, NonePassed}
use Rattle.options.specs.declared.Moment.{Moment}
use Rattle.options.specs.declared.Moment.TheVariants as moment
use Rattle.options.specs.declared.Now.TheVariants as stands
use Rattle.options.specs.declared.Due.TheVariants.{No, Save}
use Rattle.options.specs.declared.Words.{Words}

pub made_once : MadeOnce
made_once = record {
  made = λ count n h. pick_true _ _ _ (eq-eqb count count refl);
  nowhere = λ count k h. pick_false _ _ _ (ne_eqb count k h);
  quiet = λ count n h. pick_false _ _ _ (le-ltb n count h);
  missed = λ count n h. pick_true _ _ _ (lt-ltb n count h);
  end = λ n. refl;
  before = λ k. refl;
}

-- ---- where a run stops

-- what is said of a save, if there is one, by the number r behind which the run stops
pub record Stops (m : Option Moment) (from most r : ℕ) : Type 0 where
  pub onward : from < most → from < r
  pub inside : r ≤ most
  pub passed : (k : ℕ) → from < k → k < r → due_by m (stands.Behind k) ≡ No
  pub due : r < most → due_by m (stands.Behind r) ≡ Save

-- a save that is due at none of the records
never : (m : Option Moment) (from most : ℕ) → ((k : ℕ) → from < k → k < most → due_by m (stands.Behind k) ≡ No) → Stops m from most most
never m from most none = record {
  onward = λ h. h;
  inside = omega arith;
  passed = none;
  due = λ h. absurd (omega arith);
}

behind_stops : (count from most : ℕ) → Stops (Some (moment.Behind count)) from most (stop_behind count from most)
unfolding stop_behind
behind_stops count from most =
    pick_cases (Stops (Some (moment.Behind count)) from most) (ltb from count) _ _
    (λ t.
    pick_cases (Stops (Some (moment.Behind count)) from most) (ltb count most) _ _
    (λ u. record {
      onward = λ h. ltb-true from count t;
      inside = omega (arith, ltb-true count most u);
      passed = λ k low high. made_once.nowhere count k (λ e. omega arith);
      due = λ h. made_once.made count count (omega arith);
    })
    (λ f. never (Some (moment.Behind count)) from most (λ k low high. made_once.nowhere count k (λ e. omega (arith, ltb-false count most f)))))
    (λ f. never (Some (moment.Behind count)) from most (λ k low high. made_once.nowhere count k (λ e. omega (arith, ltb-false from count f))))

next_stops : (m : Option Moment) (from most : ℕ) → Stops m from most (stop_by m from most)
next_stops (Some (moment.Behind count)) from most = behind_stops count from most
next_stops (Some moment.End) from most = never (Some moment.End) from most (λ k low high. refl)
next_stops None from most = never None from most (λ k low high. refl)

words_stop : (s : Words) (from most : ℕ) → Stops (save_next s) from most (stop_of s from most)
unfolding stop_of
words_stop s from most = next_stops (save_next s) from most

pub none_passed : NonePassed
unfolding due_of
none_passed = record {
  onward = λ s from most h. ((words_stop s from most).onward h, (words_stop s from most).inside);
  passed = λ s from most k low high. (words_stop s from most).passed k low high;
  stopped = λ s from most h. (words_stop s from most).due h;
}
