-- Each save is made once or missed, and no run passes one by.
use Rattle.std.specs.Prelude.{ℕ, ◌≤◌, ◌<◌, ◌≡◌}
use Rattle.options.specs.Saves.{due_at, due_of, stop_of}
use Rattle.options.specs.declared.Moment.TheVariants as moment
use Rattle.options.specs.declared.Now.TheVariants as stands
use Rattle.options.specs.declared.Due.TheVariants.{No, Save, Missed}
use Rattle.options.specs.declared.Words.{Words}

-- of a run of n records, which stands behind 0, 1 and so on to n of them, and then ends
pub record MadeOnce : Type 0 where
  -- a save whose record the run comes to is made behind that record and nowhere else
  pub made : (count n : ℕ) → count ≤ n → due_at (moment.Behind count) (stands.Behind count) ≡ Save
  pub nowhere : (count k : ℕ) → (count ≡ k → ⊥) → due_at (moment.Behind count) (stands.Behind k) ≡ No
  pub quiet : (count n : ℕ) → count ≤ n → due_at (moment.Behind count) (stands.End n) ≡ No
  -- any other is missed
  pub missed : (count n : ℕ) → n < count → due_at (moment.Behind count) (stands.End n) ≡ Missed
  -- a save at the end is made there and nowhere else
  pub end : (n : ℕ) → due_at moment.End (stands.End n) ≡ Save
  pub before : (k : ℕ) → due_at moment.End (stands.Behind k) ≡ No

-- a run that stands behind `from` records and was to stop behind `most`
pub record NonePassed : Type 0 where
  pub onward : (s : Words) (from most : ℕ) → from < most → (from < stop_of s from most) × (stop_of s from most ≤ most)
  -- nothing is due before it stops
  pub passed : (s : Words) (from most k : ℕ) → from < k → k < stop_of s from most → due_of s (stands.Behind k) ≡ No
  -- and where it stops sooner, something is
  pub stopped : (s : Words) (from most : ℕ) → stop_of s from most < most → due_of s (stands.Behind (stop_of s from most)) ≡ Save
