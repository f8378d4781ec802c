-- A receive side over a run: its queue stays as the bench keeps it, and a run and then another are one run.
use Rattle.std.specs.Prelude.{ℕ, ◌+◌, Bool, true, false, not, ◌≡◌, refl}
use mathlib.Core.List.{List, [], ◌∷◌, ◌++◌, append_assoc}
use Rattle.std.proofs.Common.{ap, ap₂, sym, ◌∙◌, arith}
use Rattle.base.specs.Pick.{pick}
use Rattle.base.specs.PickLaws.{pick_through, pick_same}
use Rattle.queue.specs.declared.Character.{Character}
use Rattle.queue.specs.Queue.{capacity, canonical}
use Rattle.queue.proofs.AcceptLaws.{facts_of, kept_accepting}
use Rattle.receiver.specs.declared.Got.{Got}
use Rattle.receiver.specs.Receiver.{none_queued, received, got, lsr_seen, waited, cleared, after_mode_change, restarted}
use Rattle.receiver.specs.Ledger.{Moment, arrives, rbr, lsr, passes, empties, changes, resets, Side, after, after_all}
use Rattle.receiver.specs.Ledger.{Handed, arriving, reading, losing, dropping, arrived_in, read_in, lost_in, dropped_in}

-- its queue is as the bench keeps it
abbrev pub tidy : Side → Bool
tidy s = canonical (capacity s.fifo) s.receiver.queue

pub tidy_after : (s : Side) (m : Moment) → tidy s ≡ true → tidy (after s m) ≡ true
unfolding after received got lsr_seen waited cleared after_mode_change restarted
tidy_after s (arrives ch) t = kept_accepting s.fifo s.receiver.queue ch t
tidy_after s rbr t =
    pick_through (λ (g : Got). canonical (capacity s.fifo) g.receiver.queue) (none_queued s.receiver) _ _
    ∙ ap₂ (pick (none_queued s.receiver)) t ((facts_of s.fifo).kept_taking s.receiver.queue t) ∙ pick_same (none_queued s.receiver) true
tidy_after s lsr t =
    pick_through (canonical (capacity s.fifo)) s.fifo _ _
    ∙ ap₂ (pick s.fifo) ((facts_of s.fifo).kept_unmarking s.receiver.queue t) t ∙ pick_same s.fifo true
tidy_after s passes t = t
tidy_after s empties t = (facts_of s.fifo).none_queued_lem
tidy_after s changes t = (facts_of (not s.fifo)).none_queued_lem
tidy_after s resets t = (facts_of false).none_queued_lem

pub all_tidy : (s : Side) (ms : List Moment) → tidy s ≡ true → tidy (after_all s ms) ≡ true
unfolding after_all
all_tidy s [] t = t
all_tidy s (m ∷ ms) t = all_tidy (after s m) ms (tidy_after s m t)

-- ---- a run and then another are one run

pub after_both : (s : Side) (ms ns : List Moment) → after_all s (ms ++ ns) ≡ after_all (after_all s ms) ns
unfolding after_all
after_both s [] ns = refl
after_both s (m ∷ ms) ns = after_both (after s m) ms ns

pub arrived_both : (ms ns : List Moment) → arrived_in (ms ++ ns) ≡ arrived_in ms ++ arrived_in ns
unfolding arrived_in
arrived_both [] ns = refl
arrived_both (m ∷ ms) ns = ap (λ (l : List Character). arriving m ++ l) (arrived_both ms ns) ∙ sym (append_assoc (arriving m) (arrived_in ms) (arrived_in ns))

pub read_both : (s : Side) (ms ns : List Moment) → read_in s (ms ++ ns) ≡ read_in s ms ++ read_in (after_all s ms) ns
unfolding read_in after_all
read_both s [] ns = refl
read_both s (m ∷ ms) ns =
    ap (λ (l : List Handed). reading s m ++ l) (read_both (after s m) ms ns)
    ∙ sym (append_assoc (reading s m) (read_in (after s m) ms) (read_in (after_all (after s m) ms) ns))

-- what is counted moment by moment
module _ (one : Side → Moment → ℕ) (count : Side → List Moment → ℕ)
    (none : (s : Side) → count s [] ≡ 0) (more : (s : Side) (m : Moment) (ms : List Moment) → count s (m ∷ ms) ≡ one s m + count (after s m) ms) where
  counted_both : (s : Side) (ms ns : List Moment) → count s (ms ++ ns) ≡ count s ms + count (after_all s ms) ns
  unfolding after_all
  counted_both s [] ns = let e = none s in omega (arith, e)
  counted_both s (m ∷ ms) ns =
      let e = counted_both (after s m) ms ns in
      let here = more s m ms in
      let both = more s m (ms ++ ns) in
      omega (arith, e, here, both)

pub lost_both : (s : Side) (ms ns : List Moment) → lost_in s (ms ++ ns) ≡ lost_in s ms + lost_in (after_all s ms) ns
unfolding lost_in
lost_both = counted_both losing lost_in (λ s. refl) (λ s m ms. refl)

pub dropped_both : (s : Side) (ms ns : List Moment) → dropped_in s (ms ++ ns) ≡ dropped_in s ms + dropped_in (after_all s ms) ns
unfolding dropped_in
dropped_both = counted_both dropping dropped_in (λ s. refl) (λ s m ms. refl)
