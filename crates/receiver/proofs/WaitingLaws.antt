-- The time-out count: where it rises, and where a character time leaves an equal receive side.
use Prim.Native.Nat.{ℕ, zero, suc, ◌+◌, ◌<◌, ◌≤◌, min}
use Rattle.std.specs.Prelude.{Bool, false, not, ◌&&◌, List, [], ◌∷◌, ◌≡◌, refl, leb}
use Rattle.std.proofs.Math.Bool.{true, and-false}
use Rattle.std.proofs.Math.Path.{ap, sym}
use Rattle.std.proofs.Common.{◌∙◌}
use Rattle.std.proofs.Math.Logic.{⊎_elim}
use native.Mathlib.Omega.{arith}
use Rattle.std.proofs.Math.Dec.{ltb, eqb}
use borrow.Author.Tests.{lt-ltb, le-ltb, le-leb, lt-leb, eq-eqb, ne_eqb, ltb-true, ltb-false}
use Rattle.base.specs.PickLaws.{pick_true, pick_false, either_way}
use Rattle.queue.specs.declared.Character.{Character}
use Rattle.queue.proofs.QueueLaws.{holding}
use Rattle.receiver.specs.declared.Receiver.{Receiver}
use Rattle.receiver.specs.Receiver.{none_queued, waited, timeout_stands}
use Rattle.receiver.specs.CallLaws.{none_queued_lem, some_queued}
use Rattle.receiver.specs.Waiting.{waits}

-- the same receive side at another count
abbrev at_count : Receiver → ℕ → Receiver
at_count r n = record { queue = r.queue; overrun = r.overrun; kept = r.kept; timeout = n; last = r.last }

-- FIFO mode, something queued, below 4: one more, and nothing else changes
pub wait_counts : (r : Receiver) (ch : Character) (l : List Character) → r.queue ≡ holding (ch ∷ l) → r.timeout < 4
    → waited true r ≡ record { queue = r.queue; overrun = r.overrun; kept = r.kept; timeout = r.timeout + 1; last = r.last }
unfolding waited
wait_counts r ch l held less =
    ap (at_count r) (pick_true _ (r.timeout + 1) r.timeout (rw (some_queued r ch l held, lt-ltb r.timeout 4 less)))

-- never past 4
pub wait_at_most : (fifo : Bool) (r : Receiver) → 4 ≤ r.timeout → waited fifo r ≡ r
unfolding waited
wait_at_most fifo r more =
    ap (at_count r) (pick_false _ (r.timeout + 1) r.timeout (rw (le-ltb r.timeout 4 more) (and-false (fifo && not (none_queued r)))))

-- not with nothing queued
pub wait_none : (fifo : Bool) (r : Receiver) → r.queue ≡ holding [] → waited fifo r ≡ r
unfolding waited
wait_none fifo r held =
    ap (at_count r) (pick_false _ (r.timeout + 1) r.timeout (rw (none_queued_lem r held, and-false fifo)))

-- never in 16450 mode
pub wait_16450 : (r : Receiver) → waited false r ≡ r
unfolding waited
wait_16450 r = ap (at_count r) (pick_false _ (r.timeout + 1) r.timeout refl)

module _ (r : Receiver) (ch : Character) (l : List Character) (held : r.queue ≡ holding (ch ∷ l)) (zero-count : r.timeout ≡ 0) where
  -- n character times from 0
  pub counts_up : (n : ℕ) → waits true n r ≡ record { queue = r.queue; overrun = r.overrun; kept = r.kept; timeout = min n 4; last = r.last }
  unfolding waits
  counts_up zero = ap (at_count r) zero-count
  counts_up (suc n) =
      ap (waited true) (counts_up n)
      ∙ ⊎_elim
      (λ (e : ltb n 4 ≡ true).
      let less : n < 4 = ltb-true _ _ e in
      let more : min n 4 + 1 ≡ min (suc n) 4 = omega arith in
      wait_counts (at_count r (min n 4)) ch l held (omega arith) ∙ ap (at_count r) more)
      (λ (e : ltb n 4 ≡ false).
      let past : 4 ≤ n = ltb-false _ _ e in
      let same : min n 4 ≡ min (suc n) 4 = omega arith in
      wait_at_most true (at_count r (min n 4)) (omega arith) ∙ ap (at_count r) same)
      (either_way (ltb n 4))

  -- so a time-out stands from the fourth on, and not before
  pub times_out : (n : ℕ) → timeout_stands (waits true n r) ≡ leb 4 n
  unfolding timeout_stands
  times_out n =
      ap (λ (s : Receiver). eqb s.timeout 4) (counts_up n)
      ∙ ⊎_elim
      (λ (e : ltb n 4 ≡ true).
      let less : n < 4 = ltb-true _ _ e in
      let few : min n 4 ≡ 4 → ⊥ = λ (f : min n 4 ≡ 4). omega arith in
      ne_eqb _ _ few ∙ sym (lt-leb 4 n less))
      (λ (e : ltb n 4 ≡ false).
      let past : 4 ≤ n = ltb-false _ _ e in
      let four : min n 4 ≡ 4 = omega arith in
      eq-eqb _ _ four ∙ sym (le-leb 4 n past))
      (either_way (ltb n 4))
