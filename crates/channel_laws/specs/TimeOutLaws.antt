-- The time-out count over character times: where it rises, how far, and where it stays.
use Prim.Native.Nat.{ℕ, zero, suc, ◌+◌, ◌<◌, ◌≤◌, min}
use Rattle.std.specs.Prelude.{Bool, true, false, not, ◌&&◌, List, ◌∷◌, ◌≡◌, ltb, leb, eqb, replicate}
use Rattle.std.proofs.Math.Path.{ap}
use Rattle.std.proofs.Common.{sym, ◌∙◌, ⊎_elim, le-leb, eq-eqb, ne_eqb, ltb-true, ltb-false}
use native.Mathlib.Omega.{arith}
use Rattle.std.proofs.lemmas.Bool.{lt-leb}
use Rattle.base.specs.PickLaws.{pick_false, either_way}
use Rattle.base.specs.Bits.{bit}
use Rattle.queue.specs.declared.Character.{Character}
use Rattle.queue.proofs.QueueLaws.{holding}
use Rattle.receiver.specs.declared.Receiver.{Receiver}
use Rattle.receiver.specs.Receiver.{none_queued, waited}
use Rattle.receiver.proofs.WaitingLaws.{wait_counts, wait_at_most}
use Rattle.channel.specs.declared.Channel.{Channel}
use Rattle.registers.specs.declared.SeatEvent.TheVariants.{Time}
use Rattle.channel.specs.Parts.{fifo, in_loopback}
use Rattle.channel.specs.StatusLaws.{lsr_data}
use Rattle.channel_laws.specs.CauseLaws.{troubled, ready, cause_named}
use Rattle.registers.proofs.RefusalLaws.{undivided}
use Rattle.channel_laws.specs.SideLaws.{time_shifts, none_back}
use Rattle.channel_laws.specs.SendingLaws.{passed}
use Rattle.channel_laws.specs.AgainLaws.{shows_lsr, named, named_is}
use Rattle.channel_laws.specs.Shown.{shown, after}
use Rattle.channel_laws.specs.Sends.{after_events}

-- "in FIFO mode with a character in the receive queue the time-out count rises": in 16450 mode, and with LSR bit 0 clear, the receive side is equal,
-- where nothing is heard in loopback
pub no_rise : (c : Channel) → undivided c.settings ≡ false → (in_loopback c && c.transmitter.busy) ≡ false → (fifo c && bit 0 (shown c 5)) ≡ false
    → (after c Time).receiver ≡ c.receiver
unfolding waited none_queued
no_rise c going silent none =
    let r = c.receiver in
    let some : bit 0 (shown c 5) ≡ not (eqb r.queue.count 0) = ap (bit 0) (shows_lsr c) ∙ lsr_data c in
    let idle : (fifo c && not (eqb r.queue.count 0) && ltb r.timeout 4) ≡ false
    = ap (λ (b : Bool). fifo c && b && ltb r.timeout 4) (sym some) ∙ ap (λ (b : Bool). b && ltb r.timeout 4) none in
    ap (λ (d : Channel). d.receiver) (time_shifts c going) ∙ ap (waited (fifo c)) (none_back c silent)
    ∙ ap (λ (n : ℕ). record { queue = r.queue; overrun = r.overrun; kept = r.kept; timeout = n; last = r.last })
    (pick_false _ (r.timeout + 1) r.timeout idle)

-- and no more than the count moves, in any mode: a time-out takes no character, and clears nothing; and a character time receives none, outside
-- loopback and where the shift register is empty
pub time_hears : (c : Channel) → undivided c.settings ≡ false → (in_loopback c && c.transmitter.busy) ≡ false
    → let r = (after c Time).receiver in
    (r.queue ≡ c.receiver.queue) × (r.overrun ≡ c.receiver.overrun) × (r.kept ≡ c.receiver.kept) × (r.last ≡ c.receiver.last)
unfolding waited
time_hears c going silent =
    let passes = ap (λ (d : Channel). d.receiver) (time_shifts c going) ∙ ap (waited (fifo c)) (none_back c silent) in (
      ap (λ (r : Receiver). r.queue) passes,
      ap (λ (r : Receiver). r.overrun) passes,
      ap (λ (r : Receiver). r.kept) passes,
      ap (λ (r : Receiver). r.last) passes,
    )

module _ (ch : Character) (l : List Character) where
  -- FIFO mode, something queued: one more at each, "up to 4"
  waits : (r : Receiver) → r.queue ≡ holding (ch ∷ l) → r.timeout ≤ 4 → (waited true r).timeout ≡ min (suc r.timeout) 4
  waits r held most =
      ⊎_elim
      (λ (e : ltb r.timeout 4 ≡ true).
      let less : r.timeout < 4 = ltb-true _ _ e in
      let more : r.timeout + 1 ≡ min (suc r.timeout) 4 = omega arith in
      ap (λ (s : Receiver). s.timeout) (wait_counts r ch l held less) ∙ more)
      (λ (e : ltb r.timeout 4 ≡ false).
      let past : 4 ≤ r.timeout = ltb-false _ _ e in
      let same : r.timeout ≡ min (suc r.timeout) 4 = omega arith in
      ap (λ (s : Receiver). s.timeout) (wait_at_most true r past) ∙ same)
      (either_way (ltb r.timeout 4))

  -- so many character times later, outside loopback
  pub counts : (k : ℕ) (c : Channel) → fifo c ≡ true → c.receiver.queue ≡ holding (ch ∷ l) → c.receiver.timeout ≤ 4 → undivided c.settings ≡ false
      → in_loopback c ≡ false → (after_events c (replicate k Time)).receiver.timeout ≡ min (k + c.receiver.timeout) 4
  unfolding after_events waited
  counts zero c mode held most going outside = omega arith
  counts (suc k) c mode held most going outside =
      let r = c.receiver in
      let silent = none_back c (ap (λ (b : Bool). b && c.transmitter.busy) outside) in
      let one : (passed c).receiver.timeout ≡ min (suc r.timeout) 4
      = ap (λ (s : Receiver). (waited (fifo c) s).timeout) silent ∙ ap (λ (m : Bool). (waited m r).timeout) mode ∙ waits r held most in
      let sum : min (k + (passed c).receiver.timeout) 4 ≡ min (suc k + r.timeout) 4 = omega arith in
      ap (λ (d : Channel). (after_events d (replicate k Time)).receiver.timeout) (time_shifts c going)
      ∙ counts k (passed c) mode (ap (λ (s : Receiver). s.queue) silent ∙ held) (omega arith) going outside ∙ sum

  at_four : (k n : ℕ) → n ≡ 0 → eqb (min (k + n) 4) 4 ≡ leb 4 k
  at_four k n none =
      ⊎_elim
      (λ (e : ltb k 4 ≡ true).
      let less : k < 4 = ltb-true _ _ e in
      ne_eqb _ _ (λ (f : min (k + n) 4 ≡ 4). omega arith) ∙ sym (lt-leb 4 k less))
      (λ (e : ltb k 4 ≡ false).
      let past : 4 ≤ k = ltb-false _ _ e in
      let four : min (k + n) 4 ≡ 4 = omega arith in
      eq-eqb _ _ four ∙ sym (le-leb 4 k past))
      (either_way (ltb k 4))

  -- "0C time-out count 4 (bit 0)": from a count of 0 it is named from the fourth character time on, unless 06 or 04 is
  pub time_out_named : (k : ℕ) (c : Channel) → fifo c ≡ true → c.receiver.queue ≡ holding (ch ∷ l) → c.receiver.timeout ≡ 0 → undivided c.settings ≡ false
      → in_loopback c ≡ false → let d = after_events c (replicate k Time) in
      eqb (named d) 0x0C ≡ (not (troubled d) && not (ready d) && (bit 0 d.settings.ier && leb 4 k))
  time_out_named k c mode held none going outside =
      let d = after_events c (replicate k Time) in
      ap (λ (n : ℕ). eqb n 0x0C) (named_is d) ∙ (cause_named d).time_out
      ∙ ap (λ (b : Bool). not (troubled d) && not (ready d) && (bit 0 d.settings.ier && b))
      (ap (λ (n : ℕ). eqb n 4) (counts k c mode held (omega arith) going outside) ∙ at_four k c.receiver.timeout none)
