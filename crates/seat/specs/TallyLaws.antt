-- Tallies that add up go on adding up, and never wrap; a sound seat's are those of the start and what the ledger has of all that befell it since.
use Rattle.std.specs.Prelude.{◌≡◌, ℕ, ◌+◌, ◌-◌, ◌≤◌, Bool, true, false, ◌&&◌, List, [], ◌∷◌, ◌++◌, length, ◌==◌, nat_eq, nat_le}
use Rattle.std.proofs.Common.{ap, ap₂, sym, subst, ⊎_elim, arith, length-append, eqb-true, leb-true, ltb-false, eq-eqb, le-leb}
use Rattle.base.specs.PickLaws.{pick_true, pick_false, not_both, both_hold, either_way}
use Rattle.receiver.specs.Ledger.{Moment, Side, number, arrived_in, read_in, lost_in, dropped_in, after_all}
use Rattle.receiver.specs.Ledger as moment
use Rattle.receiver.specs.Sound.{sound_receiver}
use Rattle.receiver.proofs.LedgerLaws.{balanced_number}
use Rattle.receiver.proofs.SideLaws.{arrived_both, read_both, lost_both, dropped_both}
use Rattle.registers.specs.declared.SeatEvent.{SeatEvent}
use Rattle.channel.specs.Moments.{accepted_moments}
use Rattle.channel.specs.Sound.{sound_channel}
use Rattle.channel_laws.specs.MomentLaws.{effect_side, reset_side}
use Rattle.channel_laws.specs.SoundLaws as channel
use Rattle.seat.specs.declared.Seat.{Seat}
use Rattle.seat.specs.declared.Replied.{Replied}
use Rattle.seat.specs.declared.Tallies.{Tallies}
use Rattle.seat.specs.Tallies.{largest, tallied, add_up}
use Rattle.seat.specs.Seats.{queued}
use Rattle.seat.specs.Steps.{would_pass, refusal, effect, stepped}
use Rattle.seat.specs.StepLaws.{step_taken, step_refused, last_refused}
use Rattle.seat.specs.Acts.{Act, event, resets, acted}
use Rattle.seat.specs.Receiving.{side, befalls_by, receives_soundly}

-- each of the four is what it was and what the ledger has under its name
pub record Moved (t : Tallies) (s : Side) (ms : List Moment) (t' : Tallies) : Type 0 where
  pub arrived_is : t'.arrived ≡ t.arrived + length (arrived_in ms)
  pub read_is : t'.read ≡ t.read + length (read_in s ms)
  pub lost_is : t'.lost ≡ t.lost + lost_in s ms
  pub dropped_is : t'.dropped ≡ t.dropped + dropped_in s ms

-- what tallies that add up say, as numbers
pub record Sum (t : Tallies) (queued : ℕ) : Type 0 where
  pub total : t.read + t.lost + t.dropped + queued ≡ t.arrived
  pub within : t.arrived ≤ largest

pub sum : (t : Tallies) (n : ℕ) → add_up t n ≡ true → Sum t n
unfolding add_up
sum t n adds =
    let two = both_hold (t.read + t.lost + t.dropped + n == t.arrived) (nat_le t.arrived largest) adds in
    record { total = eqb-true _ _ two.0; within = leb-true _ _ two.1 }

pub summed : (t : Tallies) (n : ℕ) → Sum t n → add_up t n ≡ true
unfolding add_up
summed t n s = ap₂ (λ (a b : Bool). a && b) (eq-eqb _ _ s.total) (le-leb _ _ s.within)

-- ---- a run of moments

-- as long as what arrives stays within the largest number, nothing wraps, and they add up again
module _ (t : Tallies) (s : Side) (ms : List Moment) (sound : sound_receiver s.fifo s.receiver ≡ true) (adds : Sum t (number s))
    (left : t.arrived + length (arrived_in ms) ≤ largest) where
  abbrev now : Tallies
  now = tallied t s ms

  run_moved : Moved t s ms now
  unfolding tallied
  run_moved =
      let b = balanced_number s ms sound in
      record {
        arrived_is = omega (arith, left);
        read_is = omega (arith, left, b, adds.total);
        lost_is = omega (arith, left, b, adds.total);
        dropped_is = omega (arith, left, b, adds.total);
      }

  run_adds : add_up now (number (after_all s ms)) ≡ true
  run_adds =
      let b = balanced_number s ms sound in
      let m = run_moved in
      summed now (number (after_all s ms))
      (record {
        total = omega (arith, b, adds.total, m.arrived_is, m.read_is, m.lost_is, m.dropped_is);
        within = omega (arith, left, m.arrived_is);
      })

-- ---- one act of a sound seat

-- the receive side of a sound channel is sound
pub heard_soundly : (s : Seat) → sound_channel s.channel ≡ true → receives_soundly s ≡ true
heard_soundly s sound = (channel.parts s.channel sound).receiver

-- an accepted event does not pass the largest
within_left : (s : Seat) (e : SeatEvent) → (refusal s e == 0) ≡ true → s.tallies.arrived ≤ largest
    → s.tallies.arrived + length (arrived_in (accepted_moments s.channel e)) ≤ largest
within_left s e taken fits =
    ⊎_elim
    (λ (passes : would_pass s e ≡ true). absurd (not_both taken (last_refused s e passes)))
    (λ (within : would_pass s e ≡ false).
    let less = ltb-false (largest - s.tallies.arrived) (length (arrived_in (accepted_moments s.channel e))) within in
    omega (arith, less, fits))
    (either_way (would_pass s e))

-- nothing befell it, and nothing moved
pub still : (t : Tallies) (s : Side) → Moved t s [] t
unfolding arrived_in read_in lost_in dropped_in
still t s = record { arrived_is = omega arith; read_is = omega arith; lost_is = omega arith; dropped_is = omega arith }

pub effect_moved : (s : Seat) (e : SeatEvent) → (refusal s e == 0) ≡ true → sound_channel s.channel ≡ true → add_up s.tallies (queued s) ≡ true
    → Moved s.tallies (side s) (accepted_moments s.channel e) (effect s e).seat.tallies
unfolding effect
effect_moved s e none sound adds =
    let is = sum s.tallies (queued s) adds in
    run_moved s.tallies (side s) (accepted_moments s.channel e) (heard_soundly s sound) is (within_left s e none is.within)

pub acted_moved : (s : Seat) (a : Act) → sound_channel s.channel ≡ true → add_up s.tallies (queued s) ≡ true
    → Moved s.tallies (side s) (befalls_by s a) (acted s a).tallies
unfolding arrived_in
acted_moved s (event e) sound adds =
    ⊎_elim
    (λ (none : nat_eq (refusal s e) 0 ≡ true).
    subst (λ (ms : List Moment). Moved s.tallies (side s) ms (stepped s e).seat.tallies) (sym (pick_true _ _ _ none))
    (subst (λ (t : Replied). Moved s.tallies (side s) (accepted_moments s.channel e) t.seat.tallies) (sym (step_taken s e none))
    (effect_moved s e none sound adds)))
    (λ (some : nat_eq (refusal s e) 0 ≡ false).
    subst (λ (ms : List Moment). Moved s.tallies (side s) ms (stepped s e).seat.tallies) (sym (pick_false _ (accepted_moments s.channel e) [] some))
    (subst (λ (t : Replied). Moved s.tallies (side s) [] t.seat.tallies) (sym (step_refused s e some)) (still s.tallies (side s))))
    (either_way (refusal s e == 0))
acted_moved s resets sound adds =
    let is = sum s.tallies (queued s) adds in
    run_moved s.tallies (side s) (moment.resets ∷ []) (heard_soundly s sound) is (omega (arith, is.within))

-- and they add up after it
pub effect_adds : (s : Seat) (e : SeatEvent) → (refusal s e == 0) ≡ true → sound_channel s.channel ≡ true → add_up s.tallies (queued s) ≡ true
    → add_up (effect s e).seat.tallies (queued (effect s e).seat) ≡ true
unfolding effect
effect_adds s e none sound adds =
    let is = sum s.tallies (queued s) adds in
    subst (λ (x : Side). add_up (tallied s.tallies (side s) (accepted_moments s.channel e)) (number x) ≡ true)
    (sym (effect_side s.channel e))
    (run_adds s.tallies (side s) (accepted_moments s.channel e) (heard_soundly s sound) is (within_left s e none is.within))

pub reset_adds : (s : Seat) → sound_channel s.channel ≡ true → add_up s.tallies (queued s) ≡ true
    → add_up (acted s resets).tallies (queued (acted s resets)) ≡ true
unfolding arrived_in
reset_adds s sound adds =
    let is = sum s.tallies (queued s) adds in
    subst (λ (x : Side). add_up (acted s resets).tallies (number x) ≡ true) (sym (reset_side s.channel))
    (run_adds s.tallies (side s) (moment.resets ∷ []) (heard_soundly s sound) is (omega (arith, is.within)))

-- ---- two runs, one behind the other

pub moved_both : (t t' t'' : Tallies) (s : Side) (ms ns : List Moment) → Moved t s ms t' → Moved t' (after_all s ms) ns t'' → Moved t s (ms ++ ns) t''
moved_both t t' t'' s ms ns a b =
    record {
      arrived_is = omega (arith, a.arrived_is, b.arrived_is, ap length (arrived_both ms ns), length-append (arrived_in ms) (arrived_in ns));
      read_is = omega (arith, a.read_is, b.read_is, ap length (read_both s ms ns), length-append (read_in s ms) (read_in (after_all s ms) ns));
      lost_is = omega (arith, a.lost_is, b.lost_is, lost_both s ms ns);
      dropped_is = omega (arith, a.dropped_is, b.dropped_is, dropped_both s ms ns);
    }
