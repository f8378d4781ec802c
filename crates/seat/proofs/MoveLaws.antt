-- What an accepted event does to the five tallies of a sound seat, event by event; and a master reset.
use Rattle.std.specs.Prelude.{◌≡◌, ℕ, ◌+◌, ◌-◌, true, false, not, ◌&&◌, ◌||◌, leb, [], ◌∷◌, ◌==◌, nat_eq, nat_le, refl}
use Rattle.std.proofs.Math.Path.{ap}
use Rattle.std.proofs.Common.{sym, ◌∙◌, ⊎_elim, arith}
use Rattle.base.specs.Pick.{pick}
use Rattle.base.specs.PickLaws.{pick_true, pick_false, either_way}
use Rattle.base.specs.Bits.{bit}
use Rattle.queue.specs.Queue.{capacity}
use Rattle.receiver.specs.Ledger.{number, resets}
use Rattle.receiver.proofs.LedgerLaws.{balanced_number}
use Rattle.registers.specs.declared.SeatEvent.{SeatEvent}
use Rattle.registers.specs.declared.SeatEvent.TheVariants.{Read, Write, Arrival, Levels, Time}
use Rattle.channel.specs.Parts.{fifo, in_loopback, divisor_shown}
use Rattle.channel.specs.Effects.{mode_changed}
use Rattle.channel.specs.Moments.{accepted_moments}
use Rattle.channel_laws.specs.MomentLaws.{effect_side, reset_side}
use Rattle.channel_laws.specs.FigureLaws.{Figures, Received, Unmoved, lost_then, levels_figures, arrival_received, arrival_unheard, time_received, time_unheard, other_read_figures, rbr_read_figures, other_write_figures, fcr_write_figures, resets_figures}
use Rattle.seat.specs.declared.Seat.{Seat}
use Rattle.seat.specs.declared.Five.{Five}
use Rattle.seat.specs.Seats.{five, reset}
use Rattle.seat.specs.Steps.{refusal, effect}
use Rattle.seat.specs.Acts as act
use Rattle.seat.specs.Receiving.{side}
use Rattle.seat.specs.Sound.{sound}
use Rattle.seat.proofs.SoundLaws.{sound_parts}
use Rattle.seat.specs.TallyLaws.{heard_soundly, effect_moved, acted_moved}
use Rattle.seat.specs.Moves.{one_arrived, one_read, all_dropped, moved}

-- so many more under each name, and those that did not go still queued
abbrev plus : Five → ℕ → ℕ → ℕ → ℕ → Five
plus f a r l d =
    record { arrived = f.arrived + a; read = f.read + r; lost = f.lost + l; dropped = f.dropped + d; queued = f.queued + a - (r + l + d) }

same_five : {a b c d e a' b' c' d' e' : ℕ} → a ≡ a' → b ≡ b' → c ≡ c' → d ≡ d' → e ≡ e'
    → ◌≡◌ {A = Five} (record { arrived = a; read = b; lost = c; dropped = d; queued = e }) (record { arrived = a'; read = b'; lost = c'; dropped = d'; queued = e' })
same_five p q r s t = cc

module _ (s : Seat) (e : SeatEvent) (ok : sound s ≡ true) (none : nat_eq (refusal s e) 0 ≡ true) where
  abbrev after : Five
  after = five (effect s e).seat

  by_figures : (a r l d : ℕ) → Figures (side s) (accepted_moments s.channel e) a r l d → after ≡ plus (five s) a r l d
  unfolding effect
  by_figures a r l d f =
      let two = sound_parts s ok in
      let m = effect_moved s e none two.0 two.1 in
      let b = balanced_number (side s) (accepted_moments s.channel e) (heard_soundly s two.0) in
      let q = ap number (effect_side s.channel e) in
      same_five (omega (arith, m.arrived_is, f.arrived_is)) (omega (arith, m.read_is, f.read_is)) (omega (arith, m.lost_is, f.lost_is))
      (omega (arith, m.dropped_is, f.dropped_is)) (omega (arith, b, q, f.arrived_is, f.read_is, f.lost_is, f.dropped_is))

  unmoved : Unmoved s.channel e → after ≡ five s
  unmoved f = by_figures 0 0 0 0 f ∙ same_five (omega arith) (omega arith) (omega arith) (omega arith) (omega arith)

  received : Received s.channel e → after ≡ one_arrived s.channel (five s)
  received f =
      let g = five s in
      ⊎_elim
      (λ (full : leb (capacity (fifo s.channel)) g.queued ≡ true).
      let l : lost_then (side s) ≡ 1 = pick_true _ _ _ full in
      by_figures 1 0 (lost_then (side s)) 0 f.figures
      ∙ same_five refl (omega arith) (omega (arith, l)) (omega arith) (omega (arith, l)) ∙ sym (pick_true _ _ _ full))
      (λ (room : leb (capacity (fifo s.channel)) g.queued ≡ false).
      let l : lost_then (side s) ≡ 0 = pick_false _ _ _ room in
      by_figures 1 0 (lost_then (side s)) 0 f.figures
      ∙ same_five refl (omega arith) (omega (arith, l)) (omega arith) (omega (arith, l)) ∙ sym (pick_false _ _ _ room))
      (either_way (nat_le (capacity (fifo s.channel)) g.queued))

  read_one : Figures (side s) (accepted_moments s.channel e) 0 (pick (number (side s) == 0) 0 1) 0 0 → after ≡ one_read (five s)
  read_one f =
      let q = number (side s) in
      ⊎_elim
      (λ (empty : nat_eq q 0 ≡ true).
      let r : ◌≡◌ {A = ℕ} (pick (q == 0) 0 1) 0 = pick_true _ _ _ empty in
      by_figures 0 (pick (q == 0) 0 1) 0 0 f
      ∙ same_five (omega arith) (omega (arith, r)) (omega arith) (omega arith) (omega (arith, r)) ∙ sym (pick_true _ _ _ empty))
      (λ (some : nat_eq q 0 ≡ false).
      let r : ◌≡◌ {A = ℕ} (pick (q == 0) 0 1) 1 = pick_false _ _ _ some in
      by_figures 0 (pick (q == 0) 0 1) 0 0 f
      ∙ same_five (omega arith) (omega (arith, r)) (omega arith) (omega arith) (omega (arith, r)) ∙ sym (pick_false _ _ _ some))
      (either_way (q == 0))

  dropped : Figures (side s) (accepted_moments s.channel e) 0 0 0 (number (side s)) → after ≡ all_dropped (five s)
  dropped f = by_figures 0 0 0 (number (side s)) f ∙ same_five (omega arith) (omega arith) (omega arith) refl (omega arith)

-- every accepted event
pub five_moved : (s : Seat) (e : SeatEvent) → sound s ≡ true → (refusal s e == 0) ≡ true → five (effect s e).seat ≡ moved s.channel (five s) e
five_moved s (Read n) ok none =
    ⊎_elim
    (λ (at : (n == 0 && not (divisor_shown s.channel)) ≡ true).
    read_one s (Read n) ok none (rbr_read_figures s.channel n at) ∙ sym (pick_true _ _ _ at))
    (λ (other : (n == 0 && not (divisor_shown s.channel)) ≡ false).
    unmoved s (Read n) ok none (other_read_figures s.channel n other) ∙ sym (pick_false _ _ _ other))
    (either_way (n == 0 && not (divisor_shown s.channel)))
five_moved s (Write n byte) ok none =
    let asks = n == 2 && ((bit 0 byte && bit 1 byte) || mode_changed s.channel byte) in
    ⊎_elim
    (λ (at : asks ≡ true). dropped s (Write n byte) ok none (fcr_write_figures s.channel n byte at) ∙ sym (pick_true _ _ _ at))
    (λ (other : asks ≡ false). unmoved s (Write n byte) ok none (other_write_figures s.channel n byte other) ∙ sym (pick_false _ _ _ other))
    (either_way asks)
five_moved s (Arrival marks byte) ok none =
    let e = Arrival marks byte in
    ⊎_elim
    (λ (inside : in_loopback s.channel ≡ true). unmoved s e ok none (arrival_unheard s.channel marks byte inside) ∙ sym (pick_true _ _ _ inside))
    (λ (outside : in_loopback s.channel ≡ false). received s e ok none (arrival_received s.channel marks byte outside) ∙ sym (pick_false _ _ _ outside))
    (either_way (in_loopback s.channel))
five_moved s (Levels levels) ok none = unmoved s (Levels levels) ok none (levels_figures s.channel levels)
five_moved s Time ok none =
    let heard = in_loopback s.channel && s.channel.transmitter.busy in
    ⊎_elim
    (λ (inside : heard ≡ true). received s Time ok none (time_received s.channel inside) ∙ sym (pick_true _ _ _ inside))
    (λ (outside : heard ≡ false). unmoved s Time ok none (time_unheard s.channel outside) ∙ sym (pick_false _ _ _ outside))
    (either_way heard)

-- ticket 8: "a master reset drops"
pub five_reset : (s : Seat) → sound s ≡ true → five (reset s) ≡ all_dropped (five s)
five_reset s ok =
    let two = sound_parts s ok in
    let m = acted_moved s act.resets two.0 two.1 in
    let f = resets_figures (side s) in
    let q = ap number (reset_side s.channel) in
    let b = balanced_number (side s) (resets ∷ []) (heard_soundly s two.0) in
    same_five (omega (arith, m.arrived_is, f.arrived_is)) (omega (arith, m.read_is, f.read_is)) (omega (arith, m.lost_is, f.lost_is))
    (m.dropped_is ∙ ap (λ (n : ℕ). s.tallies.dropped + n) f.dropped_is) (omega (arith, b, q, f.arrived_is, f.read_is, f.lost_is, f.dropped_is))
