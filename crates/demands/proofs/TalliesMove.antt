-- Ticket 8 record by record: what moves each tally, and where 19 is given.
use Prim.Native.Nat.{ℕ, ◌-◌, ◌<◌, ◌≤◌}
use mathlib.Core.Bool.{Bool, true, false, ◌&&◌}
use mathlib.Core.List.{List}
use mathlib.Core.Path.{◌≡◌, refl, ap, sym, ◌∙◌}
use mathlib.Core.Logic.{⊎_elim}
use native.Mathlib.Omega.{arith}
use lib.Dec.{eqb, leb}
use borrow.Author.Tests.{eqb-true, eqb-false, le-leb, lt-leb}
use Rattle.base.specs.Pick.{pick}
use Rattle.base.specs.PickLaws.{pick_true, pick_false, pick_through, either_way}
use Rattle.base.specs.Answers.{refusal_of}
use Rattle.registers.specs.declared.SeatEvent.{SeatEvent}
use Rattle.registers.specs.declared.SeatEvent.TheVariants.{Read, Write, Arrival, Levels, Time}
use Rattle.seat.specs.declared.Seat.{Seat}
use Rattle.seat.specs.declared.Replied.{Replied}
use Rattle.seat.specs.Seats.{five}
use Rattle.seat.specs.Acts.{Act, acted_all}
use Rattle.seat.specs.Moves.{moved}
use Rattle.seat.proofs.MoveLaws.{five_moved, five_reset}
use Rattle.seat.specs.Steps as step
use Rattle.seat.specs.StepLaws.{own, number_of, step_taken, step_refused}
use Rattle.seat.specs.CountLaws.{Told, read_told, write_told, levels_told, arrival_told, time_told, full_passes, room_within}
use Rattle.seat.proofs.SoundLaws.{sound_parts}
use Rattle.seat.specs.TallyLaws.{sum}
use Rattle.records.specs.Events.{seat_count, decoded}
use Rattle.bench.specs.declared.Bench.{Bench}
use Rattle.bench.specs.declared.Outcome.{Outcome}
use Rattle.bench.specs.Seats.{seat}
use Rattle.bench.specs.Tallies.{tallies_of}
use Rattle.bench.specs.Steps.{outcome}
use Rattle.bench.specs.Refusals.{refusal}
use Rattle.bench.specs.Runs as runs
use Rattle.bench.specs.Valid.{valid}
use Rattle.bench.specs.FrameLaws.{chair_own}
use Rattle.bench.specs.DoneLaws.{reset_done}
use Rattle.bench.specs.OutcomeLaws.{outcome_number, outcome_refused}
use Rattle.bench.proofs.ValidLaws as bench
use Rattle.demands.specs.Loopback.{record_of, channel_at, OnBench}
use Rattle.demands.specs.Tallies.{five_at, Moves, TalliesMove, would_receive, Full, FullExactly, TalliesTold}
use Rattle.demands.proofs.Loopback.{by_kind, number_at, never_19}
use Rattle.demands.proofs.Tallies.{seat_after}

module _ (n : ℕ) (b : Bench) (there : n < seat_count) (ok : valid b ≡ true) where
  abbrev s : Seat
  s = seat b n

  on : OnBench n b
  on = (there, (bench.parts b ok).wired.all)

  -- ---- what moves

  own_event : (e : SeatEvent)
      → five_at n (outcome b (record_of n e)).bench ≡ pick (eqb (refusal_of (outcome b (record_of n e)).answer) 0) (moved (channel_at n b) (five_at n b) e) (five_at n b)
  own_event e =
      let did = by_kind n b on e in
      let number = number_at n b on e in
      ap five did.0
      ∙ ⊎_elim
      (λ (none : eqb (step.refusal s e) 0 ≡ true).
      ap (λ (t : Replied). five t.seat) (step_taken s e none) ∙ five_moved s e (bench.at_seat_lem b (bench.parts b ok) n) none
      ∙ sym (pick_true _ _ _ (ap (λ (k : ℕ). eqb k 0) number ∙ none)))
      (λ (some : eqb (step.refusal s e) 0 ≡ false).
      ap (λ (t : Replied). five t.seat) (step_refused s e some) ∙ sym (pick_false _ _ _ (ap (λ (k : ℕ). eqb k 0) number ∙ some)))
      (either_way (eqb (step.refusal s e) 0))

  moves : Moves n b
  moves =
      record {
        own_event = own_event;
        reset = λ m k v. ap five (reset_done b on.1 n m k v) ∙ five_reset s (bench.at_seat_lem b (bench.parts b ok) n);
        others = λ r none.
            ap five (seat_after n b on.1 r)
            ∙ ap (λ (acts : List Act). five (acted_all s acts)) (ap (λ (k : ℕ). runs.own k (decoded r)) (chair_own n there) ∙ none);
      }

  -- ---- 19

  receives_told : (e : SeatEvent) → Told (channel_at n b) e (would_receive (channel_at n b) e)
  receives_told (Read k) = read_told (channel_at n b) k
  receives_told (Write k byte) = write_told (channel_at n b) k byte
  receives_told (Arrival marks byte) = arrival_told (channel_at n b) marks byte
  receives_told (Levels levels) = levels_told (channel_at n b) levels
  receives_told Time = time_told (channel_at n b)

  most : s.tallies.arrived ≤ 0xFFFFFFFF
  most = (sum s.tallies (five_at n b).queued (sound_parts s (bench.at_seat_lem b (bench.parts b ok) n)).1).within

  at_largest : leb 0xFFFFFFFF s.tallies.arrived ≡ eqb s.tallies.arrived 0xFFFFFFFF
  at_largest =
      ⊎_elim
      (λ (is : eqb s.tallies.arrived 0xFFFFFFFF ≡ true). le-leb 0xFFFFFFFF s.tallies.arrived (omega (arith, eqb-true s.tallies.arrived 0xFFFFFFFF is)) ∙ sym is)
      (λ (other : eqb s.tallies.arrived 0xFFFFFFFF ≡ false). lt-leb 0xFFFFFFFF s.tallies.arrived (omega (arith, most, eqb-false s.tallies.arrived 0xFFFFFFFF other)) ∙ sym other)
      (either_way (eqb s.tallies.arrived 0xFFFFFFFF))

  passes_is : (e : SeatEvent) → step.would_pass s e ≡ (would_receive (channel_at n b) e && eqb s.tallies.arrived 0xFFFFFFFF)
  passes_is e =
      let full = would_receive (channel_at n b) e && leb 0xFFFFFFFF s.tallies.arrived in
      ⊎_elim
      (λ (is : full ≡ true). full_passes s e _ (receives_told e) is ∙ sym is)
      (λ (none : full ≡ false). room_within s e _ (receives_told e) none ∙ sym none)
      (either_way full)
      ∙ ap (λ (x : Bool). would_receive (channel_at n b) e && x) at_largest

  exactly : (e : SeatEvent)
      → eqb (refusal_of (outcome b (record_of n e)).answer) 19
      ≡ (eqb (own s e) 0 && (would_receive (channel_at n b) e && eqb s.tallies.arrived 0xFFFFFFFF))
  exactly e =
      ap (λ (k : ℕ). eqb k 19) (number_at n b on e ∙ number_of s e)
      ∙ ⊎_elim
      (λ (none : eqb (own s e) 0 ≡ true).
      ap (λ (k : ℕ). eqb k 19) (pick_true _ _ _ none) ∙ nineteen (step.would_pass s e) ∙ passes_is e
      ∙ sym (ap (λ (x : Bool). x && (would_receive (channel_at n b) e && eqb s.tallies.arrived 0xFFFFFFFF)) none))
      (λ (some : eqb (own s e) 0 ≡ false).
      ap (λ (k : ℕ). eqb k 19) (pick_false _ (pick (step.would_pass s e) 19 0) (own s e) some) ∙ never_19 (channel_at n b).settings e
      ∙ sym (ap (λ (x : Bool). x && (would_receive (channel_at n b) e && eqb s.tallies.arrived 0xFFFFFFFF)) some))
      (either_way (eqb (own s e) 0))
    where
      nineteen : (x : Bool) → eqb (pick x 19 0) 19 ≡ x
      nineteen x = pick_through (λ (k : ℕ). eqb k 19) x 19 0 ∙ picked x
        where
          picked : (y : Bool) → pick y true false ≡ y
          picked true = pick_true true true false refl
          picked false = pick_false false true false refl

  full : Full n b
  full =
      record {
        exactly = exactly;
        unchanged = λ r is.
            ap (λ (o : Outcome). o.bench)
            (outcome_refused b r (λ (none : refusal b r ≡ 0). let z : ◌≡◌ {A = ℕ} 19 0 = sym is ∙ outcome_number b r ∙ none in omega (arith, z)));
      }

pub tallies_move : TalliesMove
tallies_move n b there ok = moves n b there ok

pub full_exactly : FullExactly
full_exactly n b there ok = full n b there ok

-- ---- the call

pub tallies_told : TalliesTold
unfolding tallies_of
tallies_told n b = record { there = λ less. pick_false _ _ _ (lt-leb 8 n less); nowhere = λ more. pick_true _ _ _ (le-leb 8 n more) }
