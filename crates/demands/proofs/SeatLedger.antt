-- The receive ledger of a seat of the bench: the ledger of its receive side, over what befalls it.
use Prim.Native.Nat.{ℕ, ◌+◌}
use mathlib.Core.Bool.{true, false}
use mathlib.Core.List.{List, [], ◌∷◌, ◌++◌, append-nil}
use mathlib.Core.Path.{◌≡◌, refl, ap, sym, subst, ◌∙◌}
use mathlib.Core.Logic.{⊎_elim}
use native.Mathlib.Omega.{arith}
use lib.Dec.{eqb}
use lib.ListN.{length, get_or-replicate}
use borrow.Author.Tests.{eqb-true}
use Rattle.base.specs.PickLaws.{pick_true, pick_false, either_way}
use Rattle.base.specs.declared.Answer.{Answer}
use Rattle.base.specs.Subsequences.{Subsequence}
use Rattle.queue.specs.declared.Character.{Character}
use Rattle.receiver.specs.Ledger.{Moment, resets, Side, Handed, characters, bytes, arrived_in, read_in, lost_in, dropped_in, queued}
use Rattle.receiver.specs.Ledger as side-run
use Rattle.receiver.proofs.LedgerLaws.{ledger}
use Rattle.receiver.proofs.SideLaws.{after_both, arrived_both, read_both, lost_both, dropped_both}
use Rattle.registers.specs.declared.SeatEvent.{SeatEvent}
use Rattle.channel.specs.Moments.{telling, told_in}
use Rattle.seat.specs.declared.Seat.{Seat}
use Rattle.seat.specs.Seats.{no_seat}
use Rattle.seat.specs.Seats as one
use Rattle.seat.specs.Steps.{stepped}
use Rattle.seat.specs.Acts.{Act, event}
use Rattle.seat.specs.Receiving.{side, moments_of, befalling, receives_soundly}
use Rattle.seat.specs.ReceivingLaws.{acts_side, step_told, power_up_queued, power_up_receives}
use Rattle.records.specs.declared.Event.TheVariants.{OfSeat, MasterReset, ReadController, WriteController, Acknowledge}
use Rattle.records.specs.Events.{Record, decoded, seat_count, Decoded}
use Rattle.bench.specs.declared.Bench.{Bench}
use Rattle.bench.specs.declared.Outcome.{Outcome}
use Rattle.bench.specs.Seats.{chair, seat, power_up}
use Rattle.bench.specs.Steps.{met, outcome, dealt}
use Rattle.bench.specs.Runs.{own, after_all}
use Rattle.bench.specs.MeetLaws.{outcome_dealt}
use Rattle.bench.specs.FrameLaws.{seat_acts, seat_by_chair, chair_small}
use Rattle.bench.specs.DoneLaws.{seat_answer}
use Rattle.bench.specs.RunLaws.{all_kept}
use Rattle.demands.specs.Demand2.{ends}
use Rattle.demands.specs.SeatLedger.{befalls, befalls_in, arrived_at, read_at, lost_at, dropped_at, queued_at, SoundAt, SeatLedger, SeatLedgerFromPowerUp}
use Rattle.std.specs.Prelude.{Ok, Err}
use Rattle.demands.proofs.Demand2.{outcome_meets, demand_2}

-- ---- one record

seat_side : (b : Bench) → length b.seats ≡ seat_count → (n : ℕ) (r : Record)
    → side (seat (outcome b r).bench n) ≡ side-run.after_all (side (seat b n)) (befalls n b r)
seat_side b all n r =
    ap (λ (o : Outcome). side (seat o.bench n)) (outcome_dealt b r) ∙ ap side (seat_acts b all n (decoded r))
    ∙ acts_side (seat b n) (own (chair n) (decoded r))

-- what the answer tells is what is read
abbrev Told : Side → Answer → List Moment → Type 0
Told s a ms = told_in s a ms ≡ read_in s ms

none_told : (s : Side) (a : Answer) → Told s a []
unfolding told_in read_in
none_told s a = refl

reset_told : (s : Side) (a : Answer) → Told s a (resets ∷ [])
unfolding told_in telling read_in
reset_told s a = refl

event_told : (b : Bench) (n m : ℕ) (e : SeatEvent) → chair m ≡ chair n
    → Told (side (seat b n)) (met b (OfSeat m e)).answer (befalling (seat b n) (event e ∷ []))
event_told b n m e here =
    let s = seat b n in
    let a : (met b (OfSeat m e)).answer ≡ (stepped s e).answer
    = seat_answer b m e ∙ ap (λ (t : Seat). (stepped t e).answer) (seat_by_chair b m n here) in
    subst (λ (ms : List Moment). Told (side s) (met b (OfSeat m e)).answer ms) (sym (append-nil (moments_of s e)))
    (subst (λ (x : Answer). Told (side s) x (moments_of s e)) (sym a) (step_told s e))

dealt_told : (b : Bench) (n : ℕ) (d : Decoded) → Told (side (seat b n)) (dealt b d).answer (befalling (seat b n) (own (chair n) d))
unfolding dealt own
dealt_told b n (Ok (OfSeat m e)) =
    let s = seat b n in
    let P : List Act → Type 0 = λ acts. Told (side s) (met b (OfSeat m e)).answer (befalling s acts) in
    ⊎_elim
    (λ (here : eqb (chair m) (chair n) ≡ true). subst P (sym (pick_true _ _ _ here)) (event_told b n m e (eqb-true _ _ here)))
    (λ (elsewhere : eqb (chair m) (chair n) ≡ false). subst P (sym (pick_false _ _ _ elsewhere)) (none_told (side s) _))
    (either_way (eqb (chair m) (chair n)))
dealt_told b n (Ok MasterReset) = reset_told (side (seat b n)) _
dealt_told b n (Ok (ReadController port)) = none_told (side (seat b n)) _
dealt_told b n (Ok (WriteController port byte)) = none_told (side (seat b n)) _
dealt_told b n (Ok Acknowledge) = none_told (side (seat b n)) _
dealt_told b n (Err number) = none_told (side (seat b n)) _

record_told : (b : Bench) (n : ℕ) (r : Record) → Told (side (seat b n)) (outcome b r).answer (befalls n b r)
record_told b n r =
    subst (λ (o : Outcome). Told (side (seat b n)) o.answer (befalls n b r)) (sym (outcome_dealt b r)) (dealt_told b n (decoded r))

-- ---- a run of records

abbrev moments : ℕ → Bench → List Record → List Moment
moments = befalls_in outcome

-- what of a run of moments is told in two parts, told record by record
module _ {A : Type 0} (join : A → A → A) (told : Side → List Moment → A)
    (both : (s : Side) (ms ns : List Moment) → told s (ms ++ ns) ≡ join (told s ms) (told (side-run.after_all s ms) ns))
    (n : ℕ) (at : Bench → List Record → A) (none : (b : Bench) → told (side (seat b n)) [] ≡ at b [])
    (more : (b : Bench) (r : Record) (rs : List Record) → join (told (side (seat b n)) (befalls n b r)) (at (outcome b r).bench rs) ≡ at b (r ∷ rs)) where
  by_record : (b : Bench) → length b.seats ≡ seat_count → (rs : List Record) → told (side (seat b n)) (moments n b rs) ≡ at b rs
  by_record b all [] = none b
  by_record b all (r ∷ rs) =
      both (side (seat b n)) (befalls n b r) (moments n (outcome b r).bench rs)
      ∙ ap (join (told (side (seat b n)) (befalls n b r)))
      (ap (λ (s : Side). told s (moments n (outcome b r).bench rs)) (sym (seat_side b all n r)) ∙ by_record (outcome b r).bench (all_kept b r ∙ all) rs)
      ∙ more b r rs

module _ (n : ℕ) (b : Bench) (all : length b.seats ≡ seat_count) (rs : List Record) where
  pub all_arrived : arrived_in (moments n b rs) ≡ arrived_at outcome n b rs
  unfolding arrived_in
  all_arrived = by_record ◌++◌ (λ s ms. arrived_in ms) (λ s ms ns. arrived_both ms ns) n (arrived_at outcome n) (λ c. refl) (λ c r ss. refl) b all rs

  pub all_after : side-run.after_all (side (seat b n)) (moments n b rs) ≡ side (seat (ends outcome b rs) n)
  unfolding side-run.after_all
  all_after = by_record (λ s t. t) side-run.after_all after_both n (λ c ss. side (seat (ends outcome c ss) n)) (λ c. refl) (λ c r ss. refl) b all rs

  pub all_read : read_in (side (seat b n)) (moments n b rs) ≡ read_at outcome n b rs
  unfolding read_in
  all_read =
      by_record ◌++◌ read_in read_both n (read_at outcome n) (λ c. refl)
      (λ c r ss. ap (λ (l : List Handed). l ++ read_at outcome n (outcome c r).bench ss) (sym (record_told c n r))) b all rs

  pub all_lost : lost_in (side (seat b n)) (moments n b rs) ≡ lost_at outcome n b rs
  unfolding lost_in
  all_lost = by_record ◌+◌ lost_in lost_both n (lost_at outcome n) (λ c. refl) (λ c r ss. refl) b all rs

  pub all_dropped_lem : dropped_in (side (seat b n)) (moments n b rs) ≡ dropped_at outcome n b rs
  unfolding dropped_in
  all_dropped_lem = by_record ◌+◌ dropped_in dropped_both n (dropped_at outcome n) (λ c. refl) (λ c r ss. refl) b all rs

pub seat_ledger : SeatLedger
seat_ledger n b rs all sound =
    let l = ledger (side (seat b n)) (moments n b rs) sound in
    let come = all_arrived n b all rs in
    let reads = all_read n b all rs in
    let lost = all_lost n b all rs in
    let drops = all_dropped_lem n b all rs in
    let end = all_after n b all rs in
    record {
      in_order =
          subst (λ (x : List Character). Subsequence (bytes (characters (read_at outcome n b rs)) ++ queued_at n (ends outcome b rs)) (queued_at n b ++ bytes x)) come
          (subst (λ (x : List Handed). Subsequence (bytes (characters x) ++ queued_at n (ends outcome b rs)) (queued_at n b ++ bytes (arrived_in (moments n b rs)))) reads
          (subst
          (λ (s : Side). Subsequence (bytes (characters (read_in (side (seat b n)) (moments n b rs))) ++ queued s) (queued_at n b ++ bytes (arrived_in (moments n b rs))))
          end l.in_order));
      balanced = omega (arith, l.balanced, ap length come, ap length reads, lost, drops, ap (λ (s : Side). length (queued s)) end);
    }

-- the bench at power-up has at every number the seat of power-up, whose queue is empty
pub seat_at_power_up : (n : ℕ) → seat power_up n ≡ one.power_up
unfolding seat
seat_at_power_up n = get_or-replicate seat_count (chair n) one.power_up no_seat (chair_small n)

none_queued_at : (n : ℕ) → queued_at n power_up ≡ []
none_queued_at n = ap (λ (s : Seat). queued (side s)) (seat_at_power_up n) ∙ power_up_queued

pub sound_at : (n : ℕ) → SoundAt n power_up
sound_at n = subst (λ (s : Seat). receives_soundly s ≡ true) (sym (seat_at_power_up n)) power_up_receives

-- the definition's run leaves the bench of its own run
pub runs_out : (rs : List Record) → ends outcome power_up rs ≡ after_all power_up rs
runs_out rs = (demand_2 outcome outcome_meets power_up rs).1

pub seat_ledger_from_power_up : SeatLedgerFromPowerUp
seat_ledger_from_power_up n rs =
    let l = seat_ledger n power_up rs refl (sound_at n) in
    let end = ap (λ (b : Bench). queued_at n b) (runs_out rs) in
    record {
      in_order =
          subst (λ (x : List ℕ). Subsequence (bytes (characters (read_at outcome n power_up rs)) ++ x) (bytes (arrived_at outcome n power_up rs))) end
          (subst
          (λ (x : List ℕ). Subsequence (bytes (characters (read_at outcome n power_up rs)) ++ queued_at n (ends outcome power_up rs)) (x ++ bytes (arrived_at outcome n power_up rs)))
          (none_queued_at n) l.in_order);
      balanced = omega (arith, l.balanced, ap length (none_queued_at n), ap length end);
    }
