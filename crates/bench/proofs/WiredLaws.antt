-- The controller's levels are the seats' lines: at power-up, and after every record.
use Rattle.std.specs.Prelude.{ℕ, ◌^◌, ◌<◌, Bool, ◌≡◌, eqb, length, Ok, Err}
use Rattle.std.proofs.Math.Path.{refl, ap, sym}
use Rattle.std.proofs.Common.{subst, ◌∙◌, eqb-true}
use Rattle.std.proofs.Math.Nat.{mod-mod}
use Rattle.std.proofs.Math.ListN.{length-set}
use Rattle.base.specs.Pick.{pick}
use Rattle.base.specs.PickLaws.{pick_cases}
use Rattle.base.specs.Bits.{bit, digit, bits}
use Rattle.rank.specs.Sets.{join, without, with_line}
use Rattle.registers.specs.declared.SeatEvent.{SeatEvent}
use Rattle.seat.specs.Seats.{line, reset}
use Rattle.seat.specs.Steps as seat-step
use Rattle.status.specs.Status as status
use Rattle.channel.specs.Status as channel-status
use Rattle.registers.specs.Words as words
use Rattle.registers.specs.Modem as modem
use Rattle.receiver.specs.Receiver as heard
use Rattle.transmitter.specs.Transmitter as sent
use Rattle.queue.specs.Queue as queued
use Rattle.controller.specs.declared.Controller.{Controller}
use Rattle.controller.specs.declared.Signalled as controller
use Rattle.controller.specs.Signals.{write, acknowledge}
use Rattle.controller.specs.Turns.{settled}
use Rattle.controller.specs.Refusals as controller-refusal
use Rattle.controller.specs.RefusalLaws.{step_done}
use Rattle.controller.proofs.FrameLaws.{LevelMoves, stays, level_moves}
use Rattle.records.specs.declared.Event.{Event}
use Rattle.records.specs.declared.Event.TheVariants.{OfSeat, MasterReset, ReadController, WriteController, Acknowledge}
use Rattle.records.specs.Events.{Record, decoded, seat_count, Decoded}
use Rattle.bench.specs.declared.Bench.{Bench}
use Rattle.bench.specs.declared.Outcome.{Outcome}
use Rattle.bench.specs.Refusals.{room_grounds}
use Rattle.bench.specs.Seats.{chair, seat, with_seat, lines, power_up}
use Rattle.bench.specs.Steps.{room_refusal, after, met, outcome, dealt}
use Rattle.bench.specs.MeetLaws.{outcome_dealt}
use Rattle.bench.specs.FrameLaws.{mapped_length, chair_small}
use Rattle.bench.specs.Wired.{Wired}
use Rattle.bench.specs.LevelLaws.{line_anew}

-- a seat's number, read round the seats, is read round the lines alike: there are as many
around : (n : ℕ) (l : ℕ) (h : Bool) → with_line l n h ≡ with_line l (chair n) h
unfolding with_line
around n l h = ap (λ (k : ℕ). pick h (join l (2 ^ k)) (without l (2 ^ k))) (sym (mod-mod n seat_count))

-- no write and no acknowledge moves the levels
same_levels : (c : Controller) (p b x : ℕ) → LevelMoves c (write p b) x → x ≡ c.lines.levels
same_levels c p b x (stays signal) = refl

same_levels_acknowledged : (c : Controller) (x : ℕ) → LevelMoves c acknowledge x → x ≡ c.lines.levels
same_levels_acknowledged c x (stays signal) = refl

module _ (b : Bench) (w : Wired b) where
  wired_seat : (n : ℕ) (e : SeatEvent) → Wired (after b (OfSeat n e))
  unfolding after with_seat settled
  wired_seat n e =
      record {
        all = length-set b.seats (chair n) _ ∙ w.all;
        levels =
            around n b.controller.lines.levels (line (seat-step.effect (seat b n) e).seat)
            ∙ ap (λ (l : ℕ). with_line l (chair n) (line (seat-step.effect (seat b n) e).seat)) w.levels
            ∙ sym (line_anew b.seats (chair n) _ (mod-mod n seat_count) (subst (λ (k : ℕ). chair n < k) (sym w.all) (chair_small n)));
      }

  wired_reset : Wired (after b MasterReset)
  unfolding after settled
  wired_reset = record { all = mapped_length reset b.seats ∙ w.all; levels = refl }

  wired_write : (port byte : ℕ) → room_refusal b (WriteController port byte) ≡ 0 → Wired (after b (WriteController port byte))
  unfolding after room_refusal room_grounds controller-refusal.refusal
  wired_write port byte none =
      record {
        all = w.all;
        levels =
            ap (λ (s : controller.Signalled). s.controller.lines.levels) (sym (step_done b.controller (write port byte) none))
            ∙ same_levels b.controller port byte _ (level_moves b.controller (write port byte)) ∙ w.levels;
      }

  wired_acknowledge : room_refusal b Acknowledge ≡ 0 → Wired (after b Acknowledge)
  unfolding after room_refusal room_grounds controller-refusal.refusal
  wired_acknowledge none =
      record {
        all = w.all;
        levels =
            ap (λ (s : controller.Signalled). s.controller.lines.levels) (sym (step_done b.controller acknowledge none))
            ∙ same_levels_acknowledged b.controller _ (level_moves b.controller acknowledge) ∙ w.levels;
      }

  wired_after : (e : Event) → room_refusal b e ≡ 0 → Wired (after b e)
  unfolding after
  wired_after (OfSeat n e) none = wired_seat n e
  wired_after MasterReset none = wired_reset
  wired_after (ReadController port) none = w
  wired_after (WriteController port byte) none = wired_write port byte none
  wired_after Acknowledge none = wired_acknowledge none

  wired_met : (e : Event) → Wired (met b e).bench
  unfolding met
  wired_met e =
      pick_cases (λ (o : Outcome). Wired o.bench) (eqb (room_refusal b e) 0) _ _
      (λ none. wired_after e (eqb-true _ _ none)) (λ some. w)

  wired_dealt : (d : Decoded) → Wired (dealt b d).bench
  unfolding dealt
  wired_dealt (Ok e) = wired_met e
  wired_dealt (Err n) = w

  pub wired_kept : (r : Record) → Wired (outcome b r).bench
  wired_kept r = subst (λ (o : Outcome). Wired o.bench) (sym (outcome_dealt b r)) (wired_dealt (decoded r))

-- at power-up every line is low
pub wired_power_up : Wired power_up
unfolding lines bits digit pick bit modem.some_change status.lsr_of status.line_trouble status.causes status.first_cause status.cause_of status.line_of channel-status.line channel-status.msr words.trigger heard.none_queued heard.shown_marks heard.some_marked heard.data_stands heard.timeout_stands sent.none_waiting sent.all_sent queued.oldest queued.any_marked queued.marked
wired_power_up = record { all = refl; levels = refl }
