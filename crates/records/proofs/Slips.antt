-- Closed runs on one seat and the controller from power-up: what they show is false under the slips of must-fail/.
use Prim.Native.Nat.{ℕ}
use mathlib.Core.List.{List, [], ◌∷◌, ◌++◌, map}
use mathlib.Core.Path.{◌≡◌, refl}
use Rattle.base.specs.Pick as base-pick
use Rattle.base.specs.Bits as base-bits
use Rattle.base.specs.Answers as base-answers
use Rattle.base.specs.Refusals as base-refusals
use Rattle.base.specs.Bits.{digit}
use Rattle.base.specs.Answers.{refusal_of, value_of}
use Rattle.queue.specs.Queue as queue
use Rattle.receiver.specs.Receiver as receiver
use Rattle.receiver.specs.Ledger as ledger
use Rattle.transmitter.specs.Transmitter as transmitter
use Rattle.registers.specs.Registers as registers
use Rattle.registers.specs.Words as settings
use Rattle.registers.specs.Modem as modem
use Rattle.registers.specs.Loopback as loopback
use Rattle.registers.specs.Refusals as settled-by
use Rattle.status.specs.Status as status
use Rattle.channel.specs.Parts as channel-parts
use Rattle.channel.specs.Status as channel-status
use Rattle.channel.specs.Effects as effects
use Rattle.channel.specs.Moments as moments
use Rattle.channel.specs.Steps as channel
use Rattle.seat.specs.declared.Seat.{Seat}
use Rattle.seat.specs.Tallies as tallies
use Rattle.seat.specs.Seats as seats
use Rattle.seat.specs.Steps as seat
use Rattle.rank.specs.Sets as sets
use Rattle.rank.specs.Rank as rank
use Rattle.controller.specs.declared.Controller.{Controller}
use Rattle.controller.specs.State as state
use Rattle.controller.specs.Turns as turns
use Rattle.controller.specs.Words as words
use Rattle.controller.specs.Refusals as refusing
use Rattle.controller.specs.Steps as controller
use Rattle.records.specs.declared.Touched.{Touched}
use Rattle.records.specs.Events as events
use Rattle.records.specs.Parts as parts
use Rattle.records.specs.Events.{Record, whole}
use Rattle.records.specs.Parts.{parted}

-- what each of some records makes of a seat and the controller that those before it left
abbrev run_on : Seat → Controller → List Record → List Touched
run_on s c [] = []
run_on s c (r ∷ rs) = parted s c r ∷ run_on (parted s c r).seat (parted s c r).controller rs

-- the same from power-up; it opens what a run computes with
unfoldable pub run : List Record → List Touched
unfolding base-pick.pick base-bits.bit base-bits.digit base-answers.refusal_of base-answers.value_of base-refusals.first_of base-refusals.refusal_by queue.oldest queue.any_marked queue.marked receiver.none_queued receiver.shown_marks receiver.some_marked receiver.data_stands receiver.timeout_stands receiver.restarted transmitter.none_waiting transmitter.all_sent transmitter.flag_set_if transmitter.enabled settings.trigger registers.plain_register registers.register_at modem.changes_after modem.some_change loopback.inputs_of channel-parts.master_reset status.lsr_of status.line_trouble status.causes status.first_cause status.cause_of status.iir_of status.line_of channel-status.lsr channel-status.msr channel-status.cause channel-status.iir channel-status.line effects.iir_read effects.answer_at effects.after_read effects.ier_written effects.noticed effects.mcr_written effects.after_write settled-by.grounds channel.effect seat.refusal seat.effect seat.stepped rank.before rank.above_every rank.find rank.first_place sets.with_line turns.settled turns.requests turns.asks turns.hinders turns.grantable turns.output_of turns.found turns.granted turns.taken turns.grant turns.acknowledged words.icw1 words.icw2 words.icw4 words.ended words.served words.plain_end words.command words.ocw2 words.written0 words.written1 words.written words.shown refusing.grounds refusing.refusal controller.step events.early events.event_of events.decoded parts.touched parts.met_parts parts.dealt_parts ledger.arrived_in moments.accepted_moments moments.read_moments moments.write_moments moments.arrival_moments tallies.tallied
run rs = run_on seats.power_up state.power_up rs

-- what each of them shows: its refusal number, its answer, and the output after it
abbrev numbers : List Record → List ℕ
numbers rs = map (λ t. refusal_of t.answer) (run rs)

abbrev values : List Record → List ℕ
values rs = map (λ t. value_of t.answer) (run rs)

abbrev outputs : List Record → List ℕ
outputs rs = map (λ t. digit (turns.output_of t.controller)) (run rs)

-- "seat (or line) above 7": `early_seat`
seat_8_is_refused : numbers (whole 0 7 0 0 ∷ whole 0 8 0 0 ∷ []) ≡ 0 ∷ 1 ∷ []
unfolding run
seat_8_is_refused = refl

-- base 40, edge mode; the seat may raise its line, and its holding-empty flag is a cause
abbrev pub rising : List Record
rising = whole 7 0 0 0x13 ∷ whole 7 0 1 0x40 ∷ whole 7 0 1 0x01 ∷ whole 1 2 4 0x08 ∷ whole 1 2 1 0x02 ∷ []

-- "Line changes reach the controller's latches in the same event.": `touched_taken`
line_is_heard_at_once : outputs rising ≡ 0 ∷ 0 ∷ 0 ∷ 0 ∷ 1 ∷ []
unfolding run
line_is_heard_at_once = refl

-- `touched_taken`: the lines are shown once, so a granted line that stays high does not rise again by a later event
lines_are_shown_once : outputs (rising ++ (whole 8 0 0 0 ∷ whole 1 2 7 0x00 ∷ whole 7 0 0 0x20 ∷ [])) ≡ 0 ∷ 0 ∷ 0 ∷ 0 ∷ 1 ∷ 0 ∷ 0 ∷ 0 ∷ []
unfolding run
lines_are_shown_once = refl

-- the bench's `acknowledge_leaves`: line 2 is granted, and its seat's IER is still read
acknowledge_leaves_the_seat : values (rising ++ (whole 8 0 0 0 ∷ whole 0 2 1 0 ∷ [])) ≡ 0x000 ∷ 0x000 ∷ 0x000 ∷ 0x000 ∷ 0x000 ∷ 0x042 ∷ 0x002 ∷ []
unfolding run
acknowledge_leaves_the_seat = refl

-- the bench's `seat_answer`: the output is high, and the IER's byte is the answer all the same
output_is_no_answer : values (rising ++ (whole 0 2 1 0 ∷ [])) ≡ 0x000 ∷ 0x000 ∷ 0x000 ∷ 0x000 ∷ 0x000 ∷ 0x002 ∷ []
unfolding run
output_is_no_answer = refl
