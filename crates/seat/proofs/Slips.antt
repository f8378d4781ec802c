-- What is right where an edit of must-fail/ goes wrong: closed runs of a few events, each false under the edit that names it.
use Rattle.std.proofs.Common.{◌≡◌, refl}
use Rattle.base.specs.Pick.{pick}
use Rattle.base.specs.Bits.{bit}
use Rattle.base.specs.Answers.{value_of}
use Rattle.base.specs.Refusals.{first_of, refusal_by}
use Rattle.queue.specs.Queue.{room, entered, accepted, capacity}
use Rattle.receiver.specs.Receiver.{received}
use Rattle.receiver.specs.Ledger.{after, arrived_in, read_in, lost_in, dropped_in}
use Rattle.registers.specs.declared.SeatEvent.TheVariants.{Read, Write, Arrival}
use Rattle.registers.specs.Refusals as registers
use Rattle.registers.specs.Registers.{plain_register, register_at}
use Rattle.channel.specs.Parts.{master_reset}
use Rattle.channel.specs.Effects.{answer_at, after_read, after_write, after_arrival, heard_outside, receives}
use Rattle.channel.specs.Moments.{accepted_moments, read_moments, write_moments, arrival_moments}
use Rattle.channel.specs.Steps as channel
use Rattle.seat.specs.declared.Seat.{Seat}
use Rattle.seat.specs.Tallies.{tallied}
use Rattle.seat.specs.Seats.{power_up, reset, five}
use Rattle.seat.specs.Steps.{refusal, effect, stepped}

-- "divisor, scratch, modem levels and last byte read kept". Of `reset_answers`
scratch_outlives_a_reset : value_of (stepped (reset (stepped power_up (Write 7 0x5A)).seat) (Read 7)).answer ≡ 0x5A
unfolding stepped effect refusal channel.effect registers.grounds refusal_by first_of pick bit value_of register_at plain_register answer_at after_read after_write master_reset accepted_moments read_moments write_moments arrived_in tallied
scratch_outlives_a_reset = refl

-- ticket 8: "a master reset drops". A seat in 16450 mode with the divisor 12 and eight bits, where 41 has arrived
abbrev heard : Seat
heard = (stepped (stepped (stepped (stepped power_up (Write 3 0x83)).seat (Write 0 0x0C)).seat (Write 3 0x03)).seat (Arrival 0 0x41)).seat

reset_drops_what_is_queued : (reset heard).tallies.dropped ≡ 1
unfolding stepped effect refusal channel.effect registers.grounds refusal_by first_of pick bit register_at plain_register after_write after_arrival heard_outside receives received accepted entered room capacity tallied accepted_moments write_moments arrival_moments after arrived_in read_in lost_in dropped_in
reset_drops_what_is_queued = refl

-- ticket 8: "tallies of received characters since power-up"
reset_forgets_nothing : (reset heard).tallies.arrived ≡ 1
unfolding stepped effect refusal channel.effect registers.grounds refusal_by first_of pick bit register_at plain_register after_write after_arrival heard_outside receives received accepted entered room capacity tallied accepted_moments write_moments arrival_moments after arrived_in read_in lost_in dropped_in
reset_forgets_nothing = refl

-- ticket 8: "lost by overrun, dropped by emptying": each is handed out under its own name
two_are_lost : (five (record { tallies = record { arrived = 5; read = 0; lost = 2; dropped = 3 }; channel = power_up.channel })).lost ≡ 2
two_are_lost = refl
