-- What an event on a seat is to its receive side.
use Rattle.std.specs.Prelude.{ℕ, ◌&&◌, List, [], ◌∷◌, ◌++◌, eqb}
use Rattle.base.specs.Pick.{pick}
use Rattle.base.specs.Bits.{bit}
use Rattle.base.specs.Answers.{value_of, figures_of}
use Rattle.base.specs.declared.Answer.{Answer}
use Rattle.queue.specs.declared.Character.{Character}
use Rattle.receiver.specs.Receiver.{none_queued}
use Rattle.receiver.specs.Ledger.{Moment, arrives, rbr, lsr, passes, empties, changes, resets, Side, Handed}
use Rattle.channel.specs.declared.Channel.{Channel}
use Rattle.registers.specs.declared.SeatEvent.{SeatEvent}
use Rattle.registers.specs.declared.SeatEvent.TheVariants.{Read, Write, Arrival, Levels, Time}
use Rattle.registers.specs.declared.Register.{Register}
use Rattle.registers.specs.declared.Register.TheVariants.{RbrThr, Ier, IirFcr, Lcr, Mcr, Lsr, Msr, Scratch, Dll, Dlm}
use Rattle.channel.specs.Parts.{fifo, in_loopback, divisor_shown}
use Rattle.registers.specs.Registers.{register_at}
use Rattle.channel.specs.Effects.{mode_changed, leaver}
use Rattle.registers.specs.Refusals.{refusal}

-- the receive side of a channel, with its mode
abbrev pub side : Channel → Side
side c = record { fifo = fifo c; receiver = c.receiver }

-- a read of RBR or of LSR is a moment of it; of any other register, none
unfoldable pub read_moments : Register → List Moment
read_moments RbrThr = rbr ∷ []
read_moments Ier = []
read_moments IirFcr = []
read_moments Lcr = []
read_moments Mcr = []
read_moments Lsr = lsr ∷ []
read_moments Msr = []
read_moments Scratch = []
read_moments Dll = []
read_moments Dlm = []

-- "A changed bit 0 empties both"; "bit 1 empties the receive queue"
unfoldable pub fcr_moments : Channel → ℕ → List Moment
fcr_moments c byte = pick (mode_changed c byte) (changes ∷ []) (pick (bit 0 byte && bit 1 byte) (empties ∷ []) [])

-- a write is one where it goes to the FCR and empties the queue
unfoldable pub write_moments : Channel → Register → ℕ → List Moment
write_moments c RbrThr byte = []
write_moments c Ier byte = []
write_moments c IirFcr byte = fcr_moments c byte
write_moments c Lcr byte = []
write_moments c Mcr byte = []
write_moments c Lsr byte = []
write_moments c Msr byte = []
write_moments c Scratch byte = []
write_moments c Dll byte = []
write_moments c Dlm byte = []

-- ticket 7: in loopback "an arrival changes nothing"
unfoldable pub arrival_moments : Channel → Character → List Moment
arrival_moments c ch = pick (in_loopback c) [] (arrives ch ∷ [])

-- ticket 7: "the character that leaves is received at once", and then the time passes
unfoldable pub time_moments : Channel → List Moment
time_moments c = pick (in_loopback c && c.transmitter.busy) (arrives (leaver c) ∷ passes ∷ []) (passes ∷ [])

-- of an accepted event
unfoldable pub accepted_moments : Channel → SeatEvent → List Moment
accepted_moments c (Read n) = read_moments (register_at (divisor_shown c) n)
accepted_moments c (Write n byte) = write_moments c (register_at (divisor_shown c) n) byte
accepted_moments c (Arrival marks byte) = arrival_moments c (record { «data» = byte; marks = marks })
accepted_moments c (Levels levels) = []
accepted_moments c Time = time_moments c

-- of any event: "The answer of every refusal is FFF and nothing changes."
unfoldable pub moments_of : Channel → SeatEvent → List Moment
moments_of c e = pick (eqb (refusal c.settings e) 0) (accepted_moments c e) []

-- what an answer hands over: its byte, with, ticket 6: "its marks and how many remain behind it"
unfoldable pub handed_by : Answer → Handed
handed_by a = record { character = record { «data» = value_of a; marks = (figures_of a).marks }; behind = (figures_of a).behind }

-- the character that an answer tells: that of an RBR read, where one is queued
unfoldable pub telling : Side → Answer → Moment → List Handed
telling s a (arrives ch) = []
telling s a rbr = pick (none_queued s.receiver) [] (handed_by a ∷ [])
telling s a lsr = []
telling s a passes = []
telling s a empties = []
telling s a changes = []
telling s a resets = []

unfoldable pub told_in : Side → Answer → List Moment → List Handed
told_in s a [] = []
told_in s a (m ∷ ms) = telling s a m ++ told_in s a ms
