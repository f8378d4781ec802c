-- A seat after some acts: in two parts as whole; and what a master reset leaves, and the line, are its channel's.
use Rattle.std.specs.Prelude.{◌≡◌, false, not, List, [], ◌∷◌, ◌++◌, ◌==◌, refl}
use Rattle.std.proofs.Math.Bool.{and-false}
use Rattle.std.proofs.Common.{ap}
use Rattle.base.specs.Bits.{bit}
use Rattle.base.specs.Refusals.{tally_full_number}
use Rattle.channel.specs.Parts.{master_reset}
use Rattle.status.specs.Status as status
use Rattle.channel.specs.Status as channel
use Rattle.channel.specs.declared.Stepped.{Stepped}
use Rattle.channel.specs.Steps as channel-step
use Rattle.registers.specs.declared.SeatEvent.{SeatEvent}
use Rattle.seat.specs.declared.Seat.{Seat}
use Rattle.seat.specs.Seats.{reset, line}
use Rattle.seat.specs.Steps.{refusal, stepped}
use Rattle.seat.specs.StepLaws.{by_channel}
use Rattle.seat.specs.Acts.{Act, acted, acted_all}

pub acted_parts : (s : Seat) (xs ys : List Act) → acted_all s (xs ++ ys) ≡ acted_all (acted_all s xs) ys
acted_parts s [] ys = refl
acted_parts s (x ∷ xs) ys = acted_parts (acted s x) xs ys

-- a master reset clears MCR bit 3, without which no line is high
pub reset_silent : (s : Seat) → line (reset s) ≡ false
unfolding channel.line channel.cause status.line_of master_reset bit
reset_silent s = and-false (not (channel.cause (master_reset s.channel) == 0x01))

-- a master reset of a seat is its channel's: whatever is asked of it afterwards, and not refused by 19, is answered so
pub reset_answers : (s : Seat) (e : SeatEvent) → (refusal (reset s) e == tally_full_number) ≡ false
    → (stepped (reset s) e).answer ≡ (channel-step.stepped (master_reset s.channel) e).answer
reset_answers s e other = ap (λ (t : Stepped). t.answer) (by_channel (reset s) e other)

pub reset_by_channel : (s : Seat) → (reset s).channel ≡ master_reset s.channel
reset_by_channel s = refl

-- "its interrupt output is line n": the seat's line is its channel's
pub line_by_channel : (s : Seat) → line s ≡ channel.line s.channel
line_by_channel s = refl
