-- One event on a seat: refused, or done.
use Rattle.std.specs.Prelude.{ℕ, ◌-◌, Bool, List, [], ◌∷◌, ◌++◌, length, ◌==◌, nat_lt}
use Rattle.base.specs.Pick.{pick}
use Rattle.base.specs.Refusals.{tally_full_number, Ground, refusal_by}
use Rattle.base.specs.declared.Answer.TheVariants.{Refused}
use Rattle.receiver.specs.Ledger.{arrived_in}
use Rattle.registers.specs.declared.SeatEvent.{SeatEvent}
use Rattle.registers.specs.Refusals as registers
use Rattle.channel.specs.Moments.{side, accepted_moments}
use Rattle.channel.specs.Steps as channel
use Rattle.seat.specs.declared.Seat.{Seat}
use Rattle.seat.specs.declared.Replied.{Replied}
use Rattle.seat.specs.Tallies.{largest, tallied}

-- ticket 8: "where arrived would pass its largest value": the event would receive more than are left up to it
abbrev pub would_pass : Seat → SeatEvent → Bool
would_pass s e = nat_lt (largest - s.tallies.arrived) (length (arrived_in (accepted_moments s.channel e)))

-- the grounds of an event on a seat: its channel's, and ticket 8: "19, last in order"
abbrev pub grounds : Seat → SeatEvent → List Ground
grounds s e = registers.grounds s.channel.settings e ++ (record { number = tally_full_number; holds = would_pass s e } ∷ [])

-- the number that is given, 0 for none
unfoldable pub refusal : Seat → SeatEvent → ℕ
refusal s e = refusal_by (grounds s e)

-- an accepted event is its channel's, and what it does to the receive side is tallied
unfoldable pub effect : Seat → SeatEvent → Replied
effect s e =
    record {
      seat =
          record {
            tallies = tallied s.tallies (side s.channel) (accepted_moments s.channel e);
            channel = (channel.effect s.channel e).channel;
          };
      answer = (channel.effect s.channel e).answer;
    }

-- "The answer of every refusal is FFF and nothing changes."
unfoldable pub stepped : Seat → SeatEvent → Replied
stepped s e = pick (refusal s e == 0) (effect s e) (record { seat = s; answer = Refused (refusal s e) })
