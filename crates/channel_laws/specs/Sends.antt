-- A channel by itself, over some events.
use Rattle.std.specs.Prelude.{ℕ, List, [], ◌∷◌, ◌++◌, map, replicate}
use Rattle.base.specs.declared.Answer.{Answer}
use Rattle.channel.specs.declared.Channel.{Channel}
use Rattle.registers.specs.declared.SeatEvent.{SeatEvent}
use Rattle.registers.specs.declared.SeatEvent.TheVariants.{Write, Time}
use Rattle.channel.specs.Steps.{stepped}

-- the channel after these events, in order
unfoldable pub after_events : Channel → List SeatEvent → Channel
after_events c [] = c
after_events c (e ∷ es) = after_events (stepped c e).channel es

-- what each of them is answered with
unfoldable pub answers_to : Channel → List SeatEvent → List Answer
answers_to c [] = []
answers_to c (e ∷ es) = (stepped c e).answer ∷ answers_to (stepped c e).channel es

-- these bytes, each written to register 0, and then so many character times
abbrev pub sending : List ℕ → ℕ → List SeatEvent
sending bytes k = map (Write 0) bytes ++ replicate k Time
