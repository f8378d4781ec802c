-- A channel as its owner sees it: the bytes that reads show, and the channel that an event leaves.
use Rattle.std.specs.Prelude.{ℕ}
use Rattle.base.specs.Answers.{value_of}
use Rattle.channel.specs.declared.Channel.{Channel}
use Rattle.registers.specs.declared.SeatEvent.{SeatEvent}
use Rattle.registers.specs.declared.SeatEvent.TheVariants.{Read}
use Rattle.channel.specs.Steps.{stepped}

-- the byte that a read of this register shows
abbrev pub shown : Channel → ℕ → ℕ
shown c n = value_of (stepped c (Read n)).answer

-- the channel after an event
abbrev pub after : Channel → SeatEvent → Channel
after c e = (stepped c e).channel
