-- A register's byte as an answer.
use Prim.Native.Nat.{ℕ}
use Rattle.base.specs.declared.Answer.TheVariants.{Byte}
use Rattle.channel.specs.declared.Channel.{Channel}
use Rattle.channel.specs.declared.Stepped.{Stepped}

-- a channel as it is, with "the byte"
abbrev pub told : Channel → ℕ → Stepped
told c byte = record { channel = c; answer = Byte byte }
