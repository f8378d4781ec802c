-- Bytes written one after another, and character times one after another.
use Rattle.std.specs.Prelude.{ℕ, zero, suc, Bool, List, [], ◌∷◌}
use Rattle.base.specs.Pick.{pick}
use Rattle.base.specs.declared.Answer.{Answer}
use Rattle.base.specs.declared.Answer.TheVariants.{Sent, Idle}
use Rattle.queue.specs.declared.Character.{Character}
use Rattle.transmitter.specs.declared.Transmitter.{Transmitter}
use Rattle.transmitter.specs.Transmitter.{written, shifted}

-- a byte on its way out has no marks
abbrev pub to_send : ℕ → Character
to_send byte = record { «data» = byte; marks = 0 }

-- the send side after these bytes are written, in order
unfoldable pub written_all : Bool → Transmitter → List ℕ → Transmitter
written_all fifo t [] = t
written_all fifo t (byte ∷ bytes) = written_all fifo (written fifo t byte) bytes

-- what leaves at a character time: the byte in the shift register, whole, or nothing
abbrev pub leaving : Transmitter → Answer
leaving t = pick t.busy (Sent t.shift) Idle

-- what leaves at each of so many character times
unfoldable pub sending : ℕ → Transmitter → List Answer
sending zero t = []
sending (suc n) t = leaving t ∷ sending n (shifted t)

-- the send side after so many character times
unfoldable pub after_times : ℕ → Transmitter → Transmitter
after_times zero t = t
after_times (suc n) t = after_times n (shifted t)
