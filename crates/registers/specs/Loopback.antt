-- Loopback: whether the channel is in it, and the modem inputs as the channel sees them.
use Rattle.std.specs.Prelude.{ℕ, Bool, [], ◌∷◌}
use Rattle.base.specs.Pick.{pick}
use Rattle.base.specs.Bits.{bit, bits}

-- ticket 7: "Document 004 has it at MCR bit 4."
abbrev pub looped : ℕ → Bool
looped mcr = bit 4 mcr

-- "levels (1 CTS, 2 DSR, 4 RI, 8 DCD; set = active)". Ticket 7: "DTR, RTS, OUT1 and OUT2 feed DSR, CTS, RI and DCD": CTS is fed by RTS, MCR bit 1, DSR
-- by DTR, bit 0, RI by OUT1, bit 2, and DCD by OUT2, bit 3
abbrev pub fed_back : ℕ → ℕ
fed_back mcr = bits (bit 1 mcr ∷ bit 0 mcr ∷ bit 2 mcr ∷ bit 3 mcr ∷ [])

-- the inputs that the channel sees: the levels last given. Ticket 7: "With it set" those fed back, and "modem levels are only remembered"
unfoldable pub inputs_of : ℕ → ℕ → ℕ
inputs_of mcr levels = pick (looped mcr) (fed_back mcr) levels
