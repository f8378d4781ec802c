-- The modem outputs of a seat, which are bits of its MCR (documents 003 and 004).
use Rattle.std.specs.Prelude.{ℕ, Bool, [], ◌∷◌}
use Rattle.base.specs.Pick.{pick}
use Rattle.base.specs.Bits.{bit, bits}
use Rattle.base.specs.Refusals.{seat_above_number, refusal_by, joined}
use Rattle.base.specs.declared.Answer.{Answer}
use Rattle.base.specs.declared.Answer.TheVariants.{Byte, Refused}
use Rattle.registers.specs.Loopback.{looped}
use Rattle.records.specs.Events.{seat_above}
use Rattle.bench.specs.declared.Bench.{Bench}
use Rattle.bench.specs.Seats.{seat}

-- An output is active where its bit is set; document 004: ‘The modem control outputs (DTR, RTS, OUT1, and OUT2)’, ‘the lower four MCR bits’.

-- document 003, Table 5: ‘0 Data terminal ready (DTR)’; document 004: ‘When MCR0 is set, the DTR output is forced low.’
abbrev pub dtr : ℕ → Bool
dtr mcr = bit 0 mcr

-- document 003, Table 5: ‘1 Request to send (RTS)’; document 004: ‘When MCR1 is set, the RTS output is forced low.’
abbrev pub rts : ℕ → Bool
rts mcr = bit 1 mcr

-- document 003, Table 5: ‘2 Not used’; document 004: ‘MCR2 has no effect on operation.’
abbrev pub out1 : ℕ → Bool
out1 mcr = bit 2 mcr

-- document 003, Table 5: ‘3 Interrupt enable’; document 004: ‘When MCR3 is set, the external serial channel interrupt is enabled.’
abbrev pub out2 : ℕ → Bool
out2 mcr = bit 3 mcr

-- all four as one number, DTR first; and none in loopback, document 004: ‘The modem control output terminals are forced to their inactive (high) state
-- on the TL16C552A.’
unfoldable pub outputs : ℕ → ℕ
outputs mcr = pick (looped mcr) 0 (bits (dtr mcr ∷ rts mcr ∷ out1 mcr ∷ out2 mcr ∷ []))

-- asked by the number of a seat, whose MCR this is: "seat (or line) above 7" is refused
unfoldable pub outputs_of : ℕ → ℕ → Answer
outputs_of mcr n = joined (refusal_by (record { number = seat_above_number; holds = seat_above n } ∷ [])) (Byte (outputs mcr)) Refused

-- asked of a bench
abbrev pub outputs_at : Bench → ℕ → Answer
outputs_at b n = outputs_of (seat b n).channel.settings.mcr n
