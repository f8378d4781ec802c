-- What is right where an edit of must-fail/ goes wrong: closed statements, each false under the edit that names it.
use Prim.Native.Nat.{ℕ}
use mathlib.Core.Bool.{true, false}
use mathlib.Core.Path.{◌≡◌, refl}
use lib.Dec.{eqb}
use Rattle.base.specs.Pick.{pick}
use Rattle.base.specs.Bits.{bit, digit, bits}
use Rattle.base.specs.Refusals.{first_of, refusal_by}
use Rattle.registers.specs.declared.Settings.{Settings}
use Rattle.registers.specs.declared.SeatEvent.TheVariants.{Arrival}
use Rattle.registers.specs.Registers.{plain_register, register_at, kept, divisor, with_dlm}
use Rattle.registers.specs.Words.{cut}
use Rattle.registers.specs.Modem.{changes_after}
use Rattle.registers.specs.Loopback.{inputs_of}
use Rattle.registers.specs.Refusals.{grounds, refusal}

-- every register 0
abbrev zeros : Settings
zeros = record { ier = 0; fcr = 0; lcr = 0; mcr = 0; scratch = 0; dll = 0; dlm = 0 }

-- "while the divisor is 0": it is not where DLM holds 1. Of `divisor_none`
divisor_256_is_one : eqb (divisor (with_dlm zeros 1)) 0 ≡ false
divisor_256_is_one = refl

-- "With LCR bit 7 set, 0 and 1 are DLL and DLM, for reads and writes.": a byte written to register 1 is DLM's. Of `divisor_registers`
register_1_is_dlm : (kept zeros (register_at true 1) 5).dlm ≡ 5
unfolding register_at plain_register pick
register_1_is_dlm = refl

-- "bit 2 when RI goes from active to inactive". Of `rung`
ri_tells_its_fall : changes_after 0 4 0 ≡ 4
unfolding changes_after bits digit bit pick
ri_tells_its_fall = refl

-- "cut to the word length": five bits, with LCR bits 1-0 clear. Of `cut_bit`
five_bits_are_1f : cut 0 0xFF ≡ 0x1F
unfolding cut
five_bits_are_1f = refl

-- what refuses an arrival at divisor 1 and this LCR
abbrev arriving : ℕ → ℕ → ℕ → ℕ
arriving lcr marks byte = refusal (record { ier = 0; fcr = 0; lcr = lcr; mcr = 0; scratch = 0; dll = 1; dlm = 0 }) (Arrival marks byte)

-- ticket 4: "17 parity mark with parity off", and before a break. Of `which_one`
parity_before_break : arriving 0 5 0x01 ≡ 17
unfolding refusal grounds refusal_by first_of pick bit
parity_before_break = refl

-- ticket 4: "break with data": with data 0 it is none. Of `accepted`
break_alone_arrives : arriving 0 4 0x00 ≡ 0
unfolding refusal grounds refusal_by first_of pick bit
break_alone_arrives = refl

-- ticket 7: "DTR, RTS, OUT1 and OUT2 feed DSR, CTS, RI and DCD": RTS alone. Of `inputs_looped`
rts_feeds_cts : inputs_of 0x12 0 ≡ 0x01
unfolding inputs_of bits digit bit pick
rts_feeds_cts = refl
