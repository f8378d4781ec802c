-- What a settings line says is what a channel does with its LCR byte: the same bits, the parity on or off, no break, and registers 0 and 1 not
-- the divisor. The rooms of settings lines and of registers do not know each other.
use Rattle.std.specs.Prelude.{Bool, true, false, ◌≡◌}
use Rattle.base.specs.Bits.{bit}
use Rattle.registers.specs.Words.{word_bits, parity_off}
use Rattle.setting_lines.specs.Fields.{Parity, N, O, E, M, S, Shape, Sized, lcr_of}

-- N alone is no parity
abbrev pub without_parity : Parity → Bool
without_parity N = true
without_parity O = false
without_parity E = false
without_parity M = false
without_parity S = false

pub record SheetMeant : Type 0 where
  pub bits : (s : Shape) → Sized s → word_bits (lcr_of s) ≡ s.bits
  pub parity : (s : Shape) → Sized s → parity_off (lcr_of s) ≡ without_parity s.parity
  pub break : (s : Shape) → Sized s → bit 6 (lcr_of s) ≡ false
  pub divisor : (s : Shape) → Sized s → bit 7 (lcr_of s) ≡ false
