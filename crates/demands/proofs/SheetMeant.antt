-- A line's LCR byte in the words of the registers, computed at each of the 40 shapes.
use mathlib.Core.Bool.{not}
use lib.Dec.{eqb, eqb→eq}
use Rattle.base.specs.Pick.{pick}
use Rattle.base.specs.PickLaws.{not_true}
use Rattle.base.specs.Bits.{bit, digit}
use Rattle.registers.specs.Words.{word_bits, parity_off}
use Rattle.setting_lines.specs.Fields.{Shape, lcr_of}
use Rattle.base.specs.EveryLaws.{holds}
use Rattle.setting_lines.specs.ShapeLaws.{at_shape, same_digit}
use Rattle.demands.specs.SheetMeant.{without_parity, SheetMeant}

pub sheet_meant : SheetMeant
unfolding lcr_of bit digit pick
sheet_meant =
    record {
      bits = λ s sized. eqb→eq _ _ (at_shape (λ (s : Shape). eqb (word_bits (lcr_of s)) s.bits) tt s sized);
      parity = λ s sized.
          same_digit _ _ (eqb→eq _ _ (at_shape (λ (s : Shape). eqb (digit (parity_off (lcr_of s))) (digit (without_parity s.parity))) tt s sized));
      break = λ s sized. not_true _ (holds _ (at_shape (λ (s : Shape). not (bit 6 (lcr_of s))) tt s sized));
      divisor = λ s sized. not_true _ (holds _ (at_shape (λ (s : Shape). not (bit 7 (lcr_of s))) tt s sized));
    }
