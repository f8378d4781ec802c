-- The LCR bytes that lines give, counted over all 256.
use Prim.Native.Nat.{ℕ, ◌/◌, ◌≤◌}
use mathlib.Core.Bool.{true, false}
use mathlib.Core.Logic.{⊎_elim}
use mathlib.Core.Path.{◌≡◌, refl, ap, sym, ◌∙◌}
use native.Mathlib.Omega.{arith}
use lib.Dec.{ltb}
use borrow.Author.Tests.{ltb-true, ltb-false, ne_eqb}
use Rattle.base.specs.Pick.{pick}
use Rattle.base.specs.PickLaws.{either_way, not_both}
use Rattle.base.specs.Bits.{digit}
use Rattle.base.specs.EveryLaws.{equal_at}
use Rattle.setting_lines.specs.LcrBytes.{given, FortyBytes}
use Rattle.setting_lines.specs.Guess.{good}
use Rattle.setting_lines.specs.ShapeLaws.{same_digit, shape_for, shape_sized, lcr_again, lcr_good}

-- what the code tests is what the ticket says
tested : (lcr : ℕ) → given lcr ≡ good lcr
unfolding good digit pick
tested lcr =
    ⊎_elim
    (λ (small : ltb lcr 64 ≡ true). same_digit _ _ (equal_at 64 (λ n. digit (given n)) (λ n. digit (good n)) tt lcr (ltb-true lcr 64 small)))
    (λ (large : ltb lcr 64 ≡ false).
    let more : 64 ≤ lcr = ltb-false lcr 64 large in rw (large, ne_eqb (lcr / 64) 0 (λ e. omega arith)))
    (either_way (ltb lcr 64))

pub forty_bytes : FortyBytes
unfolding digit pick
forty_bytes = record {
  forty = refl;
  shaped = λ lcr is. (shape_for lcr, shape_sized lcr, lcr_again lcr (sym (tested lcr) ∙ is));
  others = λ lcr not-given s sized is. not_both (tested lcr ∙ ap good is ∙ lcr_good s sized) not-given;
}
