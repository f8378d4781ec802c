use Rattle.std.proofs.Common.{◌≡◌, refl, ap, Bool, true, false, not, ◌||◌, eqb}
use mathlib.Core.Bool.{beq}
use Rattle.base.specs.Pick.{pick}
use Rattle.base.specs.Bits.{digit}
use Rattle.timeline.proofs.values.Change+bool.is_due.Goals as goal

same : (was is : Bool) → beq was is ≡ eqb (digit was) (digit is)
unfolding digit pick
same true true = refl
same true false = refl
same false true = refl
same false false = refl

pub returns : goal.returns
returns c = ap (λ b. c.args.self.all || not b) (same c.args.self.was c.args.self.is)
