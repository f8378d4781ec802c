use Rattle.std.proofs.Common.{◌≡◌, Bool, true, false, refl, arith}
use Rattle.base.specs.Pick.{pick}
use Rattle.base.specs.Bits.{digit}
use Rattle.streams.proofs.digest.outcome_mark.Goals as goal
use mir.Val.{bool_byte}

-- a flag as a byte is its digit
as_digit : (b : Bool) → bool_byte b ≡ digit b
unfolding digit pick
as_digit true = refl
as_digit false = refl

pub returns : goal.returns
returns c = omega (arith, as_digit c.args.output)
