use mathlib.Core.Bool.{Bool, true, false}
use mathlib.Core.Path.{◌≡◌, refl}
use Prim.Native.Nat.{◌+◌}
use Rattle.std.specs.Int.{from_bool}
use Rattle.base.specs.Pick.{pick}
use Rattle.text.specs.Line.{output_digit}
use Rattle.text.proofs.lines.put_ending.Goals as goal

shown : (o : Bool) → 48 + from_bool o ≡ output_digit o
unfolding output_digit pick
shown true = refl
shown false = refl

pub returns : goal.returns
returns c = (c.put_bytes.ensures.0, cc (shown c.args.output))
