use mathlib.Core.Path.{refl}
use native.Mathlib.Omega.{arith}
use Rattle.base.specs.StoreLaws.{copied_at}
use Rattle.text.proofs.numbers.put_bytes.Goals as goal

pub returns : goal.returns
returns c = (refl, rw c.copy_from_slice.ensures.after (copied_at c.args.at _ c.args.out.now c.args.bytes.now refl (omega arith)))
