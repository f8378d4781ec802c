use mathlib.Core.Path.{refl}
use native.Mathlib.Omega.{arith}
use Rattle.base.specs.StoreLaws.{copied_at}
use Rattle.channel_image.proofs.writing.put_at.Goals as goal

pub returns : goal.returns
returns c = rw c.copy_from_slice.ensures.after (copied_at c.args.place _ c.args.out.now c.args.bytes.now refl (omega arith))
