use Prim.Native.Nat.{◌+◌}
use native.Mathlib.Omega.{arith}
use Rattle.base.specs.StoreLaws.{copied_at}
use Rattle.image.proofs.writing.put_front.Goals as goal

pub returns : goal.returns
returns c =
    let front : _ = c.front_of-front.result in
    rw (c.copy_from_slice.ensures.after, ← c.front_of-front.ensures) (copied_at c.args.at (c.args.at + 16) c.args.out.now front (omega arith) (omega arith))
