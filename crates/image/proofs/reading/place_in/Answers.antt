use Prim.Native.Nat.{ℕ, ◌+◌, ◌*◌}
use mathlib.Core.Path.{ap}
use native.Mathlib.Omega.{arith}
use Rattle.image.specs.Layout.{place_in}
use Rattle.image.specs.PlaceLaws.{few}
use Rattle.image.proofs.reading.place_in.Goals as goal

pub overflow_mul-result : goal.overflow_mul-result
overflow_mul-result c = omega (arith, few c.args.version c.length-size.result c.args.k c.length-size.ensures (omega arith))

pub overflow_add-result : goal.overflow_add-result
overflow_add-result c = omega (arith, few c.args.version c.length-size.result c.args.k c.length-size.ensures (omega arith))

pub returns : goal.returns
unfolding place_in
returns c = ap (λ (n : ℕ). 16 + n * c.args.k) c.length-size.ensures
