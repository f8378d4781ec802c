use Rattle.std.proofs.Common.{refl, arith}
use Rattle.image.specs.Written.{records_of}
use Rattle.image.specs.WrittenLaws.{turn}
use Rattle.image.proofs.writing.put_seats.Goals as goal

pub loop-k-init : goal.loop-k-init
unfolding records_of
loop-k-init c = refl

pub loop-k-preserved : goal.loop-k-preserved
loop-k-preserved c =
    turn c.args.at c.loop-k.k c.args.seats c.args.out.now c.loop-k.out c.put.new.out c.loop-k.invariant (omega arith) c.put.ensures.bytes
