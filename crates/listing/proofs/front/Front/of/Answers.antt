use Rattle.std.proofs.Common.{refl, ◌<◌, ◌^◌, arith}
use Rattle.listing.specs.KeptLaws.{fronts_put}
use Rattle.listing.proofs.front.Front.of.Goals as goal

pub returns : goal.returns
returns c =
    let small : c.args.n < 10 ^ 20 = omega arith in
    fronts_put _ _ _ c.args.n small refl c.put_front-count.ensures.0 c.put_front-count.ensures.1
