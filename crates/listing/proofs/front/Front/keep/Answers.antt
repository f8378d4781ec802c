use Rattle.std.proofs.Common.{◌<◌, ◌^◌, arith}
use Rattle.listing.specs.KeptLaws.{fronts_put}
use Rattle.listing.proofs.front.Front.keep.Goals as goal

pub returns-then-n-eq0 : goal.returns-then-n-eq0
returns-then-n-eq0 c =
    let small : c.args.n < 10 ^ 20 = omega arith in
    fronts_put _ _ _ c.args.n small c.requires.size c.put_front-self.ensures.0 c.put_front-self.ensures.1
