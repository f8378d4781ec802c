use Rattle.std.proofs.Common.{◌≡◌, length, arith, rules}
use lib.ListN.{length-take}
use Rattle.page.specs.Pages.{shown}
use Rattle.page.proofs.Page.length.Goals as goal

pub returns : goal.returns
unfolding shown
returns c = let size : length c.args.self.bytes ≡ 4096 = search rules in
    (rw length-take (omega (arith, size, c.min.ensures)), omega (arith, c.min.ensures))
