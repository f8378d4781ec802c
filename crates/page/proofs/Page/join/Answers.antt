use Rattle.std.proofs.Common.{◌≡◌, ◌≤◌, length, arith, rules}
use lib.ListN.{take, length-take}
use lib.Seq.{take_all}
use Rattle.page.specs.Pieces.{said}
use Rattle.page.specs.Pages.{joined}
use Rattle.page.proofs.Page.join.Goals as goal

pub returns : goal.returns
unfolding said joined
returns c = let a = c.args in
    let size : length a.piece.bytes ≡ 68 = search rules in
    let few : length (take a.piece.count a.piece.bytes) ≤ 68 = rw length-take (omega (arith, size)) in
    rw (take_all 68 _ few) (rw c.said.ensures at c.place.ensures)
