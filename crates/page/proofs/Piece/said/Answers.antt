use Rattle.std.proofs.Common.{◌≡◌, length, rules}
use Rattle.std.proofs.lemmas.List.{take_min}
use Rattle.page.specs.Pieces.{said}
use Rattle.page.proofs.Piece.said.Goals as goal

pub returns : goal.returns
unfolding said
returns c = let a = c.args.self.now in
    let full : length a.bytes ≡ 68 = search rules in
    let few : _ = take_min a.count a.bytes in
    simp (c.min.ensures, ← full, few)
