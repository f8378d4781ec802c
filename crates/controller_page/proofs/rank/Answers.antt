use Rattle.std.proofs.Common.{◌≡◌, ◌++◌, ap, arith, sym, ◌∙◌}
use Rattle.text.specs.Line.{decimal}
use Rattle.text.specs.Quoted.{quoted}
use Rattle.page.specs.Pieces.{with}
use Rattle.page.specs.PieceLaws.{with_append}
use Rattle.rank.specs.Rank.{line_at}
use Rattle.controller_page.specs.ControllerPages.{rank_words}
use Rattle.controller_page.proofs.InOrder.{lines_in_order, ranked_below, ranked_next}
use Rattle.controller_page.proofs.rank.Goals as goal

pub returns : goal.returns
unfolding rank_words
returns c = let first : _ = c.args.first in
    let every : c.loop-place.place ≡ 8 = omega arith in
    c.loop-place.invariant.1
    ∙ ap (ranked_below c.text-piece.result first) every
    ∙ ap (λ p. ranked_below p first 8) (simp (c.empty.ensures) at c.text-piece.ensures)
    ∙ (lines_in_order _ first ∙ sym (with_append _ _ _))
