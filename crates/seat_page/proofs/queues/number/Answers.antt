use Rattle.page.specs.PieceLaws.{with_append, with_none}
use Rattle.page.specs.Pieces.{with}
use Rattle.seat_page.proofs.queues.number.Goals as goal

pub returns : goal.returns
unfolding with
returns c = simp (c.decimal.ensures, c.text.ensures, c.empty.ensures, with_append, with_none)
