use mathlib.Core.Path.{ap}
use Rattle.page.specs.PageLaws.{joined_piece, joined_all_lem}
use Rattle.bench.specs.declared.Outcome.{Outcome}
use Rattle.account.specs.Told.{told}
use Rattle.account.proofs.telling.record.Goals as goal

pub returns : goal.returns
unfolding told
returns c = (ap (λ (o : Outcome). o.bench) c.answered-stepped.ensures, simp (c.end.ensures, c.comment.ensures, c.at_controller-all.ensures, c.at_seat-moved.ensures, c.channel_at.ensures, c.join-2.ensures, c.join.ensures, c.came-came.ensures, c.done-done.ensures, c.is_empty-empty.ensures, c.begun-head.ensures, c.answered-stepped.ensures, c.divisor_at-divisor.ensures, c.channel_at-before.ensures, joined_piece, joined_all_lem))
