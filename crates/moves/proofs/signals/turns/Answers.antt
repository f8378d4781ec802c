use Rattle.std.proofs.Common.{◌≡◌, ap, arith, sym, ◌∙◌}
use Rattle.base.specs.ListLaws.{listed}
use Rattle.page.specs.Pages.{joined, joined_all}
use Rattle.moves.specs.Moved.{line_turned, lines_turned}
use Rattle.moves.proofs.Latches.{line_on}
use Rattle.moves.proofs.signals.turns.Goals as goal

pub loop-n-preserved : goal.loop-n-preserved
loop-n-preserved c = let l = c.loop-n in
    let a = c.args in (
      omega arith,
      c.turn-told.ensures
          ∙ ap (λ p. joined p (line_turned l.n a.before a.after a.on.now a.off.now)) l.invariant.1
          ∙ sym (line_on a.page (λ k. line_turned k a.before a.after a.on.now a.off.now) l.n),
    )

pub returns : goal.returns
unfolding lines_turned
returns c = let a = c.args in
    let every : c.loop-n.n ≡ 8 = omega arith in
    c.loop-n.invariant.1 ∙ ap (λ n. joined_all a.page (listed n (λ k. line_turned k a.before a.after a.on.now a.off.now))) every
