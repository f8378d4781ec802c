use Rattle.std.proofs.Common.{sym, ◌∙◌, arith}
use Rattle.seat.specs.CountLaws.{none_more, by_moments, by_last}
use Rattle.seat.proofs.Seat.step.Goals as goal

pub returns-then-would_pass : goal.returns-then-would_pass
returns-then-would_pass c = let a = c.args in
    c.refuse_last.ensures ∙ by_last a.self a.e (sym c.would_pass.ensures ∙ c.if-would_pass.true)

pub returns : goal.returns
returns c = let fit = c.well_formed.0.1.1.0 in
    by_moments c.args.self c.args.e _ _ c.lent-stepped.ensures c.after-moved.ensures
    (none_more c.args.self.tallies (omega (arith, fit)) (omega (arith, fit)) (omega (arith, fit)) (omega (arith, fit)))
    (sym c.would_pass.ensures ∙ c.if-would_pass.false)
