use Rattle.std.proofs.Common.{ℕ, ◌&&◌, eqb, ap, ◌∙◌}
use Rattle.base.specs.Pick.{pick}
use Rattle.base.specs.Answers.{refusal_of}
use Rattle.seat.specs.CountLaws.{received_told}
use Rattle.seat.proofs.events.received.Goals as goal

pub returns : goal.returns
returns c = let a = c.args in
    ap (λ (n : ℕ). pick (c.hears.result && eqb n 0) 1 0) (c.refusal.ensures ∙ ap refusal_of c.requires)
    ∙ received_told a.c a.e _ c.hears.ensures
