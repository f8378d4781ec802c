use Rattle.base.specs.PickLaws.{pick_true, pick_false}
use Rattle.controller.specs.Words.{command, ocw2}
use borrow.Author.Rules.{rules}
use Rattle.std.proofs.Common.{ap, ◌∙◌}
use Rattle.controller.specs.Words.{plain_end, rotating_end, ended_turn, rotated_turn}
use Rattle.controller.proofs.FoundLaws.{ended_found, rotated_found}
use Rattle.controller.proofs.Operation.ocw2.Goals as goal

pub returns-in-1 : goal.returns-in-1
unfolding ocw2 command plain_end
returns-in-1 c = let o = c.args.self in
    ended_found o _ _ (λ n g. search rules) _ c.map_or.ensures ∙ ap (ended_turn o) c.served.ensures
    ∙ simp (c.in-1.is, pick_true, pick_false)

pub returns-in-5 : goal.returns-in-5
unfolding ocw2 command rotating_end
returns-in-5 c = let o = c.args.self in
    rotated_found o _ _ (λ n g. search rules) _ c.map_or-in-5.ensures ∙ ap (rotated_turn o) c.served-in-5.ensures
    ∙ simp (c.in-5.is, pick_true, pick_false)
