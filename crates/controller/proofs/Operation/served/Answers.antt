use Rattle.std.proofs.Common.{rules, sym, ap, ◌∙◌}
use Rattle.rank.specs.Sets.{has}
use Rattle.rank.specs.Rank.{first_place, place_found}
use Rattle.controller.specs.Turns.{found}
use Rattle.controller.specs.Words.{served}
use Rattle.controller.specs.TurnLaws.{served_place}
use Rattle.controller.proofs.FoundLaws.{line_found}
use Rattle.controller.proofs.Operation.served.Goals as goal

pub returns : goal.returns
unfolding served
returns c = let o = c.args.self in
    line_found o.first _ (λ k n g. search rules) _ _
    (c.first_place.ensures ∙ ap (λ s. place_found (first_place o.first (has s))) c.hindering.ensures) _ c.map.ensures.cases
    ∙ ap (found o.first) (sym (served_place o))
