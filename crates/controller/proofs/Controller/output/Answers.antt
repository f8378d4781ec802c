use mathlib.Core.Bool.{and-false}
use mathlib.Core.Path.{sym, ap, ◌∙◌}
use Rattle.std.specs.Prelude.{Bool, ◌&&◌}
use Rattle.std.specs.Option.{is_some}
use Rattle.rank.specs.Rank.{place_found}
use Rattle.controller.specs.State.{ready}
use Rattle.controller.proofs.FoundLaws.{among, is_found}
use Rattle.controller.specs.Turns.{output_of}
use Rattle.controller.specs.TurnLaws.{some_grantable, none_grantable}
use Rattle.controller.proofs.Controller.output.Goals as goal

pub returns-then-asks-eq0 : goal.returns-then-asks-eq0
unfolding output_of
returns-then-asks-eq0 c = simp (some_grantable, none_grantable _ (sym c.asking-asks.ensures ∙ c.if-asks-eq0.true), and-false)

pub returns : goal.returns
unfolding output_of
returns c = let s = c.args.self in
    ap (λ (b : Bool). ready s.setup && b)
    (c.is_some.ensures
    ∙ ap is_some (c.first_above-place.ensures ∙ ap place_found (among s _ _ c.asking-asks.ensures c.hindering.ensures))
    ∙ is_found _ ∙ sym (some_grantable s))
