use Rattle.page.specs.Pages.{put}
use Rattle.page.specs.PageLaws.{put_append}
use mathlib.Core.Path.{◌∙◌}
use native.Mathlib.Omega.{arith}
use Rattle.text.specs.Quoted.{quoted}
use Rattle.timeline.proofs.Behind.{in_one, put_said}
use Rattle.timeline.proofs.Lengths.{change_length}
use Rattle.timeline.specs.Variables.{variables}
use Rattle.timeline.specs.Dump.{told}
use Rattle.timeline.proofs.steps.Change+Sight.tell.Goals as goal

pub returns : goal.returns
unfolding told variables
returns c = let a = c.args in
    let few = change_length a.self.all a.self.was.output a.self.is.output (quoted "o") in
    in_one put put_append (c.add.ensures ∙ put_said _ _ (simp (c.of-output.ensures) at c.output.ensures) (omega (arith, few))) c.scopes.ensures
