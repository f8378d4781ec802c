use Rattle.std.proofs.Common.{ap, subst, sym, ◌∙◌, false}
use Rattle.base.specs.declared.Answer.{Answer}
use Rattle.controller.specs.Steps.{placed}
use Rattle.c_word.specs.Word.{Tells}
use Rattle.embed.specs.NumberLaws.{line_past}
use Rattle.embed.proofs.hailstoat_place.Goals as goal

pub returns : goal.returns
returns c =
    subst (λ (a : Answer). Tells c.word.result a false)
    (c.place.ensures ∙ ap (placed _) c.as_byte.ensures ∙ sym (line_past _ _))
    c.word.ensures
