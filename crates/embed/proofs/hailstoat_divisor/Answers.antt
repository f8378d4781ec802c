use Rattle.std.proofs.Common.{ap, subst, sym, ◌∙◌, false}
use Rattle.base.specs.declared.Answer.{Answer}
use Rattle.rates.specs.Rates.{divisor_of}
use Rattle.c_word.specs.Word.{Tells}
use Rattle.embed.specs.NumberLaws.{clock_past}
use Rattle.embed.proofs.hailstoat_divisor.Goals as goal

pub returns : goal.returns
returns c =
    subst (λ (a : Answer). Tells c.word.result a false)
    (c.divisor.ensures ∙ ap (divisor_of _) c.as_byte.ensures ∙ sym (clock_past _ _))
    c.word.ensures
