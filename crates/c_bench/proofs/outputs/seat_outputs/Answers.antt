use Rattle.std.proofs.Common.{false, ap, subst, sym, ◌∙◌}
use Rattle.base.specs.Refusals.{number_of}
use Rattle.base.specs.declared.Answer.{Answer}
use Rattle.base.specs.declared.Answer.TheVariants.{Byte, Refused}
use Rattle.c_word.specs.Word.{Tells}
use Rattle.c_bench.specs.OutputsLaws.{outputs_told, outputs_refused}
use Rattle.c_bench.proofs.outputs.seat_outputs.Goals as goal

pub returns-then-n-ge-SEATS : goal.returns-then-n-ge-SEATS
unfolding number_of
returns-then-n-ge-SEATS c =
    subst (λ (a : Answer). Tells c.word.result a false)
    (ap Refused c.number.ensures ∙ sym (outputs_refused _ _ c.if-n-ge-SEATS.true))
    c.word.ensures

pub returns : goal.returns
returns c =
    subst (λ (a : Answer). Tells c.word-2.result a false)
    (ap Byte c.active_outputs.ensures ∙ sym (outputs_told _ _ c.if-n-ge-SEATS.false))
    c.word-2.ensures
