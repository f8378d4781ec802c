use Rattle.std.proofs.Common.{ℕ, Bool, ◌≡◌, refl, subst, sym, ap, ◌∙◌}
use Rattle.base.specs.declared.Whole.{Whole}
use Rattle.controller.specs.Turns.{output_of}
use Rattle.records.specs.Events.{record_of}
use Rattle.records.specs.Parts.{parted}
use Rattle.records.specs.declared.Touched.{Touched}
use Rattle.c_word.specs.Word.{Tells}
use Rattle.c_bench.specs.NumberLaws.{past_a_byte}
use Rattle.c_bench.specs.Parts.{Parted}
use Rattle.c_bench.proofs.parts.Goals as goal

-- what was touched and the output, each by what it equals
came : (w : ℕ) (t u : Touched) (high : Bool) → t ≡ u → high ≡ output_of t.controller → Tells w t.answer high → Parted (record { seat = t.seat; controller = t.controller; word = w }) u
came w t u high is shows told =
    subst (λ (x : Touched). Parted (record { seat = t.seat; controller = t.controller; word = w }) x) is
    (record { seat = refl; controller = refl; told = subst (λ (y : Bool). Tells w t.answer y) shows told })

pub returns : goal.returns
returns c =
    let a = c.args.asked in
    came c.word.result c.step_parts-t.result _ c.output.result
    (c.step_parts-t.ensures
    ∙ ap (λ (w : Whole). parted c.args.seat c.args.controller (record_of w)) c.bytes.ensures
    ∙ sym (past_a_byte c.args.seat c.args.controller a.seat a.value a.kind a.number))
    c.output.ensures c.word.ensures
