use Rattle.std.proofs.Common.{sym, ◌∙◌, ap, List, ℕ, Some}
use Rattle.channel_image.specs.Allowed.{channel_good}
use Rattle.channel_image.specs.Read.{channel_from}
use Rattle.channel_image.specs.FoundLaws.{found_short, found_good, found_bad}
use Rattle.channel_image.proofs.reading.get.Goals as goal

pub returns-in_err-b : goal.returns-in_err-b
returns-in_err-b c = c.from_residual.ensures ∙ sym (found_short c.args.part.now c.in_err-b.ensures.cases)

pub returns-then-channel_good : goal.returns-then-channel_good
returns-then-channel_good c =
    let first = c.in_ok-b.ensures.cases in
    ap Some c.channel_from.ensures ∙ ap (λ (b : List ℕ). Some (channel_from b)) first.same
    ∙ sym (found_good c.args.part.now first.enough (ap channel_good (sym first.same) ∙ sym c.channel_good.ensures ∙ c.if-channel_good.true))

pub returns-else-channel_good : goal.returns-else-channel_good
returns-else-channel_good c =
    let first = c.in_ok-b.ensures.cases in
    sym (found_bad c.args.part.now first.enough (ap channel_good (sym first.same) ∙ sym c.channel_good.ensures ∙ c.if-channel_good.false))
