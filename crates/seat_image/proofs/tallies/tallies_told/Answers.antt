use Rattle.std.proofs.Common.{ap, ap₂, sym, ◌∙◌, ◌&&◌, eqb, Some}
use Rattle.base.specs.PickLaws.{pick_true, pick_false}
use Rattle.seat.specs.Tallies.{add_up}
use Rattle.seat_image.specs.Read.{tallies_good, tallies_told}
use Rattle.seat_image.proofs.tallies.tallies_told.Goals as goal

pub returns-then-add_up-still : goal.returns-then-add_up-still
unfolding tallies_told tallies_good
returns-then-add_up-still c =
    let test =
    ap₂ ◌&&◌ (c.add_up.ensures ∙ ap₂ add_up c.tallies_from-t.ensures c.word_at-still.ensures) (ap₂ eqb c.word_at-still.ensures c.from.ensures)
    in
    ap Some c.tallies_from-t.ensures ∙ sym (pick_true _ _ _ (sym test ∙ c.if-add_up-still.true))

pub returns-else-add_up-still : goal.returns-else-add_up-still
unfolding tallies_told tallies_good
returns-else-add_up-still c =
    let test =
    ap₂ ◌&&◌ (c.add_up.ensures ∙ ap₂ add_up c.tallies_from-t.ensures c.word_at-still.ensures) (ap₂ eqb c.word_at-still.ensures c.from.ensures)
    in
    sym (pick_false _ _ _ (sym test ∙ c.if-add_up-still.false))
