use Rattle.seat_page.specs.Using.{some_to_send}
use Rattle.seat_page.proofs.using.any_to_send.Goals as goal

pub returns : goal.returns
unfolding some_to_send
returns c = simp (← c.is_empty.ensures)
