use Rattle.seat_page.specs.Using.{in_use}
use Rattle.seat_page.proofs.using.is_in_use.Goals as goal

pub returns : goal.returns
unfolding in_use
returns c = simp (← c.any_arrived.ensures, ← c.any_to_send.ensures, ← c.any_modem.ensures, ← c.any_setting.ensures)
