-- The statements of this room. The proofs give the record whole.
use Rattle.seat_page.specs.AsRead.{AsRead}
use Rattle.seat_page.specs.Uncut.{NoneCut, Whole, OnTerminal}
use Rattle.seat_page.specs.Idle.{PowerUpIdle, IdleAsAtPowerUp}
use Rattle.seat_page.specs.Examples.{Examples}

pub record Statements : Type 0 where
  pub as_read : AsRead
  pub none_cut : NoneCut
  pub whole : Whole
  pub on_terminal : OnTerminal
  pub power_up_idle : PowerUpIdle
  pub idle_as_at_power_up : IdleAsAtPowerUp
  pub examples : Examples
