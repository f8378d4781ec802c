-- The statements of this room. The proofs give the record whole.
use Rattle.sight.specs.Seen.{SeenAsRead, SeatsNamed, PowerUpSeen}

pub record Statements : Type 0 where
  pub seen_as_read : SeenAsRead
  pub seats_named : SeatsNamed
  pub power_up_seen : PowerUpSeen
