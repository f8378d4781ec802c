-- The seats in use, as a set: seat n is its bit n.
use Rattle.std.specs.Prelude.{ℕ, not, ◌&&◌}
use Rattle.base.specs.Pick.{pick}
use Rattle.rank.specs.Sets.{only, join}
use Rattle.records.specs.Events.{uses_seat, seat_above}

-- "those that a record of the lesson names (kinds 0 to 4, seat up to 7)"
unfoldable pub with_named : ℕ → ℕ → ℕ → ℕ
with_named used kind seat = pick (uses_seat kind && not (seat_above seat)) (join used (only seat)) used
