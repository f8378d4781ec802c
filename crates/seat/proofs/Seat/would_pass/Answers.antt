use Rattle.std.proofs.Common.{sym, ◌∙◌}
use Rattle.seat.specs.CountLaws.{full_told, below_told}
use Rattle.seat.proofs.Seat.would_pass.Goals as goal

pub returns-then-is_full : goal.returns-then-is_full
returns-then-is_full c = let a = c.args in
    full_told a.self a.e _ c.hears.ensures (sym c.is_full.ensures ∙ c.if-is_full.true)

pub returns-else-is_full : goal.returns-else-is_full
returns-else-is_full c = let a = c.args in
    let below = c.if-is_full.false in
    below ∙ sym (below_told a.self a.e (sym c.is_full.ensures ∙ below))
