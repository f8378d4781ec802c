use Rattle.std.proofs.Common.{⊎_elim, ◌≡◌, ℕ}
use Rattle.registers.specs.declared.SeatEvent.TheVariants.{Read, Write}
use Rattle.registers.proofs.Settings.refusal.Goals as goal

pub returns-in-Levels : goal.returns-in-Levels
returns-in-Levels c = rw c.in-Levels.is (c.refuse_levels.ensures c.args.self)

pub returns-in-Read : goal.returns-in-Read
returns-in-Read c =
    let h = c.refuse_access.ensures c.args.self in
    ⊎_elim
    (λ (e : c.args.e ≡ Read c.in-Read.number). rw e h.0)
    (λ (e : (byte : ℕ) × (c.args.e ≡ Write c.in-Read.number byte)). rw e.1 (h.1 e.0))
    c.in-Read.is
