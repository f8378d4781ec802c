use Rattle.std.proofs.Common.{ℕ, ap, ◌∙◌, get_or}
use Rattle.seat.specs.Seats.{no_seat}
use Rattle.bench.specs.Seats.{seat}
use Rattle.bench.specs.Tallies.{asked_by, asked_of}
use Rattle.bench.proofs.Bench.tallies.Goals as goal

pub returns : goal.returns
unfolding asked_of seat
returns c =
    let a = c.args in
    c.tallies_by.ensures ∙ ap (λ (k : ℕ). asked_by (get_or a.self.seats k no_seat) a.n) c.chair.ensures
