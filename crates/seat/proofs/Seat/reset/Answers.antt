use Rattle.std.proofs.Common.{sym, ◌∙◌, ap₂}
use Rattle.seat.specs.declared.Seat.{Seat}
use Rattle.seat.specs.CountLaws.{reset_counts}
use Rattle.seat.proofs.Seat.reset.Goals as goal

pub returns : goal.returns
returns c = let s = c.args.self in
    ap₂ {C = Seat} (λ t x. record { tallies = t; channel = x }) (c.dropped_more-self.ensures ∙ sym (reset_counts s)) c.master_reset-self.ensures
