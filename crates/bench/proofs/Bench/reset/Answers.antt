use Rattle.std.proofs.Common.{List, ap₂, sym, ◌∙◌}
use Rattle.base.specs.declared.Answer.TheVariants.{Done}
use Rattle.controller.specs.declared.Controller.{Controller}
use Rattle.seat.specs.declared.Seat.{Seat}
use Rattle.bench.specs.Steps.{shown}
use Rattle.bench.proofs.PartLaws.{reset_shown}
use Rattle.bench.proofs.Bench.reset.Goals as goal

pub returns : goal.returns
returns c =
    c.show.ensures
    ∙ ap₂ (λ (seats : List Seat) (k : Controller). shown (record { seats = seats; controller = k }) Done) c.reset_all-self.ensures c.settle-self.ensures
    ∙ sym (reset_shown c.args.self)
