use Rattle.bench.specs.Seats.{seat}
use Rattle.sight.specs.Sights.{sight_of}
use Rattle.sight.proofs.Sight.of.Goals as goal

pub returns : goal.returns
unfolding sight_of seat
returns c = λ i. record {
  output = c.output.ensures i;
  levels = c.args.bench.controller.lines.levels;
  requests = c.requests.ensures i;
  service = c.args.bench.controller.operation.service;
  mask = c.args.bench.controller.operation.mask;
  seats = c.all_seen.ensures i;
}
