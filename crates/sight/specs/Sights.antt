-- What the timeline shows of a bench.
use Rattle.std.specs.Prelude.{ℕ, get_or}
use Rattle.base.specs.ListLaws.{listed}
use Rattle.channel.specs.Status.{lsr}
use Rattle.controller.specs.Turns.{requests, output_of}
use Rattle.seat.specs.declared.Seat.{Seat}
use Rattle.seat.specs.Seats.{queued}
use Rattle.records.specs.Events.{seat_count}
use Rattle.bench.specs.declared.Bench.{Bench}
use Rattle.bench.specs.Seats.{chair, seat}
use Rattle.sight.specs.declared.Look.{Look}
use Rattle.sight.specs.declared.Sight.{Sight}

-- of a seat: its LSR, and how many its receive queue holds
unfoldable pub look_of : Seat → Look
look_of s = record { lsr = lsr s.channel; queued = queued s }

-- of the controller, the output and four sets of lines: "A request is one that stands, masked or not."
unfoldable pub sight_of : Bench → Sight
sight_of b =
    record {
      output = output_of b.controller;
      levels = b.controller.lines.levels;
      requests = requests b.controller;
      service = b.controller.operation.service;
      mask = b.controller.operation.mask;
      seats = listed seat_count (λ n. look_of (seat b n));
    }

-- where there is no seat
abbrev pub no_look : Look
no_look = record { lsr = 0; queued = 0 }

-- what a sight has of seat n
unfoldable pub look_at : Sight → ℕ → Look
look_at s n = get_or s.seats (chair n) no_look
