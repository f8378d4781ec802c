use Rattle.std.proofs.Common.{◌≡◌, subst, length, false}
use Rattle.seat.specs.declared.Seat.{Seat}
use Rattle.records.specs.Events.{seat_count}
use Rattle.c_word.specs.Word.{Tells}
use Rattle.c_bench.specs.Outputs.{outputs_of}
use Rattle.embed.proofs.Chairs.{held_is}
use Rattle.embed.proofs.hailstoat_modem_outputs.Goals as goal

pub returns : goal.returns
returns c =
    let full : length c.args.bench.now.seats ≡ seat_count = search in
    subst (λ (s : Seat). Tells c.seat_outputs.result (outputs_of s.channel.settings.mcr c.args.seat) false) (held_is c.args.bench.now c.args.seat _ full) c.seat_outputs.ensures
