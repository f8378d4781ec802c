use Rattle.std.proofs.Common.{sym, ◌∙◌, arith}
use Rattle.seat_image.specs.ReadLaws.{found_short, no_channel, no_tallies, with_tallies}
use Rattle.seat_image.proofs.reading.get.Goals as goal

pub returns-then-part-length : goal.returns-then-part-length
returns-then-part-length c = sym (found_short c.args.version c.args.part.now (omega (arith, c.if-part-length.true, c.length.ensures)))

pub returns-in_err-channel : goal.returns-in_err-channel
returns-in_err-channel c =
    c.from_residual.ensures
    ∙ sym (no_channel c.args.version c.args.part.now (omega (arith, c.if-part-length.false, c.length.ensures)) (sym c.in_err-channel.ensures))

pub returns-in_err-tallies : goal.returns-in_err-tallies
returns-in_err-tallies c =
    c.from_residual-in_err-tallies.ensures
    ∙ sym (no_tallies c.args.version c.args.part.now (omega (arith, c.if-part-length.false, c.length.ensures)) c.in_ok-channel.channel
    (sym c.in_ok-channel.ensures) (sym c.in_err-tallies.ensures))

pub returns : goal.returns
returns c =
    sym (with_tallies c.args.version c.args.part.now (omega (arith, c.if-part-length.false, c.length.ensures)) c.in_ok-channel.channel
    (sym c.in_ok-channel.ensures) c.in_ok-tallies.tallies (sym c.in_ok-tallies.ensures))
