use Rattle.seat_page.specs.SeatPages.{read_pieces}
use Rattle.channel.specs.Status.{lsr, iir, msr, inputs}
use Rattle.status.specs.StatusLaws.{iir_by_changes}
use Rattle.page.specs.PageLaws.{joined_piece}
use Rattle.seat_page.proofs.seats.tell_reads.Goals as goal

pub returns : goal.returns
unfolding read_pieces lsr iir msr
returns c = let v = c.args.c in
    simp (c.join-3.ensures, c.msr.ensures, c.join-2.ensures, c.iir.ensures, c.join.ensures, c.lsr.ensures, c.modem_status-msr.ensures, c.inputs-inputs.ensures, c.iir-iir.ensures, c.lsr-lsr.ensures, c.is_fifo.ensures, iir_by_changes v.settings v.receiver v.transmitter v.modem.changes (inputs v), joined_piece)
