-- The examples compute.
use mathlib.Core.Path.{refl}
use Rattle.base.specs.Pick.{pick}
use Rattle.base.specs.Bits.{bit, digit, bits}
use Rattle.text.specs.Line.{capital, digits_within, decimal}
use Rattle.page.specs.Pieces.{hex, letter}
use Rattle.page.specs.Pages.{no_page, column_after, put_byte, put, shown, headed, separation, fits, placed, joined, ended}
use Rattle.names.specs.Words.{cause_said, iir_words, bits_said, lsr_said, msr_said, marks_named, marks_said}
use Rattle.queue.specs.Queue.{oldest, any_marked, marked}
use Rattle.registers.specs.Words.{trigger}
use Rattle.registers.specs.Modem.{msr_of, some_change}
use Rattle.registers.specs.Loopback.{inputs_of}
use Rattle.receiver.specs.Receiver.{none_queued, shown_marks, some_marked, data_stands, timeout_stands}
use Rattle.transmitter.specs.Transmitter.{none_waiting, all_sent}
use Rattle.status.specs.Status.{lsr_of, line_trouble, causes, first_cause, cause_of, iir_of, line_of}
use Rattle.channel.specs.Status.{lsr, msr, iir, line}
use Rattle.seat_page.specs.SeatPages.{seat_head, read_pieces, line_words, line_pieces, character_words, queue_pieces, shift_words, queues_pieces, timeout_words, kept_words, flag_pieces, tally_pieces, channel_pieces, seat_pieces, seat_page}
use Rattle.seat_page.specs.Examples.{Examples}

pub exemplified : Examples
unfolding pick bit digit bits capital digits_within decimal hex letter no_page column_after put_byte put shown headed separation fits placed joined ended
    cause_said iir_words bits_said lsr_said msr_said marks_named marks_said oldest any_marked marked trigger msr_of some_change inputs_of
    none_queued shown_marks some_marked data_stands timeout_stands none_waiting all_sent lsr_of line_trouble causes first_cause cause_of iir_of line_of lsr msr iir line
    seat_head read_pieces line_words line_pieces character_words queue_pieces shift_words queues_pieces timeout_words kept_words flag_pieces tally_pieces channel_pieces seat_pieces seat_page
exemplified = record { idle = refl; in_trouble = refl; all_sixteen = refl }
