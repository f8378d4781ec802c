-- The pages of lessons compute.
use mathlib.Core.Path.{refl}
use Rattle.base.specs.Pick.{pick}
use Rattle.base.specs.Answers.{refusal_of, value_of}
use Rattle.text.specs.Line.{digits_within, decimal, capital, output_digit, line}
use Rattle.page.specs.Pieces.{hex, letter}
use Rattle.page.specs.Pages.{no_page, column_after, put_byte, put, shown, headed, separation, fits, placed, joined, ended}
use Rattle.page.specs.Notes.{plain, word_length, passed, note_byte, noted, commented}
use Rattle.names.specs.Words.{later_words, refusal_words, name_read, name_written, name_of, name_at_divisor, register_words, cause_said, iir_words, bits_said, lsr_said, msr_said, marks_named, marks_said, levels_said, lines_in, line_list, lines_said}
use Rattle.deeds.specs.Done.{seat_words, read_done, value_written, write_done, arrival_done, levels_done, time_done, controller_read_done, word_at0, word_at1, word_written, controller_write_done, seat_done, other_done, whole_done, cut_done}
use Rattle.answers.specs.Came.{refused_came, behind_said, figures_said, letter_came, plain_came, register_came, port_name, port_came, byte_came, sent_came, vector_came, spurious_came}
use Rattle.queue.specs.Queue as queue
use Rattle.receiver.specs.Receiver as receiver
use Rattle.receiver.specs.Ledger as ledger
use Rattle.registers.specs.Modem as modem
use Rattle.registers.specs.Refusals as refusing
use Rattle.channel.specs.Effects as effects
use Rattle.channel.specs.Moments as moments
use Rattle.channel.specs.Status.{lsr, msr}
use Rattle.bench.proofs.Slips as bench
use Rattle.account.specs.Head.{blanks, head_words}
use Rattle.moves.specs.Moved.{counted, turned, queues_moved, troubles_moved, flags_moved, changes_moved, loopback_moved, channel_moved, seat_moved, line_words, line_turned, lines_turned, first_moved, ready_moved, output_moved, controller_moved}
use Rattle.account.specs.Told.{divisor_at, told}
use Rattle.account.specs.Examples.{WorkedExample, Ingredients, Commented}
use Prim.Native.Nat.{ℕ}

-- it opens what a page is told with
unfoldable of_words : ℕ
unfolding digits_within decimal capital output_digit line hex letter later_words refusal_words name_read name_written name_of name_at_divisor register_words cause_said iir_words
    bits_said lsr_said msr_said marks_named marks_said levels_said lines_in line_list lines_said
of_words = 0

unfoldable of_deeds : ℕ
unfolding seat_words read_done value_written write_done arrival_done levels_done time_done controller_read_done word_at0 word_at1 word_written controller_write_done
    seat_done other_done whole_done cut_done refused_came behind_said figures_said letter_came plain_came register_came port_name port_came byte_came sent_came vector_came spurious_came
of_deeds = 0

unfoldable of_moves : ℕ
unfolding counted turned queues_moved troubles_moved flags_moved changes_moved loopback_moved channel_moved line_words line_turned lines_turned first_moved ready_moved
    output_moved controller_moved lsr msr divisor_at seat_moved
of_moves = 0

-- and, with what the runs of the bench open, what an arrival and the reads of what arrived go through
unfoldable of_arrivals : ℕ
unfolding queue.room queue.entered queue.replaced queue.capacity queue.accepted queue.moved_down queue.taken queue.unmarked
    receiver.received receiver.got receiver.lsr_seen ledger.after ledger.arrived_in ledger.read_in ledger.lost_in ledger.dropped_in
    modem.msr_of refusing.grounds refusing.refusal effects.lsr_read effects.receives effects.heard_outside effects.after_arrival moments.moments_of
of_arrivals = 0

unfoldable of_pages : ℕ
unfolding no_page column_after put_byte put shown headed separation fits placed joined ended plain word_length passed note_byte noted commented blanks head_words told
of_pages = 0

pub worked_example : WorkedExample
unfolding pick refusal_of value_of bench.run of_arrivals of_words of_deeds of_moves of_pages
worked_example = refl

pub ingredients : Ingredients
unfolding pick refusal_of value_of bench.run of_arrivals of_words of_deeds of_moves of_pages
ingredients = refl

pub commented_example : Commented
unfolding pick refusal_of value_of bench.run of_arrivals of_words of_deeds of_moves of_pages
commented_example = refl
