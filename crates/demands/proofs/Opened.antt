-- What a run from power-up goes through, named once: to unfold `laid_open` is to unfold all of it.
use Prim.Native.Nat.{ℕ}
use Rattle.base.specs.Answers as answers
use Rattle.queue.specs.Queue as queue
use Rattle.receiver.specs.Receiver as receiver
use Rattle.transmitter.specs.Transmitter as sender
use Rattle.registers.specs.Registers as registers
use Rattle.registers.specs.Words as words
use Rattle.registers.specs.Modem as modem
use Rattle.registers.specs.Loopback as loopback
use Rattle.registers.specs.Refusals as refusing
use Rattle.channel.specs.Parts as parts
use Rattle.status.specs.Status as status
use Rattle.channel.specs.Status as channel-status
use Rattle.channel.specs.Effects as effects
use Rattle.channel.specs.Steps as channel
use Rattle.seat.specs.Tallies as tallies
use Rattle.seat.specs.Steps as seat
use Rattle.rank.specs.Sets as sets
use Rattle.records.specs.Events as events
use Rattle.bench.specs.Seats as seats
use Rattle.bench.specs.Refusals as refused
use Rattle.bench.specs.Steps as bench
use Rattle.bench.specs.Tallies as telling
use Rattle.bench.specs.Runs as runs
use Rattle.channel.specs.Moments as moments
use Rattle.receiver.specs.Ledger as ledger
use Rattle.receiver.specs.Letters as letters
use Rattle.queue.specs.Joining as joining
use Rattle.turn.proofs.Opened as turn
use Rattle.base.specs.Refusals as grounds
use Rattle.controller.specs.Valid as controller
use Rattle.channel_image.specs.Allowed as allowed
use Rattle.channel_image.specs.Read as channel-read
use Rattle.seat_image.specs.Words as seat-words
use Rattle.seat_image.specs.Written as seat-written
use Rattle.seat_image.specs.Read as seat-read
use Rattle.image.specs.Layout as layout
use Rattle.image.specs.Read as image-read
use Rattle.image.specs.Refusals as image

unfoldable pub of_queue : ℕ
unfolding queue.room queue.entered queue.replaced queue.capacity queue.accepted queue.moved_down queue.taken
    queue.oldest queue.unmarked queue.any_marked queue.marked queue.clear queue.canonical
of_queue = 0

unfoldable pub of_receiver : ℕ
unfolding receiver.none_queued receiver.received receiver.got receiver.shown_marks receiver.some_marked receiver.lsr_seen
    receiver.waited receiver.cleared receiver.after_mode_change receiver.restarted receiver.data_stands receiver.timeout_stands
of_receiver = 0

unfoldable pub of_transmitter : ℕ
unfolding sender.none_waiting sender.all_sent sender.flag_set_if sender.written sender.emptied sender.next sender.shifted sender.enabled
of_transmitter = 0

unfoldable pub of_registers : ℕ
unfolding parts.master_reset words.trigger words.cut registers.plain_register registers.register_at registers.fcr_kept modem.changes_after modem.msr_of modem.some_change loopback.inputs_of
    refusing.grounds refusing.refusal
of_registers = 0

unfoldable pub of_status : ℕ
unfolding status.lsr_of status.line_trouble status.causes status.first_cause status.cause_of status.iir_of status.line_of
    channel-status.lsr channel-status.msr channel-status.cause channel-status.iir channel-status.line
of_status = 0

unfoldable pub of_effects : ℕ
unfolding effects.iir_read effects.lsr_read effects.msr_read effects.answer_at effects.after_read effects.ier_written effects.mode_changed effects.fcr_receiver
    effects.fcr_transmitter effects.fcr_written effects.noticed effects.mcr_written effects.after_write effects.receives effects.heard_outside
    effects.after_arrival effects.after_levels effects.heard_back effects.after_time effects.time_answer
of_effects = 0

unfoldable pub of_steps : ℕ
unfolding channel.effect channel.stepped tallies.tallied seat.refusal seat.effect seat.stepped
of_steps = 0

unfoldable pub of_bench : ℕ
unfolding sets.with_line events.early events.event_of events.decoded events.refused_number seats.seat seats.with_seat seats.lines
    refused.room_grounds refused.grounds refused.refusal bench.after bench.answer_to bench.outcome bench.room_refusal bench.met bench.dealt telling.tallies_of
of_bench = 0

unfoldable pub of_moments : ℕ
unfolding runs.own moments.read_moments moments.fcr_moments moments.write_moments moments.arrival_moments moments.time_moments moments.accepted_moments moments.moments_of moments.handed_by moments.telling moments.told_in
of_moments = 0

unfoldable pub of_ledger : ℕ
unfolding ledger.after ledger.arrived_in ledger.read_in ledger.lost_in ledger.dropped_in
of_ledger = 0

unfoldable pub of_letters : ℕ
unfolding joining.joined letters.seen_by_lsr letters.waiting_after letters.waiting_in letters.oldest_leaves letters.leaving_in answers.figures_of answers.is_letter
of_letters = 0

unfoldable pub of_seat_lem : ℕ
unfolding of_queue of_receiver of_transmitter of_registers of_status of_effects of_moments of_ledger of_steps
of_seat_lem = 0

unfoldable pub laid_open : ℕ
unfolding of_seat_lem of_letters of_bench turn.laid_open
laid_open = 0

-- and what the reading of an image goes through
unfoldable pub of_images : ℕ
unfolding answers.refusal_of grounds.first_held controller.latches_high tallies.add_up
    allowed.sixteen_small allowed.registers_in_range allowed.flags_in_range allowed.marks_in_range allowed.queues_within allowed.count_allowed allowed.unused_zero allowed.channel_good
    channel-read.slots_from channel-read.transmitter_from channel-read.receiver_from channel-read.channel_from
    seat-words.word_at seat-words.word_bytes seat-written.tally_bytes seat-read.tallies_in seat-read.new_record seat-read.tallies_from seat-read.tallies_good seat-read.seat_from seat-read.record_good seat-read.found
    layout.version_of layout.place_in image-read.seats_in image-read.seats_good image-read.controller_from image-read.bench_from
    image.marked image.controller_in_range image.latches_allowed image.image_good image.refusal image.restored
of_images = 0
