-- A line for every public call, room by room: its contract leaves no second outcome. The line's name is the call's, and tools/before/05-once
-- fails where a call has no line. Programs, which nothing calls, have none.
use Rattle.base.specs.contracts as base
use Rattle.c_word.specs.contracts as c_word
use Rattle.queue.specs.contracts as queue
use Rattle.rates.specs.contracts as rates
use Rattle.setting_lines.specs.contracts as setting_lines
use Rattle.sheets.specs.contracts as sheets
use Rattle.options.specs.contracts as options
use Rattle.registers.specs.contracts as registers
use Rattle.receiver.specs.contracts as receiver
use Rattle.transmitter.specs.contracts as transmitter
use Rattle.status.specs.contracts as status
use Rattle.channel.specs.contracts as channel
use Rattle.lending.specs.contracts as lending
use Rattle.seat.specs.contracts as seat
use Rattle.channel_image.specs.contracts as channel_image
use Rattle.seat_image.specs.contracts as seat_image
use Rattle.rank.specs.contracts as rank
use Rattle.controller.specs.contracts as controller
use Rattle.records.specs.contracts as records
use Rattle.bench.specs.contracts as bench
use Rattle.text.specs.contracts as text
use Rattle.page.specs.contracts as page
use Rattle.names.specs.contracts as names
use Rattle.deeds.specs.contracts as deeds
use Rattle.answers.specs.contracts as answers
use Rattle.moves.specs.contracts as moves
use Rattle.account.specs.contracts as account
use Rattle.seat_page.specs.contracts as seat_page
use Rattle.controller_page.specs.contracts as controller_page
use Rattle.sight.specs.contracts as sight
use Rattle.timeline.specs.contracts as timeline
use Rattle.image.specs.contracts as image
use Rattle.listing.specs.contracts as listing
use Rattle.lesson.specs.contracts as lesson
use Rattle.streams.specs.contracts as streams
use Rattle.c_bench.specs.contracts as c_bench
use Rattle.embed.specs.contracts as embed
use Rattle.demands.specs.Once.{Free, Once}

-- ---- base: answers, bits and choices

pub record BaseOnce (M : Type 1) : Type 2 where
  pub base·Answer·refusal : Once M base.Answer.refusal.ended (λ 𝓤. base.Answer.refusal.clauses) (λ 𝓤. base.Answer.refusal.spec)
  pub base·Answer·value : Once M base.Answer.value.ended (λ 𝓤. base.Answer.value.clauses) (λ 𝓤. base.Answer.value.spec)
  pub base·Refusal·number : Once M base.Refusal.number.ended (λ 𝓤. base.Refusal.number.clauses) (λ 𝓤. base.Refusal.number.spec)
  pub base·bit : Once M base.bit.ended (λ 𝓤. base.bit.clauses) (λ 𝓤. base.bit.spec)
  pub base·pick_byte : Once M base.pick_byte.ended (λ 𝓤. base.pick_byte.clauses) (λ 𝓤. base.pick_byte.spec)
  pub base·pick_flag : Once M base.pick_flag.ended (λ 𝓤. base.pick_flag.clauses) (λ 𝓤. base.pick_flag.spec)
  pub base·nibble : Once M base.nibble.ended (λ 𝓤. base.nibble.clauses) (λ 𝓤. base.nibble.spec)
  pub base·byte_of : Once M base.byte_of.ended (λ 𝓤. base.byte_of.clauses) (λ 𝓤. base.byte_of.spec)

-- ---- c_word: C's numbers and its word

pub record CWordOnce (M : Type 1) : Type 2 where
  pub c_word·as_byte : Once M c_word.as_byte.ended (λ 𝓤. c_word.as_byte.clauses) (λ 𝓤. c_word.as_byte.spec)
  pub c_word·as_divisor : Once M c_word.as_divisor.ended (λ 𝓤. c_word.as_divisor.clauses) (λ 𝓤. c_word.as_divisor.spec)
  pub c_word·word : Once M c_word.word.ended (λ 𝓤. c_word.word.clauses) (λ 𝓤. c_word.word.spec)

-- ---- queue: a queue

pub record QueueOnce (M : Type 1) : Type 2 where
  pub queue·Queue·empty : Once M queue.Queue.empty.ended (λ 𝓤. queue.Queue.empty.clauses) (λ 𝓤. queue.Queue.empty.spec)
  pub queue·Queue·capacity : Once M queue.Queue.capacity.ended (λ 𝓤. queue.Queue.capacity.clauses) (λ 𝓤. queue.Queue.capacity.spec)
  pub queue·Queue·accept : Once M queue.Queue.accept.ended (λ 𝓤. queue.Queue.accept.clauses) (λ 𝓤. queue.Queue.accept.spec)
  pub queue·Queue·take : Once M queue.Queue.take.ended (λ 𝓤. queue.Queue.take.clauses) (λ 𝓤. queue.Queue.take.spec)
  pub queue·Queue·first : Once M queue.Queue.first.ended (λ 𝓤. queue.Queue.first.clauses) (λ 𝓤. queue.Queue.first.spec)
  pub queue·Queue·unmark : Once M queue.Queue.unmark.ended (λ 𝓤. queue.Queue.unmark.clauses) (λ 𝓤. queue.Queue.unmark.spec)
  pub queue·Queue·any_marked : Once M queue.Queue.any_marked.ended (λ 𝓤. queue.Queue.any_marked.clauses) (λ 𝓤. queue.Queue.any_marked.spec)

-- ---- rates: the divisor latch table

pub record RatesOnce (M : Type 1) : Type 2 where
  pub rates·divisor : Once M rates.divisor.ended (λ 𝓤. rates.divisor.clauses) (λ 𝓤. rates.divisor.spec)
  pub rates·rate : Once M rates.rate.ended (λ 𝓤. rates.rate.clauses) (λ 𝓤. rates.rate.spec)

-- ---- setting_lines: a settings line, read and written

pub record SettingLinesOnce (M : Type 1) : Type 2 where
  pub setting_lines·read : Once M setting_lines.read.ended (λ 𝓤. setting_lines.read.clauses) (λ 𝓤. setting_lines.read.spec)
  pub setting_lines·write : Once M setting_lines.write.ended (λ 𝓤. setting_lines.write.clauses) (λ 𝓤. setting_lines.write.spec)

-- ---- sheets: a control sheet, with the array that is lent back

pub record SheetsOnce (M : Type 1) : Type 2 where
  pub sheets·Line·start : Once M sheets.Line.start.ended (λ 𝓤. sheets.Line.start.clauses) (λ 𝓤. sheets.Line.start.spec)
  pub sheets·Line·after : Once M sheets.Line.after.ended (λ 𝓤. sheets.Line.after.clauses) (λ 𝓤. sheets.Line.after.spec)
  pub sheets·Line·is_empty : Once M sheets.Line.is_empty.ended (λ 𝓤. sheets.Line.is_empty.clauses) (λ 𝓤. sheets.Line.is_empty.spec)
  pub sheets·Line·reply : Once M sheets.Line.reply.ended (λ 𝓤. sheets.Line.reply.clauses) (λ 𝓤. sheets.Line.reply.spec)
  pub sheets·Numbers·start : Once M sheets.Numbers.start.ended (λ 𝓤. sheets.Numbers.start.clauses) (λ 𝓤. sheets.Numbers.start.spec)
  pub sheets·Numbers·after : Once M sheets.Numbers.after.ended (λ 𝓤. sheets.Numbers.after.clauses) (λ 𝓤. sheets.Numbers.after.spec)
  pub sheets·Numbers·is_unread : Once M sheets.Numbers.is_unread.ended (λ 𝓤. sheets.Numbers.is_unread.clauses) (λ 𝓤. sheets.Numbers.is_unread.spec)
  pub sheets·Numbers·reply : Once M sheets.Numbers.reply.ended (λ 𝓤. sheets.Numbers.reply.clauses) (λ 𝓤. sheets.Numbers.reply.spec)
  pub sheets·read_clock : Once M sheets.read_clock.ended (λ 𝓤. sheets.read_clock.clauses) (λ 𝓤. sheets.read_clock.spec)

-- ---- options: the program's words, one after the other, and when a save is due

pub record OptionsOnce (M : Type 1) : Type 2 where
  pub options·Words·start : Once M options.Words.start.ended (λ 𝓤. options.Words.start.clauses) (λ 𝓤. options.Words.start.spec)
  pub options·Words·after : Once M options.Words.after.ended (λ 𝓤. options.Words.after.clauses) (λ 𝓤. options.Words.after.spec)
  pub options·Words·place_of : Once M options.Words.place_of.ended (λ 𝓤. options.Words.place_of.clauses) (λ 𝓤. options.Words.place_of.spec)
  pub options·Words·are_whole : Once M options.Words.are_whole.ended (λ 𝓤. options.Words.are_whole.clauses) (λ 𝓤. options.Words.are_whole.spec)
  pub options·Words·due : Once M options.Words.due.ended (λ 𝓤. options.Words.due.clauses) (λ 𝓤. options.Words.due.spec)
  pub options·Words·stop : Once M options.Words.stop.ended (λ 𝓤. options.Words.stop.clauses) (λ 𝓤. options.Words.stop.spec)

-- ---- registers: the settings

pub record RegistersOnce (M : Type 1) : Type 2 where
  pub registers·Settings·is_fifo : Once M registers.Settings.is_fifo.ended (λ 𝓤. registers.Settings.is_fifo.clauses) (λ 𝓤. registers.Settings.is_fifo.spec)
  pub registers·Settings·trigger : Once M registers.Settings.trigger.ended (λ 𝓤. registers.Settings.trigger.clauses) (λ 𝓤. registers.Settings.trigger.spec)
  pub registers·Settings·register : Once M registers.Settings.register.ended (λ 𝓤. registers.Settings.register.clauses) (λ 𝓤. registers.Settings.register.spec)
  pub registers·Settings·changes_mode : Once M registers.Settings.changes_mode.ended (λ 𝓤. registers.Settings.changes_mode.clauses) (λ 𝓤. registers.Settings.changes_mode.spec)
  pub registers·Settings·write : Once M registers.Settings.write.ended (λ 𝓤. registers.Settings.write.clauses) (λ 𝓤. registers.Settings.write.spec)
  pub registers·Settings·fcr_kept : Once M registers.Settings.fcr_kept.ended (λ 𝓤. registers.Settings.fcr_kept.clauses) (λ 𝓤. registers.Settings.fcr_kept.spec)
  pub registers·Settings·shown : Once M registers.Settings.shown.ended (λ 𝓤. registers.Settings.shown.clauses) (λ 𝓤. registers.Settings.shown.spec)
  pub registers·Settings·wire_answer : Once M registers.Settings.wire_answer.ended (λ 𝓤. registers.Settings.wire_answer.clauses) (λ 𝓤. registers.Settings.wire_answer.spec)
  pub registers·Settings·cut : Once M registers.Settings.cut.ended (λ 𝓤. registers.Settings.cut.clauses) (λ 𝓤. registers.Settings.cut.spec)
  pub registers·Settings·is_looped : Once M registers.Settings.is_looped.ended (λ 𝓤. registers.Settings.is_looped.clauses) (λ 𝓤. registers.Settings.is_looped.spec)
  pub registers·inputs : Once M registers.inputs.ended (λ 𝓤. registers.inputs.clauses) (λ 𝓤. registers.inputs.spec)
  pub registers·changes_after : Once M registers.changes_after.ended (λ 𝓤. registers.changes_after.clauses) (λ 𝓤. registers.changes_after.spec)
  pub registers·modem_status : Once M registers.modem_status.ended (λ 𝓤. registers.modem_status.clauses) (λ 𝓤. registers.modem_status.spec)
  pub registers·any_change : Once M registers.any_change.ended (λ 𝓤. registers.any_change.clauses) (λ 𝓤. registers.any_change.spec)
  pub registers·Settings·refusal : Once M registers.Settings.refusal.ended (λ 𝓤. registers.Settings.refusal.clauses) (λ 𝓤. registers.Settings.refusal.spec)

-- ---- receiver: a receive side

pub record ReceiverOnce (M : Type 1) : Type 2 where
  pub receiver·Receiver·power_up : Once M receiver.Receiver.power_up.ended (λ 𝓤. receiver.Receiver.power_up.clauses) (λ 𝓤. receiver.Receiver.power_up.spec)
  pub receiver·Receiver·is_empty : Once M receiver.Receiver.is_empty.ended (λ 𝓤. receiver.Receiver.is_empty.clauses) (λ 𝓤. receiver.Receiver.is_empty.spec)
  pub receiver·Receiver·receive : Once M receiver.Receiver.receive.ended (λ 𝓤. receiver.Receiver.receive.clauses) (λ 𝓤. receiver.Receiver.receive.spec)
  pub receiver·Receiver·get : Once M receiver.Receiver.get.ended (λ 𝓤. receiver.Receiver.get.clauses) (λ 𝓤. receiver.Receiver.get.spec)
  pub receiver·Receiver·marks : Once M receiver.Receiver.marks.ended (λ 𝓤. receiver.Receiver.marks.clauses) (λ 𝓤. receiver.Receiver.marks.spec)
  pub receiver·Receiver·trouble : Once M receiver.Receiver.trouble.ended (λ 𝓤. receiver.Receiver.trouble.clauses) (λ 𝓤. receiver.Receiver.trouble.spec)
  pub receiver·Receiver·any_marked : Once M receiver.Receiver.any_marked.ended (λ 𝓤. receiver.Receiver.any_marked.clauses) (λ 𝓤. receiver.Receiver.any_marked.spec)
  pub receiver·Receiver·lsr_read : Once M receiver.Receiver.lsr_read.ended (λ 𝓤. receiver.Receiver.lsr_read.clauses) (λ 𝓤. receiver.Receiver.lsr_read.spec)
  pub receiver·Receiver·wait : Once M receiver.Receiver.wait.ended (λ 𝓤. receiver.Receiver.wait.clauses) (λ 𝓤. receiver.Receiver.wait.spec)
  pub receiver·Receiver·fcr_written : Once M receiver.Receiver.fcr_written.ended (λ 𝓤. receiver.Receiver.fcr_written.clauses) (λ 𝓤. receiver.Receiver.fcr_written.spec)
  pub receiver·Receiver·restart : Once M receiver.Receiver.restart.ended (λ 𝓤. receiver.Receiver.restart.clauses) (λ 𝓤. receiver.Receiver.restart.spec)
  pub receiver·Receiver·data : Once M receiver.Receiver.data.ended (λ 𝓤. receiver.Receiver.data.clauses) (λ 𝓤. receiver.Receiver.data.spec)
  pub receiver·Receiver·timed_out : Once M receiver.Receiver.timed_out.ended (λ 𝓤. receiver.Receiver.timed_out.clauses) (λ 𝓤. receiver.Receiver.timed_out.spec)

-- ---- transmitter: a send side

pub record TransmitterOnce (M : Type 1) : Type 2 where
  pub transmitter·Transmitter·power_up : Once M transmitter.Transmitter.power_up.ended (λ 𝓤. transmitter.Transmitter.power_up.clauses) (λ 𝓤. transmitter.Transmitter.power_up.spec)
  pub transmitter·Transmitter·is_empty : Once M transmitter.Transmitter.is_empty.ended (λ 𝓤. transmitter.Transmitter.is_empty.clauses) (λ 𝓤. transmitter.Transmitter.is_empty.spec)
  pub transmitter·Transmitter·is_idle : Once M transmitter.Transmitter.is_idle.ended (λ 𝓤. transmitter.Transmitter.is_idle.clauses) (λ 𝓤. transmitter.Transmitter.is_idle.spec)
  pub transmitter·Transmitter·iir_read : Once M transmitter.Transmitter.iir_read.ended (λ 𝓤. transmitter.Transmitter.iir_read.clauses) (λ 𝓤. transmitter.Transmitter.iir_read.spec)
  pub transmitter·Transmitter·write : Once M transmitter.Transmitter.write.ended (λ 𝓤. transmitter.Transmitter.write.clauses) (λ 𝓤. transmitter.Transmitter.write.spec)
  pub transmitter·Transmitter·fcr_written :
      Once M transmitter.Transmitter.fcr_written.ended (λ 𝓤. transmitter.Transmitter.fcr_written.clauses) (λ 𝓤. transmitter.Transmitter.fcr_written.spec)
  pub transmitter·Transmitter·shift : Once M transmitter.Transmitter.shift.ended (λ 𝓤. transmitter.Transmitter.shift.clauses) (λ 𝓤. transmitter.Transmitter.shift.spec)
  pub transmitter·Transmitter·ier_written :
      Once M transmitter.Transmitter.ier_written.ended (λ 𝓤. transmitter.Transmitter.ier_written.clauses) (λ 𝓤. transmitter.Transmitter.ier_written.spec)

-- ---- status: what a channel shows

pub record StatusOnce (M : Type 1) : Type 2 where
  pub status·lsr : Once M status.lsr.ended (λ 𝓤. status.lsr.clauses) (λ 𝓤. status.lsr.spec)
  pub status·iir : Once M status.iir.ended (λ 𝓤. status.iir.clauses) (λ 𝓤. status.iir.spec)
  pub status·line : Once M status.line.ended (λ 𝓤. status.line.clauses) (λ 𝓤. status.line.spec)

-- ---- channel: a channel

pub record ChannelOnce (M : Type 1) : Type 2 where
  pub channel·Channel·power_up : Once M channel.Channel.power_up.ended (λ 𝓤. channel.Channel.power_up.clauses) (λ 𝓤. channel.Channel.power_up.spec)
  pub channel·Channel·master_reset : Once M channel.Channel.master_reset.ended (λ 𝓤. channel.Channel.master_reset.clauses) (λ 𝓤. channel.Channel.master_reset.spec)
  pub channel·Channel·step : Once M channel.Channel.step.ended (λ 𝓤. channel.Channel.step.clauses) (λ 𝓤. channel.Channel.step.spec)
  pub channel·Channel·line : Once M channel.Channel.line.ended (λ 𝓤. channel.Channel.line.clauses) (λ 𝓤. channel.Channel.line.spec)

-- ---- lending: a channel lent

pub record LendingOnce (M : Type 1) : Type 2 where
  pub lending·touch : Once M lending.touch.ended (λ 𝓤. lending.touch.clauses) (λ 𝓤. lending.touch.spec)
  pub lending·lent : Once M lending.lent.ended (λ 𝓤. lending.lent.clauses) (λ 𝓤. lending.lent.spec)

-- ---- seat: a seat

pub record SeatOnce (M : Type 1) : Type 2 where
  pub seat·Seat·power_up : Once M seat.Seat.power_up.ended (λ 𝓤. seat.Seat.power_up.clauses) (λ 𝓤. seat.Seat.power_up.spec)
  pub seat·Seat·reset : Once M seat.Seat.reset.ended (λ 𝓤. seat.Seat.reset.clauses) (λ 𝓤. seat.Seat.reset.spec)
  pub seat·Seat·line : Once M seat.Seat.line.ended (λ 𝓤. seat.Seat.line.clauses) (λ 𝓤. seat.Seat.line.spec)
  pub seat·Seat·step : Once M seat.Seat.step.ended (λ 𝓤. seat.Seat.step.clauses) (λ 𝓤. seat.Seat.step.spec)
  pub seat·Seat·five : Once M seat.Seat.five.ended (λ 𝓤. seat.Seat.five.clauses) (λ 𝓤. seat.Seat.five.spec)
  pub seat·Tallies·add_up : Once M seat.Tallies.add_up.ended (λ 𝓤. seat.Tallies.add_up.clauses) (λ 𝓤. seat.Tallies.add_up.spec)

-- ---- channel_image: a channel as bytes, with the part that is lent back

pub record ChannelImageOnce (M : Type 1) : Type 2 where
  pub channel_image·put : Once M channel_image.put.ended (λ 𝓤. channel_image.put.clauses) (λ 𝓤. channel_image.put.spec)
  pub channel_image·get : Once M channel_image.get.ended (λ 𝓤. channel_image.get.clauses) (λ 𝓤. channel_image.get.spec)

-- ---- seat_image: a seat as a record, with the part that is lent back

pub record SeatImageOnce (M : Type 1) : Type 2 where
  pub seat_image·put : Once M seat_image.put.ended (λ 𝓤. seat_image.put.clauses) (λ 𝓤. seat_image.put.spec)
  pub seat_image·get : Once M seat_image.get.ended (λ 𝓤. seat_image.get.clauses) (λ 𝓤. seat_image.get.spec)
  pub seat_image·length : Once M seat_image.length.ended (λ 𝓤. seat_image.length.clauses) (λ 𝓤. seat_image.length.spec)

-- ---- rank: sets and places of lines

pub record RankOnce (M : Type 1) : Type 2 where
  pub rank·only : Once M rank.only.ended (λ 𝓤. rank.only.clauses) (λ 𝓤. rank.only.spec)
  pub rank·without : Once M rank.without.ended (λ 𝓤. rank.without.clauses) (λ 𝓤. rank.without.spec)
  pub rank·with_line : Once M rank.with_line.ended (λ 𝓤. rank.with_line.clauses) (λ 𝓤. rank.with_line.spec)
  pub rank·next : Once M rank.next.ended (λ 𝓤. rank.next.clauses) (λ 𝓤. rank.next.spec)
  pub rank·place : Once M rank.place.ended (λ 𝓤. rank.place.clauses) (λ 𝓤. rank.place.spec)
  pub rank·line_at : Once M rank.line_at.ended (λ 𝓤. rank.line_at.clauses) (λ 𝓤. rank.line_at.spec)
  pub rank·first_place : Once M rank.first_place.ended (λ 𝓤. rank.first_place.clauses) (λ 𝓤. rank.first_place.spec)
  pub rank·first_above : Once M rank.first_above.ended (λ 𝓤. rank.first_above.clauses) (λ 𝓤. rank.first_above.spec)

-- ---- controller: the controller

pub record ControllerOnce (M : Type 1) : Type 2 where
  pub controller·Controller·power_up : Once M controller.Controller.power_up.ended (λ 𝓤. controller.Controller.power_up.clauses) (λ 𝓤. controller.Controller.power_up.spec)
  pub controller·Controller·settle : Once M controller.Controller.settle.ended (λ 𝓤. controller.Controller.settle.clauses) (λ 𝓤. controller.Controller.settle.spec)
  pub controller·Controller·output : Once M controller.Controller.output.ended (λ 𝓤. controller.Controller.output.clauses) (λ 𝓤. controller.Controller.output.spec)
  pub controller·Controller·requests : Once M controller.Controller.requests.ended (λ 𝓤. controller.Controller.requests.clauses) (λ 𝓤. controller.Controller.requests.spec)
  pub controller·Controller·read : Once M controller.Controller.read.ended (λ 𝓤. controller.Controller.read.clauses) (λ 𝓤. controller.Controller.read.spec)
  pub controller·Controller·write : Once M controller.Controller.write.ended (λ 𝓤. controller.Controller.write.clauses) (λ 𝓤. controller.Controller.write.spec)
  pub controller·Controller·acknowledge :
      Once M controller.Controller.acknowledge.ended (λ 𝓤. controller.Controller.acknowledge.clauses) (λ 𝓤. controller.Controller.acknowledge.spec)
  pub controller·Controller·place : Once M controller.Controller.place.ended (λ 𝓤. controller.Controller.place.clauses) (λ 𝓤. controller.Controller.place.spec)

-- ---- records: a record, on one seat and the controller

pub record RecordsOnce (M : Type 1) : Type 2 where
  pub records·step_parts : Once M records.step_parts.ended (λ 𝓤. records.step_parts.clauses) (λ 𝓤. records.step_parts.spec)
  pub records·short_parts : Once M records.short_parts.ended (λ 𝓤. records.short_parts.clauses) (λ 𝓤. records.short_parts.spec)

-- ---- bench: the bench

pub record BenchOnce (M : Type 1) : Type 2 where
  pub bench·chair : Once M bench.chair.ended (λ 𝓤. bench.chair.clauses) (λ 𝓤. bench.chair.spec)
  pub bench·reset_all : Once M bench.reset_all.ended (λ 𝓤. bench.reset_all.clauses) (λ 𝓤. bench.reset_all.spec)
  pub bench·tallies_by : Once M bench.tallies_by.ended (λ 𝓤. bench.tallies_by.clauses) (λ 𝓤. bench.tallies_by.spec)
  pub bench·Bench·power_up : Once M bench.Bench.power_up.ended (λ 𝓤. bench.Bench.power_up.clauses) (λ 𝓤. bench.Bench.power_up.spec)
  pub bench·Bench·step : Once M bench.Bench.step.ended (λ 𝓤. bench.Bench.step.clauses) (λ 𝓤. bench.Bench.step.spec)
  pub bench·Bench·step_short : Once M bench.Bench.step_short.ended (λ 𝓤. bench.Bench.step_short.clauses) (λ 𝓤. bench.Bench.step_short.spec)
  pub bench·Bench·reset : Once M bench.Bench.reset.ended (λ 𝓤. bench.Bench.reset.clauses) (λ 𝓤. bench.Bench.reset.spec)
  pub bench·Bench·place : Once M bench.Bench.place.ended (λ 𝓤. bench.Bench.place.clauses) (λ 𝓤. bench.Bench.place.spec)
  pub bench·Bench·output : Once M bench.Bench.output.ended (λ 𝓤. bench.Bench.output.clauses) (λ 𝓤. bench.Bench.output.spec)
  pub bench·Bench·tallies : Once M bench.Bench.tallies.ended (λ 𝓤. bench.Bench.tallies.clauses) (λ 𝓤. bench.Bench.tallies.spec)

-- ---- text and listing: a digit; a line and a run, each with the buffer that is lent back

pub record ListingOnce (M : Type 1) : Type 2 where
  pub text·digit : Once M text.digit.ended (λ 𝓤. text.digit.clauses) (λ 𝓤. text.digit.spec)
  pub text·capital : Once M text.capital.ended (λ 𝓤. text.capital.clauses) (λ 𝓤. text.capital.spec)
  pub text·put_front : Once M text.put_front.ended (λ 𝓤. text.put_front.clauses) (λ 𝓤. text.put_front.spec)
  pub text·put_after : Once M text.put_after.ended (λ 𝓤. text.put_after.clauses) (λ 𝓤. text.put_after.spec)
  pub listing·run : Once M listing.run.ended (λ 𝓤. listing.run.clauses) (λ 𝓤. listing.run.spec)

-- ---- page: pieces of words, and pages that they fill

pub record PageOnce (M : Type 1) : Type 2 where
  pub page·Piece·empty : Once M page.Piece.empty.ended (λ 𝓤. page.Piece.empty.clauses) (λ 𝓤. page.Piece.empty.spec)
  pub page·Piece·text : Once M page.Piece.text.ended (λ 𝓤. page.Piece.text.clauses) (λ 𝓤. page.Piece.text.spec)
  pub page·Piece·decimal : Once M page.Piece.decimal.ended (λ 𝓤. page.Piece.decimal.clauses) (λ 𝓤. page.Piece.decimal.spec)
  pub page·Piece·hex : Once M page.Piece.hex.ended (λ 𝓤. page.Piece.hex.clauses) (λ 𝓤. page.Piece.hex.spec)
  pub page·Piece·letter : Once M page.Piece.letter.ended (λ 𝓤. page.Piece.letter.clauses) (λ 𝓤. page.Piece.letter.spec)
  pub page·Page·empty : Once M page.Page.empty.ended (λ 𝓤. page.Page.empty.clauses) (λ 𝓤. page.Page.empty.spec)
  pub page·Page·text : Once M page.Page.text.ended (λ 𝓤. page.Page.text.clauses) (λ 𝓤. page.Page.text.spec)
  pub page·Page·add : Once M page.Page.add.ended (λ 𝓤. page.Page.add.clauses) (λ 𝓤. page.Page.add.spec)
  pub page·Page·begin : Once M page.Page.begin.ended (λ 𝓤. page.Page.begin.clauses) (λ 𝓤. page.Page.begin.spec)
  pub page·Page·join : Once M page.Page.join.ended (λ 𝓤. page.Page.join.clauses) (λ 𝓤. page.Page.join.spec)
  pub page·Page·length : Once M page.Page.length.ended (λ 𝓤. page.Page.length.clauses) (λ 𝓤. page.Page.length.spec)
  pub page·Page·comment : Once M page.Page.comment.ended (λ 𝓤. page.Page.comment.clauses) (λ 𝓤. page.Page.comment.spec)
  pub page·Page·end : Once M page.Page.end.ended (λ 𝓤. page.Page.end.clauses) (λ 𝓤. page.Page.end.spec)

-- ---- names: the words, and what is said with them

pub record NamesOnce (M : Type 1) : Type 2 where
  pub names·word : Once M names.word.ended (λ 𝓤. names.word.clauses) (λ 𝓤. names.word.spec)
  pub names·lsr : Once M names.lsr.ended (λ 𝓤. names.lsr.clauses) (λ 𝓤. names.lsr.spec)
  pub names·msr : Once M names.msr.ended (λ 𝓤. names.msr.clauses) (λ 𝓤. names.msr.spec)
  pub names·marks_named : Once M names.marks_named.ended (λ 𝓤. names.marks_named.clauses) (λ 𝓤. names.marks_named.spec)
  pub names·marks : Once M names.marks.ended (λ 𝓤. names.marks.clauses) (λ 𝓤. names.marks.spec)
  pub names·levels : Once M names.levels.ended (λ 𝓤. names.levels.clauses) (λ 𝓤. names.levels.spec)
  pub names·register : Once M names.register.ended (λ 𝓤. names.register.clauses) (λ 𝓤. names.register.spec)
  pub names·lines : Once M names.lines.ended (λ 𝓤. names.lines.clauses) (λ 𝓤. names.lines.spec)
  pub names·iir : Once M names.iir.ended (λ 𝓤. names.iir.clauses) (λ 𝓤. names.iir.spec)

-- ---- deeds, moves and account: a record in words, and its page

pub record AccountOnce (M : Type 1) : Type 2 where
  pub deeds·done : Once M deeds.done.ended (λ 𝓤. deeds.done.clauses) (λ 𝓤. deeds.done.spec)
  pub deeds·cut : Once M deeds.cut.ended (λ 𝓤. deeds.cut.clauses) (λ 𝓤. deeds.cut.spec)
  pub answers·came : Once M answers.came.ended (λ 𝓤. answers.came.clauses) (λ 𝓤. answers.came.spec)
  pub moves·at_seat : Once M moves.at_seat.ended (λ 𝓤. moves.at_seat.clauses) (λ 𝓤. moves.at_seat.spec)
  pub moves·at_controller : Once M moves.at_controller.ended (λ 𝓤. moves.at_controller.clauses) (λ 𝓤. moves.at_controller.spec)
  pub account·record : Once M account.record.ended (λ 𝓤. account.record.clauses) (λ 𝓤. account.record.spec)
  pub account·short : Once M account.short.ended (λ 𝓤. account.short.clauses) (λ 𝓤. account.short.spec)

-- ---- seat_page and controller_page: the state in words

pub record StateOnce (M : Type 1) : Type 2 where
  pub seat_page·is_in_use : Once M seat_page.is_in_use.ended (λ 𝓤. seat_page.is_in_use.clauses) (λ 𝓤. seat_page.is_in_use.spec)
  pub seat_page·seat : Once M seat_page.seat.ended (λ 𝓤. seat_page.seat.clauses) (λ 𝓤. seat_page.seat.spec)
  pub controller_page·controller : Once M controller_page.controller.ended (λ 𝓤. controller_page.controller.clauses) (λ 𝓤. controller_page.controller.spec)

-- ---- sight and timeline: what is seen of a bench, for a wave viewer

pub record TimelineOnce (M : Type 1) : Type 2 where
  pub sight·Sight·of : Once M sight.Sight.of.ended (λ 𝓤. sight.Sight.of.clauses) (λ 𝓤. sight.Sight.of.spec)
  pub timeline·head : Once M timeline.head.ended (λ 𝓤. timeline.head.clauses) (λ 𝓤. timeline.head.spec)
  pub timeline·seat_head : Once M timeline.seat_head.ended (λ 𝓤. timeline.seat_head.clauses) (λ 𝓤. timeline.seat_head.spec)
  pub timeline·head_end : Once M timeline.head_end.ended (λ 𝓤. timeline.head_end.clauses) (λ 𝓤. timeline.head_end.spec)
  pub timeline·first : Once M timeline.first.ended (λ 𝓤. timeline.first.clauses) (λ 𝓤. timeline.first.spec)
  pub timeline·step : Once M timeline.step.ended (λ 𝓤. timeline.step.clauses) (λ 𝓤. timeline.step.spec)
  pub timeline·last : Once M timeline.last.ended (λ 𝓤. timeline.last.clauses) (λ 𝓤. timeline.last.spec)
  pub sight·Sight·look_at : Once M sight.Sight.look_at.ended (λ 𝓤. sight.Sight.look_at.clauses) (λ 𝓤. sight.Sight.look_at.spec)
  pub sight·named : Once M sight.named.ended (λ 𝓤. sight.named.clauses) (λ 𝓤. sight.named.spec)

-- ---- image: the whole bench as an image, with the buffer that is lent back

pub record ImageOnce (M : Type 1) : Type 2 where
  pub image·save : Once M image.save.ended (λ 𝓤. image.save.clauses) (λ 𝓤. image.save.spec)
  pub image·restore : Once M image.restore.ended (λ 𝓤. image.restore.clauses) (λ 𝓤. image.restore.spec)

-- ---- lesson: a text, with the buffer that is lent back

pub record LessonOnce (M : Type 1) : Type 2 where
  pub lesson·read : Once M lesson.read.ended (λ 𝓤. lesson.read.clauses) (λ 𝓤. lesson.read.spec)
  pub lesson·behind : Once M lesson.behind.ended (λ 𝓤. lesson.behind.clauses) (λ 𝓤. lesson.behind.spec)
  pub lesson·comment_at : Once M lesson.comment_at.ended (λ 𝓤. lesson.comment_at.clauses) (λ 𝓤. lesson.comment_at.spec)

-- ---- streams: the trials' draws and digest

pub record StreamsOnce (M : Type 1) : Type 2 where
  pub streams·Stream·start : Once M streams.Stream.start.ended (λ 𝓤. streams.Stream.start.clauses) (λ 𝓤. streams.Stream.start.spec)
  pub streams·advance : Once M streams.advance.ended (λ 𝓤. streams.advance.clauses) (λ 𝓤. streams.advance.spec)
  pub streams·pick : Once M streams.pick.ended (λ 𝓤. streams.pick.clauses) (λ 𝓤. streams.pick.spec)
  pub streams·add : Once M streams.add.ended (λ 𝓤. streams.add.clauses) (λ 𝓤. streams.add.spec)
  pub streams·outcome_mark : Once M streams.outcome_mark.ended (λ 𝓤. streams.outcome_mark.clauses) (λ 𝓤. streams.outcome_mark.spec)
  pub streams·place_mark : Once M streams.place_mark.ended (λ 𝓤. streams.place_mark.clauses) (λ 𝓤. streams.place_mark.spec)
  pub streams·letter_mark : Once M streams.letter_mark.ended (λ 𝓤. streams.letter_mark.clauses) (λ 𝓤. streams.letter_mark.spec)
  -- the trials' generator and its table have no such contract, and no `requires` either
  pub streams·script_rows : Free M streams.script_rows.ended (λ 𝓤. streams.script_rows.clauses) (λ 𝓤. streams.script_rows.spec)
  pub streams·Stream·next : Free M streams.Stream.next.ended (λ 𝓤. streams.Stream.next.clauses) (λ 𝓤. streams.Stream.next.spec)

-- ---- c_bench: what C does to a bench, by value

pub record CBenchOnce (M : Type 1) : Type 2 where
  pub c_bench·reset : Once M c_bench.reset.ended (λ 𝓤. c_bench.reset.clauses) (λ 𝓤. c_bench.reset.spec)
  pub c_bench·parts : Once M c_bench.parts.ended (λ 𝓤. c_bench.parts.clauses) (λ 𝓤. c_bench.parts.spec)
  pub c_bench·save : Once M c_bench.save.ended (λ 𝓤. c_bench.save.clauses) (λ 𝓤. c_bench.save.spec)
  pub c_bench·restore : Once M c_bench.restore.ended (λ 𝓤. c_bench.restore.clauses) (λ 𝓤. c_bench.restore.spec)
  pub c_bench·seat_outputs : Once M c_bench.seat_outputs.ended (λ 𝓤. c_bench.seat_outputs.clauses) (λ 𝓤. c_bench.seat_outputs.spec)

-- ---- embed: the C interface, with all that is lent back

pub record EmbedOnce (M : Type 1) : Type 2 where
  pub embed·hailstoat_version : Once M embed.hailstoat_version.ended (λ 𝓤. embed.hailstoat_version.clauses) (λ 𝓤. embed.hailstoat_version.spec)
  pub embed·hailstoat_size : Once M embed.hailstoat_size.ended (λ 𝓤. embed.hailstoat_size.clauses) (λ 𝓤. embed.hailstoat_size.spec)
  pub embed·hailstoat_divisor : Once M embed.hailstoat_divisor.ended (λ 𝓤. embed.hailstoat_divisor.clauses) (λ 𝓤. embed.hailstoat_divisor.spec)
  pub embed·hailstoat_power_up : Once M embed.hailstoat_power_up.ended (λ 𝓤. embed.hailstoat_power_up.clauses) (λ 𝓤. embed.hailstoat_power_up.spec)
  pub embed·hailstoat_event : Once M embed.hailstoat_event.ended (λ 𝓤. embed.hailstoat_event.clauses) (λ 𝓤. embed.hailstoat_event.spec)
  pub embed·hailstoat_place : Once M embed.hailstoat_place.ended (λ 𝓤. embed.hailstoat_place.clauses) (λ 𝓤. embed.hailstoat_place.spec)
  pub embed·hailstoat_output : Once M embed.hailstoat_output.ended (λ 𝓤. embed.hailstoat_output.clauses) (λ 𝓤. embed.hailstoat_output.spec)
  pub embed·hailstoat_modem_outputs : Once M embed.hailstoat_modem_outputs.ended (λ 𝓤. embed.hailstoat_modem_outputs.clauses) (λ 𝓤. embed.hailstoat_modem_outputs.spec)
  pub embed·hailstoat_tallies : Once M embed.hailstoat_tallies.ended (λ 𝓤. embed.hailstoat_tallies.clauses) (λ 𝓤. embed.hailstoat_tallies.spec)
  pub embed·hailstoat_read_setting : Once M embed.hailstoat_read_setting.ended (λ 𝓤. embed.hailstoat_read_setting.clauses) (λ 𝓤. embed.hailstoat_read_setting.spec)
  pub embed·hailstoat_write_setting : Once M embed.hailstoat_write_setting.ended (λ 𝓤. embed.hailstoat_write_setting.clauses) (λ 𝓤. embed.hailstoat_write_setting.spec)
  pub embed·hailstoat_save : Once M embed.hailstoat_save.ended (λ 𝓤. embed.hailstoat_save.clauses) (λ 𝓤. embed.hailstoat_save.spec)
  pub embed·hailstoat_restore : Once M embed.hailstoat_restore.ended (λ 𝓤. embed.hailstoat_restore.clauses) (λ 𝓤. embed.hailstoat_restore.spec)
