-- What is right where an edit of must-fail/ goes wrong: closed runs of a few events, each false under the edit that names it.
use Prim.Native.Nat.{ℕ}
use mathlib.Core.List.{List, [], ◌∷◌}
use mathlib.Core.Path.{◌≡◌, refl}
use Rattle.base.specs.Pick.{pick}
use Rattle.base.specs.Bits.{bit, digit, bits}
use Rattle.base.specs.Answers.{value_of}
use Rattle.base.specs.Refusals.{first_of, refusal_by}
use Rattle.queue.specs.Queue.{room, entered, replaced, capacity, accepted, moved_down, taken, oldest, unmarked, any_marked, marked}
use Rattle.receiver.specs.Receiver.{none_queued, received, got, shown_marks, some_marked, lsr_seen, cleared, after_mode_change, data_stands, timeout_stands, waited}
use Rattle.transmitter.specs.Transmitter.{none_waiting, all_sent, flag_set_if, written, next, shifted, emptied, enabled}
use Rattle.registers.specs.Words.{trigger, cut}
use Rattle.registers.specs.Registers.{plain_register, register_at, fcr_kept}
use Rattle.registers.specs.Modem.{msr_of, changes_after, some_change}
use Rattle.registers.specs.Loopback.{inputs_of}
use Rattle.channel.specs.declared.Channel.{Channel}
use Rattle.registers.specs.declared.SeatEvent.{SeatEvent}
use Rattle.registers.specs.declared.SeatEvent.TheVariants.{Read, Write, Arrival, Time}
use Rattle.channel.specs.Parts.{power_up, with_settings}
use Rattle.status.specs.Status.{lsr_of, line_trouble, causes, first_cause, cause_of, iir_of}
use Rattle.channel.specs.Status.{lsr, msr, cause, iir}
use Rattle.channel.specs.Effects.{iir_read, lsr_read, answer_at, after_read, ier_written, mode_changed, fcr_receiver, fcr_transmitter, fcr_written, noticed, mcr_written, after_write, receives, heard_outside, after_arrival, after_levels, heard_back, after_time, time_answer}
use Rattle.registers.specs.Refusals.{grounds, refusal}
use Rattle.channel.specs.Steps.{effect, stepped}

-- what a channel answers to these events, in order; the line names all that such a run computes with, under the edits too
unfoldable told : Channel → List SeatEvent → List ℕ
unfolding stepped effect value_of register_at plain_register pick bit digit bits
    refusal grounds refusal_by first_of
    answer_at after_read iir_read lsr_read lsr_seen got taken moved_down unmarked
    iir iir_of cause cause_of causes first_cause line_trouble some_change data_stands timeout_stands trigger
    lsr lsr_of msr msr_of none_queued shown_marks some_marked oldest any_marked marked none_waiting all_sent
    after_write ier_written enabled flag_set_if fcr_written fcr_kept fcr_receiver fcr_transmitter mode_changed cleared after_mode_change emptied
    after_arrival heard_outside receives received written accepted capacity room entered replaced
    mcr_written after_levels noticed inputs_of changes_after
    after_time heard_back shifted next waited time_answer cut
told c [] = []
told c (e ∷ es) = value_of (stepped c e).answer ∷ told (stepped c e).channel es

-- power-up with divisor 12, LCR 03, and these in IER and FCR
abbrev set : ℕ → ℕ → Channel
set ier fcr = with_settings power_up (record { ier = ier; fcr = fcr; lcr = 0x03; mcr = 0; scratch = 0; dll = 12; dlm = 0 })

-- "IER write that turns bit 1 from 0 to 1": one that finds it set leaves the flag. Of `ier_sent_lem`
flag_only_at_the_rise : told (set 0x02 0x00) (Write 1 0x02 ∷ Read 2 ∷ []) ≡ 0x00 ∷ 0x01 ∷ []
unfolding told
flag_only_at_the_rise = refl

-- "A read that named 02 clears that flag.": one that named 04 leaves it. Of `iir_clears`
flag_outlives_04 : told (set 0x01 0x00) (Write 1 0x03 ∷ Arrival 0 0x41 ∷ Read 2 ∷ Read 0 ∷ Read 2 ∷ []) ≡ 0x00 ∷ 0x00 ∷ 0x04 ∷ 0x41 ∷ 0x02 ∷ []
unfolding told
flag_outlives_04 = refl

-- "A changed bit 0 empties both and clears kept marks.": LSR bits 5 and 6 are set again. Of `fcr_sent_lem`
mode_change_empties_the_transmit_queue : told power_up (Write 0 0x41 ∷ Write 2 0x01 ∷ Read 5 ∷ []) ≡ 0x00 ∷ 0x00 ∷ 0x60 ∷ []
unfolding told
mode_change_empties_the_transmit_queue = refl

-- power-up with divisor 12, words of five bits, FIFO mode, and loopback
abbrev looping : Channel
looping = with_settings power_up (record { ier = 0; fcr = 0x01; lcr = 0x00; mcr = 0x10; scratch = 0; dll = 12; dlm = 0 })

-- ticket 7: "the character that leaves is received": of an empty shift register none leaves, and LSR is 60. Of `none_received`
idle_time_receives_nothing : told looping (Time ∷ Read 5 ∷ []) ≡ 0x100 ∷ 0x60 ∷ []
unfolding told
idle_time_receives_nothing = refl

-- ticket 7: "cut to the word length". Of `leaver_received`
received_by_five_bits : told looping (Write 0 0x41 ∷ Time ∷ Time ∷ Read 0 ∷ []) ≡ 0x00 ∷ 0x100 ∷ 0x100 ∷ 0x01 ∷ []
unfolding told
received_by_five_bits = refl

-- ticket 7: "also where a write of MCR enters or leaves": RTS feeds CTS, which has changed. Of `mcr_noticed`
entering_is_noticed : told power_up (Write 4 0x12 ∷ Read 6 ∷ []) ≡ 0x00 ∷ 0x11 ∷ []
unfolding told
entering_is_noticed = refl
