-- Closed instances of laws, each false under a slip of `must-fail`, which names it.
use Prim.Native.Nat.{ℕ}
use mathlib.Core.Bool.{true}
use mathlib.Core.Path.{◌≡◌, refl}
use Rattle.base.specs.Pick.{pick}
use Rattle.base.specs.Bits.{bit, digit, bits}
use Rattle.queue.specs.Queue.{room, entered, capacity, accepted, oldest, any_marked, marked}
use Rattle.registers.specs.declared.Settings.{Settings}
use Rattle.registers.specs.Words.{trigger}
use Rattle.registers.specs.Modem.{some_change}
use Rattle.receiver.specs.declared.Receiver.{Receiver}
use Rattle.receiver.specs.Receiver.{quiet, none_queued, received, shown_marks, some_marked, waited, data_stands, timeout_stands}
use Rattle.receiver.specs.Waiting.{waits}
use Rattle.transmitter.specs.Transmitter.{still, flag_set, none_waiting, all_sent}
use Rattle.status.specs.Status.{lsr_of, line_trouble, causes, first_cause, cause_of, line_of}

-- divisor 12, LCR 03, and these in IER, FCR and MCR
abbrev set : ℕ → ℕ → ℕ → Settings
set ier fcr mcr = record { ier = ier; fcr = fcr; lcr = 0x03; mcr = mcr; scratch = 0; dll = 12; dlm = 0 }

-- one character, and four character times since it arrived
abbrev late : Receiver
late = waits true 4 (received true quiet (record { «data» = 0x41; marks = 0 }))

-- "04 data" stands before "0C time-out count 4": here the trigger is 1. Of `cause_named`
trigger_goes_before_the_time_out : cause_of (set 0x01 0x01 0x00) late still 0 ≡ 0x04
unfolding cause_of causes first_cause lsr_of line_trouble some_change data_stands timeout_stands trigger pick bit digit bits
    none_queued shown_marks some_marked oldest any_marked marked none_waiting all_sent
    waits waited received accepted capacity room entered
trigger_goes_before_the_time_out = refl

-- "0C time-out count 4 (bit 0)": IER bit 0 alone enables it; here the trigger is 14. Of `cause_named`
time_out_is_enabled_by_bit_0 : cause_of (set 0x01 0xC1 0x00) late still 0 ≡ 0x0C
unfolding cause_of causes first_cause lsr_of line_trouble some_change data_stands timeout_stands trigger pick bit digit bits
    none_queued shown_marks some_marked oldest any_marked marked none_waiting all_sent
    waits waited received accepted capacity room entered
time_out_is_enabled_by_bit_0 = refl

-- "02 holding-empty flag (bit 1)": nothing was received, and CTS has changed, which comes behind it. Of `cause_named`
flag_is_named_by_02 : cause_of (set 0x0F 0x00 0x00) quiet (flag_set still) 1 ≡ 0x02
unfolding cause_of causes first_cause lsr_of line_trouble some_change data_stands timeout_stands trigger pick bit digit bits
    none_queued shown_marks some_marked oldest any_marked marked none_waiting all_sent
flag_is_named_by_02 = refl

-- "00 any of MSR 0-3 (bit 3)": CTS has changed, and nothing else stands. Of `cause_named`
change_is_named_by_00 : cause_of (set 0x0F 0x00 0x00) quiet still 1 ≡ 0x00
unfolding cause_of causes first_cause lsr_of line_trouble some_change data_stands timeout_stands trigger pick bit digit bits
    none_queued shown_marks some_marked oldest any_marked marked none_waiting all_sent
change_is_named_by_00 = refl

-- "The seat's line is high exactly if a cause is named and MCR bit 3 is set.": with no cause it is low. Of `line_high`
line_low_with_no_cause : digit (line_of (set 0x00 0x00 0x08) quiet still 0) ≡ 0
unfolding line_of cause_of causes first_cause lsr_of line_trouble some_change data_stands timeout_stands trigger pick bit digit bits
    none_queued shown_marks some_marked oldest any_marked marked none_waiting all_sent
line_low_with_no_cause = refl

-- and with a cause it is high, also where the code is 00. Of `line_high`
line_high_with_code_00 : digit (line_of (set 0x08 0x00 0x08) quiet still 1) ≡ 1
unfolding line_of cause_of causes first_cause lsr_of line_trouble some_change data_stands timeout_stands trigger pick bit digit bits
    none_queued shown_marks some_marked oldest any_marked marked none_waiting all_sent
line_high_with_code_00 = refl
