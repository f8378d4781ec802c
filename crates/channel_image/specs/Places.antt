-- Where the fields of a channel stand among its bytes. Each is a byte, but for the three of sixteen.
use Rattle.std.specs.Prelude.{ℕ, Bool, List, eqb, get_or}

-- the byte at a place
abbrev pub at : List ℕ → ℕ → ℕ
at l k = get_or l k 0

-- the yes-or-no at a place
abbrev pub yes_at : List ℕ → ℕ → Bool
yes_at l k = eqb (at l k) 1

-- ticket 2: "seat records of one fixed length": a channel's part of one
abbrev pub channel_length : ℕ
channel_length = 66

-- ---- the registers

abbrev pub ier_place : ℕ
ier_place = 0

abbrev pub fcr_place : ℕ
fcr_place = 1

abbrev pub lcr_place : ℕ
lcr_place = 2

abbrev pub mcr_place : ℕ
mcr_place = 3

-- MSR bits 0 to 3
abbrev pub changes_place : ℕ
changes_place = 4

abbrev pub scratch_place : ℕ
scratch_place = 5

-- the modem levels, as they were last given
abbrev pub levels_place : ℕ
levels_place = 6

abbrev pub dll_place : ℕ
dll_place = 7

abbrev pub dlm_place : ℕ
dlm_place = 8

-- ---- flags, marks and counts

-- the byte that was last read
abbrev pub last_place : ℕ
last_place = 9

abbrev pub overrun_place : ℕ
overrun_place = 10

-- the kept marks, which LSR shows in 16450 mode
abbrev pub kept_place : ℕ
kept_place = 11

-- the holding-empty flag
abbrev pub flag_place : ℕ
flag_place = 12

-- the time-out count
abbrev pub timeout_place : ℕ
timeout_place = 13

-- the shift register holds a character
abbrev pub busy_place : ℕ
busy_place = 14

-- that character
abbrev pub shift_place : ℕ
shift_place = 15

-- ---- the queues, the oldest first

-- the number of characters to send
abbrev pub waiting_place : ℕ
waiting_place = 16

-- sixteen bytes from here on: the characters to send
abbrev pub outgoing_place : ℕ
outgoing_place = 17

-- the number of characters received
abbrev pub received_place : ℕ
received_place = 33

-- sixteen bytes from here on: their data
abbrev pub arrived_place : ℕ
arrived_place = 34

-- sixteen bytes from here on: their marks
abbrev pub marks_place : ℕ
marks_place = 50
