-- Closed instances of laws, each false under a slip of `must-fail`, which names it.
use Prim.Native.Nat.{ℕ}
use mathlib.Core.Bool.{true, false}
use mathlib.Core.Path.{◌≡◌, refl}
use lib.ListN.{replicate}
use Rattle.base.specs.Pick.{pick}
use Rattle.queue.specs.declared.Character.{Character}
use Rattle.queue.specs.declared.Queue.{Queue}
use Rattle.queue.specs.Queue.{room, entered, replaced, capacity, accepted, moved_down, taken, unmarked}
use Rattle.receiver.specs.declared.Receiver.{Receiver}
use Rattle.receiver.specs.Receiver.{quiet, none_queued, timeout_stands, received, got, lsr_seen, waited, after_mode_change}
use Rattle.receiver.specs.Waiting.{waits}

abbrev ch : ℕ → ℕ → Character
ch byte marks = record { «data» = byte; marks = marks }

-- two characters in FIFO mode
abbrev two : Receiver
two = received true (received true quiet (ch 0x41 0)) (ch 0x42 0)

-- "In 16450 mode marks are also added to kept marks."
both_marks_kept : (received false (received false quiet (ch 0x41 1)) (ch 0x42 2)).kept ≡ 3
unfolding pick room entered replaced capacity accepted received
both_marks_kept = refl

-- "A changed bit 0 empties both"
changed_mode_empties : none_queued (after_mode_change two) ≡ true
unfolding pick room entered capacity accepted none_queued received after_mode_change
changed_mode_empties = refl

-- "RBR read takes the oldest character and sets the time-out count to 0."
read_counts_from_0 : (got (waits true 3 two)).receiver.timeout ≡ 0
unfolding pick room entered capacity accepted moved_down taken none_queued timeout_stands received got waited waits
read_counts_from_0 = refl

-- "in FIFO mode with a character in the receive queue the time-out count rises": never in 16450 mode
no_count_in_16450_mode : (waited false (received false quiet (ch 0x41 0))).timeout ≡ 0
unfolding pick room entered capacity accepted none_queued timeout_stands received waited
no_count_in_16450_mode = refl

-- `times_out`: the fourth
fourth_times_out : timeout_stands (waits true 4 two) ≡ true
unfolding pick room entered capacity accepted none_queued received waited waits timeout_stands
fourth_times_out = refl

-- ticket 5, `arrival_leaves_four`
arrival_after_a_time_out : (received true (waits true 4 two) (ch 0x43 0)).timeout ≡ 4
unfolding pick room entered capacity accepted none_queued timeout_stands received waited waits
arrival_after_a_time_out = refl

-- ticket 5, `arrival_sets_back`
arrival_at_three : (received true (waits true 3 two) (ch 0x43 0)).timeout ≡ 0
unfolding pick room entered capacity accepted none_queued timeout_stands received waited waits
arrival_at_three = refl

-- a time-out over such a queue
abbrev late : Queue → Receiver
late q = record { queue = q; overrun = false; kept = 0; timeout = 4; last = 0 }

-- ticket 5, `lasting`: an arrival that finds all 16 places taken
lost_after_a_time_out : (received true (late (record { slots = replicate 16 (ch 0x41 0); count = 16 })) (ch 0x43 0)).timeout ≡ 4
unfolding pick room entered capacity accepted timeout_stands received
lost_after_a_time_out = refl

-- ticket 6, `read_as`: "in FIFO mode marks that an LSR read cleared stay cleared"
no_marks_after_an_lsr_read : (got (lsr_seen true (received true quiet (ch 0x41 1)))).figures.marks ≡ 0
unfolding pick room entered capacity accepted moved_down taken unmarked none_queued timeout_stands received lsr_seen got
no_marks_after_an_lsr_read = refl

-- ticket 6, `read_oldest`: "how many remain behind it"
one_behind_of_two : (got two).figures.behind ≡ 1
unfolding pick room entered capacity accepted moved_down taken none_queued timeout_stands received got
one_behind_of_two = refl
