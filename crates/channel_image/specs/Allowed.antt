-- What a channel's bytes may say: the conditions of refusal 15 that are a channel's own, each as a test of the bytes that holds where nothing is
-- refused.
use Rattle.std.specs.Prelude.{ℕ, ◌+◌, Bool, not, ◌&&◌, ◌||◌, List, eqb, leb, ltb}
use Rattle.base.specs.Bits.{bit}
use Rattle.base.specs.Every.{every}
use Rattle.queue.specs.Queue.{capacity}
use Rattle.registers.specs.Registers.{fcr_kept}
use Rattle.channel_image.specs.Places.{at, ier_place, fcr_place, mcr_place, changes_place, levels_place, overrun_place, kept_place, flag_place, timeout_place, busy_place, shift_place, waiting_place, outgoing_place, received_place, arrived_place, marks_place}

-- byte k from a place on is before the n-th, or at most this
abbrev pub small_from : List ℕ → ℕ → ℕ → ℕ → ℕ → Bool
small_from l place n most k = ltb k n || leb (at l (place + k)) most

-- of the sixteen bytes from a place on, each from the n-th on is at most this
unfoldable pub sixteen_small : List ℕ → ℕ → ℕ → ℕ → Bool
sixteen_small l place n most = every 16 (small_from l place n most)

-- the mode that the FCR among them says
abbrev pub fifo_at : List ℕ → Bool
fifo_at l = bit 0 (at l fcr_place)

-- ticket 2: "a field outside its range in document 01": of the registers. Ticket 7: "A saved MCR may now be up to 1F." The FCR holds what it keeps
-- of a byte, and nothing else
unfoldable pub registers_in_range : List ℕ → Bool
registers_in_range l =
    leb (at l ier_place) 0x0F && eqb (fcr_kept (at l fcr_place)) (at l fcr_place) && leb (at l mcr_place) 0x1F && leb (at l changes_place) 0x0F && leb (at l levels_place) 0x0F

-- of the flags, the kept marks and the time-out count
unfoldable pub flags_in_range : List ℕ → Bool
flags_in_range l = leb (at l overrun_place) 1 && leb (at l kept_place) 7 && leb (at l flag_place) 1 && leb (at l timeout_place) 4 && leb (at l busy_place) 1

-- and of the marks of received characters
unfoldable pub marks_in_range : List ℕ → Bool
marks_in_range l = sixteen_small l marks_place 0 7

-- ticket 2: "a queue beyond its capacity"
unfoldable pub queues_within : List ℕ → Bool
queues_within l = leb (at l waiting_place) (capacity (fifo_at l)) && leb (at l received_place) (capacity (fifo_at l))

-- ticket 2: "a time-out count above 0 in 16450 mode or with nothing queued"
unfoldable pub count_allowed : List ℕ → Bool
count_allowed l = eqb (at l timeout_place) 0 || (fifo_at l && not (eqb (at l received_place) 0))

-- ticket 2: "an unused byte not 0": the character of an empty shift register, and in the queues what stands from their numbers on
unfoldable pub unused_zero : List ℕ → Bool
unused_zero l =
    (eqb (at l busy_place) 1 || eqb (at l shift_place) 0)
    && sixteen_small l outgoing_place (at l waiting_place) 0
    && sixteen_small l arrived_place (at l received_place) 0
    && sixteen_small l marks_place (at l received_place) 0

-- all of them
unfoldable pub channel_good : List ℕ → Bool
channel_good l = registers_in_range l && flags_in_range l && marks_in_range l && queues_within l && count_allowed l && unused_zero l
