-- Closed instances of laws, each false under a slip of `must-fail`, which names it.
use mathlib.Core.Bool.{true, false}
use mathlib.Core.List.{[], ◌∷◌, map}
use mathlib.Core.Path.{◌≡◌, refl}
use Rattle.base.specs.Pick.{pick}
use Rattle.base.specs.Answers.{value_of}
use Rattle.queue.specs.Queue.{room, entered, capacity, accepted, moved_down, taken}
use Rattle.transmitter.specs.Transmitter.{still, none_waiting, flag_set_if, written, emptied, next, shifted}
use Rattle.transmitter.specs.Sending.{written_all, sending}

-- "Emptying a transmit queue that held something sets the holding-empty flag": this one held nothing
nothing_emptied_nothing_told : (emptied still).flag ≡ false
unfolding pick none_waiting flag_set_if emptied
nothing_emptied_nothing_told = refl

-- `power_up_tells_nothing`: nothing moves in
idle_time_tells_nothing : (shifted still).flag ≡ false
unfolding pick none_waiting flag_set_if next shifted
idle_time_tells_nothing = refl

-- "the oldest queued moves in, and if the queue is empty by that the holding-empty flag is set": here another waits
first_move_tells_nothing : (shifted (written_all true still (0x41 ∷ 0x42 ∷ []))).flag ≡ false
unfolding pick room entered capacity accepted moved_down taken none_waiting flag_set_if written written_all next shifted
first_move_tells_nothing = refl

-- `sends_in_order`: idle, the byte once, and idle again
byte_leaves_once : map value_of (sending 3 (written false still 0x41)) ≡ 0x100 ∷ 0x41 ∷ 0x100 ∷ []
unfolding pick value_of room entered capacity accepted moved_down taken none_waiting flag_set_if written next shifted sending
byte_leaves_once = refl
