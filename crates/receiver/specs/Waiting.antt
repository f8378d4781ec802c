-- Character times, one after another.
use Rattle.std.specs.Prelude.{ℕ, zero, suc, Bool}
use Rattle.receiver.specs.declared.Receiver.{Receiver}
use Rattle.receiver.specs.Receiver.{waited}

-- the receive side after so many character times
unfoldable pub waits : Bool → ℕ → Receiver → Receiver
waits fifo zero r = r
waits fifo (suc n) r = waited fifo (waits fifo n r)
