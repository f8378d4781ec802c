-- Nothing that is told of what moved is cut.
use Rattle.std.specs.Prelude.{ℕ, ◌≤◌, ◌<◌, ◌≡◌, length}
use Rattle.names.specs.Fits.{AllFit}
use Rattle.channel.specs.declared.Channel.{Channel}
use Rattle.controller.specs.declared.Controller.{Controller}
use Rattle.moves.specs.Moved.{seat_moved, controller_moved}

-- "A piece has at most 68 characters, and none is cut": of queues whose counts are bytes; and there are not more pieces than these
pub record NoneCut : Type 0 where
  pub seat : (c c' : Channel) (kind n : ℕ) → c'.receiver.queue.count < 256 → c'.transmitter.queue.count < 256 → AllFit 68 (seat_moved c c' kind n)
  pub controller : (k k' : Controller) → AllFit 68 (controller_moved k k')
  pub few : (c c' : Channel) (kind n : ℕ) (k k' : Controller) → (length (seat_moved c c' kind n) ≤ 14) × (length (controller_moved k k') ≡ 19)
