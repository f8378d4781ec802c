-- What stays is not told.
use Rattle.std.specs.Prelude.{ℕ, ◌≡◌}
use Rattle.page.specs.Pages.{joined_all}
use Rattle.page.specs.declared.Page.{Page}
use Rattle.channel.specs.declared.Channel.{Channel}
use Rattle.controller.specs.declared.Controller.{Controller}
use Rattle.moves.specs.Moved.{seat_moved, controller_moved}

-- "each only where it has changed by the record": of a seat and a controller that stay nothing is told
pub record StaysUntold : Type 0 where
  pub seat : (p : Page) (c : Channel) (kind n : ℕ) → joined_all p (seat_moved c c kind n) ≡ p
  pub controller : (p : Page) (k : Controller) → joined_all p (controller_moved k k) ≡ p
