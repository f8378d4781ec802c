-- Nothing that is told of a deed is cut.
use Rattle.std.specs.Prelude.{ℕ, ◌<◌, Bool}
use Rattle.controller.specs.declared.Controller.{Controller}
use Rattle.names.specs.Fits.{Fits}
use Rattle.deeds.specs.Done.{whole_done, cut_done}

-- "A piece has at most 68 characters, and none is cut": of bytes, as a record's are
pub record NoneCut : Type 0 where
  pub done : (seat number value : ℕ) → seat < 256 → number < 256 → value < 256 → (kind : ℕ) (divisor : Bool) (c : Controller) → kind < 256
      → Fits 52 (whole_done kind seat number value divisor c)
  pub cut : Fits 16 cut_done
