-- A number that has a largest.
use Rattle.std.specs.Prelude.{ℕ, ltb}
use Rattle.base.specs.Pick.{pick}

-- a number, or the most that there is
unfoldable pub up_to : ℕ → ℕ → ℕ
up_to most n = pick (ltb most n) most n
