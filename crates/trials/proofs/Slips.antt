-- What the definitions compute where a wrong program computes something else.
use Rattle.std.specs.Prelude.{ℕ, ◌≡◌, refl}
use Rattle.trials.specs.Places.{last_place}

-- 255, and 255 records of 86 bytes before it
pub last_place_is_22185 : last_place ≡ 22185
last_place_is_22185 = refl
