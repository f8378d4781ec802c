-- The version of the library as one number, which C can compare before it compiles.
use Rattle.std.specs.Prelude.{ℕ, ◌+◌, ◌*◌}

-- two digits each for minor and patch, and the rest for major
abbrev pub version_of : ℕ → ℕ → ℕ → ℕ
version_of major minor patch = major * 10000 + minor * 100 + patch

abbrev major : ℕ
major = 3

abbrev minor : ℕ
minor = 1

abbrev patch : ℕ
patch = 0

abbrev pub version : ℕ
version = version_of major minor patch
