-- The three numbers of a version are read back from its one number, as C does before it compiles.
use Rattle.std.specs.Prelude.{ℕ, ◌/◌, ◌%◌, ◌<◌, ◌≡◌}
use Rattle.std.proofs.Common.{arith}
use Rattle.embed.specs.Version.{version_of}

pub major_back : (major minor patch : ℕ) → minor < 100 → patch < 100 → version_of major minor patch / 10000 ≡ major
major_back major minor patch two_digits two-more = omega (arith, two_digits, two-more)

pub minor_back : (major minor patch : ℕ) → minor < 100 → patch < 100 → version_of major minor patch / 100 % 100 ≡ minor
minor_back major minor patch two_digits two-more = omega (arith, two_digits, two-more)

pub patch_back : (major minor patch : ℕ) → patch < 100 → version_of major minor patch % 100 ≡ patch
patch_back major minor patch two_digits = omega (arith, two_digits)
