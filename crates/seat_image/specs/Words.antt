-- A number of 32 bits as four bytes, the low byte first, and back.
use Rattle.std.specs.Prelude.{ℕ, ◌+◌, ◌*◌, ◌/◌, ◌%◌, List, [], ◌∷◌}
use Rattle.channel_image.specs.Places.{at}

-- ticket 8: "32-bit tallies". The last byte is not cut, so that every number comes back
unfoldable pub word_bytes : ℕ → List ℕ
word_bytes n = n % 256 ∷ n / 256 % 256 ∷ n / 65536 % 256 ∷ n / 16777216 ∷ []

-- the number from a place on
unfoldable pub word_at : List ℕ → ℕ → ℕ
word_at l place = at l place + 256 * at l (place + 1) + 65536 * at l (place + 2) + 16777216 * at l (place + 3)
