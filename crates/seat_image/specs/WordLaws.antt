-- A number and its four bytes, and the five numbers of a record.
use Rattle.std.specs.Prelude.{ℕ, ◌+◌, ◌*◌, ◌/◌, ◌%◌, ◌^◌, ◌<◌, List, [], ◌∷◌, ◌++◌, ◌≡◌, refl, length}
use Rattle.std.specs.Int.{w32, to_le_bytes, from_le_bytes}
use Rattle.std.proofs.Math.Path.{ap}
use Rattle.std.proofs.Common.{sym, ◌∙◌, arith}
use Rattle.base.specs.ListLaws.{written_out}
use Rattle.channel_image.specs.Places.{at}
use Rattle.seat.specs.declared.Tallies.{Tallies}
use Rattle.seat_image.specs.Words.{word_bytes, word_at}
use Rattle.seat_image.specs.Written.{tally_bytes}
use Rattle.seat_image.specs.Read.{tallies_from}

-- every number comes back
word_back : (n : ℕ) → n % 256 + 256 * (n / 256 % 256) + 65536 * (n / 65536 % 256) + 16777216 * (n / 16777216) ≡ n
word_back n = omega arith

-- and so do four bytes
word_written_lem : (a b c d : ℕ) → a < 256 → b < 256 → c < 256 → word_bytes (a + 256 * b + 65536 * c + 16777216 * d) ≡ a ∷ b ∷ c ∷ d ∷ []
unfolding word_bytes
word_written_lem a b c d la lb lc =
    let n = a + 256 * b + 65536 * c + 16777216 * d in
    let q1 : n / 256 ≡ b + 256 * c + 65536 * d = omega arith in
    let q2 : n / 65536 ≡ c + 256 * d = omega arith in
    let e0 : n % 256 ≡ a = omega arith in
    let e1 : n / 256 % 256 ≡ b = rw q1 (omega arith) in
    let e2 : n / 65536 % 256 ≡ c = rw q2 (omega arith) in
    let e3 : n / 16777216 ≡ d = omega arith in
    λ i. e0 i ∷ e1 i ∷ e2 i ∷ e3 i ∷ []

-- as the library writes a number below 2 ^ 32, and reads one
pub le_word : (n : ℕ) → n < 2 ^ 32 → to_le_bytes w32 n ≡ word_bytes n
unfolding word_bytes
le_word n small = let last : n / 16777216 % 256 ≡ n / 16777216 = omega (arith, small) in λ i. n % 256 ∷ n / 256 % 256 ∷ n / 65536 % 256 ∷ last i ∷ []

pub word_le : (a b c d : ℕ) → from_le_bytes w32 (a ∷ b ∷ c ∷ d ∷ []) ≡ a + 256 * b + 65536 * c + 16777216 * d
word_le a b c d = omega arith

pub tally_length : (t : Tallies) (still : ℕ) → length (tally_bytes t still) ≡ 20
unfolding tally_bytes word_bytes
tally_length t still = refl

pub tallies_back : (t : Tallies) (still : ℕ) → tallies_from (tally_bytes t still) ≡ t
unfolding tallies_from tally_bytes word_at word_bytes
tallies_back t still =
    λ i. record {
      arrived = word_back t.arrived i;
      read = word_back t.read i;
      lost = word_back t.lost i;
      dropped = word_back t.dropped i;
    }

pub still_back : (t : Tallies) (still : ℕ) → word_at (tally_bytes t still) 16 ≡ still
unfolding tally_bytes word_at word_bytes
still_back t still = word_back still

-- twenty bytes are written back as they were read
module _ (b : List ℕ) (long : length b ≡ 20) (small : (k : ℕ) → at b k < 256) where
  four : (k : ℕ) → word_bytes (word_at b k) ≡ at b k ∷ at b (k + 1) ∷ at b (k + 2) ∷ at b (k + 3) ∷ []
  unfolding word_at
  four k = word_written_lem (at b k) (at b (k + 1)) (at b (k + 2)) (at b (k + 3)) (small k) (small (k + 1)) (small (k + 2))

  pub tallies_written : (still : ℕ) → word_at b 16 ≡ still → tally_bytes (tallies_from b) still ≡ b
  unfolding tally_bytes tallies_from
  tallies_written still counted =
      ap (λ (n : ℕ). tally_bytes (tallies_from b) n) (sym counted)
      ∙ (λ i. four 0 i ++ four 4 i ++ four 8 i ++ four 12 i ++ four 16 i)
      ∙ written_out 20 b 0 long
