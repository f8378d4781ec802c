-- As many lines are in a set as its number has digits that are set.
use Rattle.std.proofs.Common.{ℕ, ◌+◌, ◌/◌, ◌^◌, ◌<◌, ◌≡◌, sym, ◌∙◌, ap, arith}
use lib.Count.{ones, ones_step}
use lib.Pow.{shr-shr}
use Rattle.base.specs.Bits.{bit, digit}
use Rattle.base.proofs.BitLaws.{digit_bit}
use Rattle.names.specs.Words.{lines_in}

up : (k n : ℕ) → ones (n / 2 ^ k) ≡ digit (bit k n) + ones (n / 2 ^ (k + 1))
up k n = ones_step (n / 2 ^ k) ∙ (ap (λ a. a + ones (n / 2 ^ k / 2)) (sym (digit_bit k n)) ∙ ap (λ b. digit (bit k n) + ones b) (shr-shr n k 1))

none_above : (n : ℕ) → n < 256 → ones (n / 2 ^ 8) ≡ 0
unfolding ones
none_above n small = let none : n / 256 ≡ 0 = omega arith in ap ones none

whole : (n : ℕ) → ones (n / 2 ^ 0) ≡ ones n
whole n = let one : n / 1 ≡ n = omega arith in ap ones one

pub set_size : (n : ℕ) → n < 256 → ones n ≡ lines_in n
unfolding lines_in
set_size n small = sym (whole n) ∙ rw (up 0 n, up 1 n, up 2 n, up 3 n, up 4 n, up 5 n, up 6 n, up 7 n, none_above n small) (omega arith)
