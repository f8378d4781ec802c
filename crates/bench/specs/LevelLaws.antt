-- The lines as a set: one seat anew moves one line.
use Rattle.std.specs.Prelude.{ℕ, zero, suc, ◌+◌, ◌*◌, ◌/◌, ◌%◌, ◌^◌, ◌<◌, min, max, Bool, true, false, List, [], ◌∷◌, map, ◌≡◌, refl, length, set}
use Rattle.std.proofs.Common.{ap, ap₂, sym, subst, ◌∙◌, le_of_suc-le-suc, not-suc-le-zero, arith}
use Rattle.std.proofs.Math.Nat.{pow-succ'}
use Rattle.std.specs.Int.Bits.{bit_or, bit_and, bit_xor, or_step, and_step, xor_step, or_zero_r, and_zero_r, xor_zero_r, differ}
use Rattle.base.specs.Pick.{pick}
use Rattle.base.specs.Bits.{digit, bits}
use Rattle.base.proofs.BitLaws.{digit_le}
use Rattle.seat.specs.declared.Seat.{Seat}
use Rattle.seat.specs.Seats.{line, reset}
use Rattle.seat.specs.ActLaws as one
use Rattle.rank.specs.Sets.{join, without, with_line}
use Rattle.rank.specs.Sets as sets
use Rattle.bench.specs.Seats.{lines}
use Rattle.bench.specs.FrameLaws.{mapped_length}

-- a number and its last bit
module _ (b : Bool) (m : ℕ) where
  half : (digit b + 2 * m) / 2 ≡ m
  half = omega (arith, digit_le b)

  odd : (digit b + 2 * m) % 2 ≡ digit b
  odd = omega (arith, digit_le b)

module _ (k : ℕ) where
  pow_half : 2 ^ suc k / 2 ≡ 2 ^ k
  pow_half = omega (arith, pow-succ' 2 k)

  pow_even : 2 ^ suc k % 2 ≡ 0
  pow_even = omega (arith, pow-succ' 2 k)

-- what is not in the other set, digit by digit
module _ (a w : ℕ) where
  and_half : bit_and a w / 2 ≡ bit_and (a / 2) (w / 2)
  and_half = omega (arith, and_step a w)

  and_odd : bit_and a w % 2 ≡ min (a % 2) (w % 2)
  and_odd = omega (arith, and_step a w)

  without_step : without a w ≡ without (a / 2) (w / 2) * 2 + differ (a % 2) (min (a % 2) (w % 2))
  without_step = xor_step a (bit_and a w) ∙ ap₂ (λ (x y : ℕ). bit_xor (a / 2) x * 2 + differ (a % 2) y) and_half and_odd

without_none : (a : ℕ) → without a 0 ≡ a
without_none a = ap (bit_xor a) (and_zero_r a) ∙ xor_zero_r a

-- the four sums of digits
or_one : (b : Bool) (m : ℕ) → m * 2 + max (digit b) 1 ≡ digit true + 2 * m
unfolding digit pick
or_one true m = omega arith
or_one false m = omega arith

or_none : (b : Bool) (m : ℕ) → m * 2 + max (digit b) 0 ≡ digit b + 2 * m
unfolding digit pick
or_none true m = omega arith
or_none false m = omega arith

less_one : (b : Bool) (m : ℕ) → m * 2 + differ (digit b) (min (digit b) 1) ≡ digit false + 2 * m
unfolding digit pick
less_one true m = omega arith
less_one false m = omega arith

less_none : (b : Bool) (m : ℕ) → m * 2 + differ (digit b) (min (digit b) 0) ≡ digit b + 2 * m
unfolding digit pick
less_none true m = omega arith
less_none false m = omega arith

-- a bit set, and a bit cleared, in the number that is made of them
set_bit : (l : List Bool) (n : ℕ) → n < length l → bits (set l n true) ≡ join (bits l) (2 ^ n)
unfolding bits
set_bit [] n h = absurd (not-suc-le-zero h)
set_bit (b ∷ l) zero h =
    sym (or_step (digit b + 2 * bits l) 1
    ∙ ap₂ (λ (m d : ℕ). bit_or m 0 * 2 + max d 1) (half b (bits l)) (odd b (bits l))
    ∙ ap (λ (m : ℕ). m * 2 + max (digit b) 1) (or_zero_r (bits l)) ∙ or_one b (bits l))
set_bit (b ∷ l) (suc n) h =
    sym (or_step (digit b + 2 * bits l) (2 ^ suc n)
    ∙ ap₂ (λ (m d : ℕ). bit_or m (2 ^ suc n / 2) * 2 + max d (2 ^ suc n % 2)) (half b (bits l)) (odd b (bits l))
    ∙ ap₂ (λ (w d : ℕ). bit_or (bits l) w * 2 + max (digit b) d) (pow_half n) (pow_even n)
    ∙ or_none b (join (bits l) (2 ^ n)) ∙ ap (λ (m : ℕ). digit b + 2 * m) (sym (set_bit l n (le_of_suc-le-suc h))))

clear_bit : (l : List Bool) (n : ℕ) → n < length l → bits (set l n false) ≡ without (bits l) (2 ^ n)
unfolding bits
clear_bit [] n h = absurd (not-suc-le-zero h)
clear_bit (b ∷ l) zero h =
    sym (without_step (digit b + 2 * bits l) 1
    ∙ ap₂ (λ (m d : ℕ). without m 0 * 2 + differ d (min d 1)) (half b (bits l)) (odd b (bits l))
    ∙ ap (λ (m : ℕ). m * 2 + differ (digit b) (min (digit b) 1)) (without_none (bits l)) ∙ less_one b (bits l))
clear_bit (b ∷ l) (suc n) h =
    sym (without_step (digit b + 2 * bits l) (2 ^ suc n)
    ∙ ap₂ (λ (m d : ℕ). without m (2 ^ suc n / 2) * 2 + differ d (min d (2 ^ suc n % 2))) (half b (bits l)) (odd b (bits l))
    ∙ ap₂ (λ (w d : ℕ). without (bits l) w * 2 + differ (digit b) (min (digit b) d)) (pow_half n) (pow_even n)
    ∙ less_none b (without (bits l) (2 ^ n)) ∙ ap (λ (m : ℕ). digit b + 2 * m) (sym (clear_bit l n (le_of_suc-le-suc h))))

mapped_set : {A B : Type 0} (f : A → B) (l : List A) (n : ℕ) (x : A) → map f (set l n x) ≡ set (map f l) n (f x)
mapped_set f [] n x = refl
mapped_set f (y ∷ l) zero x = refl
mapped_set f (y ∷ l) (suc n) x = ap (λ r. f y ∷ r) (mapped_set f l n x)

-- one bit anew
bit_anew : (l : List Bool) (n : ℕ) (b : Bool) → n < length l → bits (set l n b) ≡ pick b (join (bits l) (2 ^ n)) (without (bits l) (2 ^ n))
unfolding pick
bit_anew l n true h = set_bit l n h
bit_anew l n false h = clear_bit l n h

-- of any number of seats: one seat anew moves its own line, and no other, where its number is a line's
pub line_anew : (seats : List Seat) (n : ℕ) (s : Seat) → sets.line n ≡ n → n < length seats → lines (set seats n s) ≡ with_line (lines seats) n (line s)
unfolding lines with_line
line_anew seats n s own inside =
    ap bits (mapped_set line seats n s)
    ∙ bit_anew (map line seats) n (line s) (subst (λ (k : ℕ). n < k) (sym (mapped_length line seats)) inside)
    ∙ ap (λ (k : ℕ). pick (line s) (join (bits (map line seats)) (2 ^ k)) (without (bits (map line seats)) (2 ^ k))) (sym own)

-- after a master reset no line is high
pub reset_silent : (seats : List Seat) → lines (map reset seats) ≡ 0
unfolding lines bits digit pick
reset_silent [] = refl
reset_silent (s ∷ seats) = ap₂ (λ (b : Bool) (m : ℕ). digit b + 2 * m) (one.reset_silent s) (reset_silent seats)
