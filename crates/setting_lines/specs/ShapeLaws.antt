-- The 40 shapes and their LCR bytes: a test that is computed at each shape, and what it shows.
use Rattle.std.specs.Prelude.{ℕ, zero, suc, ◌+◌, ◌-◌, ◌/◌, ◌%◌, ◌<◌, Bool, true, false, not, ◌&&◌, ◌||◌, ◌≡◌, refl, T, ltb, length, get_or}
use mathlib.Core.List.{List, ◌++◌}
use Rattle.std.proofs.Math.Path.{ap}
use Rattle.std.proofs.Common.{subst, arith, ltb-true}
use Rattle.std.proofs.Math.Dec.{eqb, eqb→eq}
use Rattle.base.specs.Pick.{pick}
use Rattle.base.specs.PickLaws.{both_hold, not_both}
use Rattle.base.specs.Bits.{bit, digit}
use Rattle.base.specs.Every.{every}
use Rattle.base.specs.EveryLaws.{every_at, holds}
use Rattle.text.specs.Line.{numeral}
use Rattle.setting_lines.specs.Fields.{Parity, N, O, E, M, S, letter, Shape, Sized, stop_text, shape_text, lcr_of, rate_text, line_of}
use Rattle.setting_lines.specs.Guess.{letter_by, shape_by, line_by, good, behind_rate, code_by, bits_by, lcr_guess}

-- ---- a test at every shape

abbrev pub shape : Parity → Bool → ℕ → Shape
shape p longer more = record { parity = p; bits = 5 + more; longer = longer }

-- five to eight bits
abbrev four : Parity → Bool → (Shape → Bool) → Bool
four p longer test = every 4 (λ more. test (shape p longer more))

-- with either stop
abbrev eight : Parity → (Shape → Bool) → Bool
eight p test = four p false test && four p true test

abbrev pub forty : (Shape → Bool) → Bool
forty test = (eight N test && eight O test) && (eight E test && (eight M test && eight S test))

pub both : (a b : Bool) → T (a && b) → T a × T b
both true b h = (tt, h)
both false b h = absurd h

of_stop : (p : Parity) (longer : Bool) (test : Shape → Bool) → T (eight p test) → T (four p longer test)
of_stop p false test all = (both (four p false test) (four p true test) all).0
of_stop p true test all = (both (four p false test) (four p true test) all).1

module _ (test : Shape → Bool) (all : T (forty test)) where
  two : T (eight N test && eight O test) × T (eight E test && (eight M test && eight S test))
  two = both (eight N test && eight O test) (eight E test && (eight M test && eight S test)) all

  three : T (eight E test) × T (eight M test && eight S test)
  three = both (eight E test) (eight M test && eight S test) two.1

  of_parity : (p : Parity) → T (eight p test)
  of_parity N = (both (eight N test) (eight O test) two.0).0
  of_parity O = (both (eight N test) (eight O test) two.0).1
  of_parity E = three.0
  of_parity M = (both (eight M test) (eight S test) three.1).0
  of_parity S = (both (eight M test) (eight S test) three.1).1

pub at_shape : (test : Shape → Bool) → T (forty test) → (s : Shape) → Sized s → T (test s)
at_shape test all s sized =
    let same : 5 + (s.bits - 5) ≡ s.bits = omega (arith, sized.fewest) in
    subst (λ (bits : ℕ). T (test (record { parity = s.parity; bits = bits; longer = s.longer }))) same
    (every_at 4 (λ more. test (shape s.parity s.longer more)) (of_stop s.parity s.longer test (of_parity test all s.parity)) (s.bits - 5)
    (omega (arith, sized.fewest, sized.most)))

-- ---- what is computed

pub same_digit : (a b : Bool) → digit a ≡ digit b → a ≡ b
unfolding digit pick
same_digit true true e = refl
same_digit true false e = absurd (omega arith)
same_digit false true e = absurd (omega arith)
same_digit false false e = refl

module _ (s : Shape) (sized : Sized s) where
  letter_by_lem : letter_by (lcr_of s / 8 % 8) ≡ letter s.parity
  unfolding letter_by lcr_of digit pick
  letter_by_lem = eqb→eq _ _ (at_shape (λ s. eqb (letter_by (lcr_of s / 8 % 8)) (letter s.parity)) tt s sized)

  bits_by_lem : 5 + lcr_of s % 4 ≡ s.bits
  unfolding lcr_of digit pick
  bits_by_lem = eqb→eq _ _ (at_shape (λ s. eqb (5 + lcr_of s % 4) s.bits) tt s sized)

  longer_by : bit 2 (lcr_of s) ≡ s.longer
  unfolding lcr_of digit pick bit
  longer_by = same_digit _ _ (eqb→eq _ _ (at_shape (λ s. eqb (digit (bit 2 (lcr_of s))) (digit s.longer)) tt s sized))

  -- the LCR byte tells the text of its shape
  pub shape_by_lem : shape_by (lcr_of s) ≡ shape_text s
  unfolding shape_by shape_text
  shape_by_lem = rw (letter_by_lem, bits_by_lem, longer_by)

  pub line_by_lem : (rate : ℕ) → line_by rate (lcr_of s) ≡ line_of rate s
  unfolding line_by line_of
  line_by_lem rate = ap (λ (l : List ℕ). rate_text rate ++ l) shape_by_lem

  -- and is a good one
  pub lcr_good : good (lcr_of s) ≡ true
  unfolding good lcr_of digit pick
  lcr_good = holds _ (at_shape (λ s. good (lcr_of s)) tt s sized)

  -- only 1.5 ends in 5
  pub text_length : behind_rate (shape_text s) ≡ length (shape_text s)
  unfolding behind_rate shape_text stop_text pick
  text_length = eqb→eq _ _ (at_shape (λ s. eqb (behind_rate (shape_text s)) (length (shape_text s))) tt s sized)

  pub text_longer : (eqb (length (shape_text s)) 8 || eqb (get_or (shape_text s) 5 0) (numeral 2)) ≡ s.longer
  unfolding shape_text stop_text digit pick
  text_longer =
      same_digit _ _
      (eqb→eq _ _
      (at_shape (λ s. eqb (digit (eqb (length (shape_text s)) 8 || eqb (get_or (shape_text s) 5 0) (numeral 2))) (digit s.longer)) tt s sized))

  pub lcr_guess_lem : lcr_guess (letter s.parity) (numeral s.bits) s.longer ≡ lcr_of s
  unfolding lcr_guess lcr_of code_by bits_by digit pick
  lcr_guess_lem = eqb→eq _ _ (at_shape (λ s. eqb (lcr_guess (letter s.parity) (numeral s.bits) s.longer) (lcr_of s)) tt s sized)

-- ---- from a good byte to its shape

abbrev parity_for : ℕ → Parity
parity_for zero = N
parity_for (suc zero) = O
parity_for (suc (suc zero)) = N
parity_for (suc (suc (suc zero))) = E
parity_for (suc (suc (suc (suc zero)))) = N
parity_for (suc (suc (suc (suc (suc zero))))) = M
parity_for (suc (suc (suc (suc (suc (suc code)))))) = S

abbrev pub shape_for : ℕ → Shape
shape_for lcr = shape (parity_for (lcr / 8)) (bit 2 lcr) (lcr % 4)

pub shape_sized : (lcr : ℕ) → Sized (shape_for lcr)
shape_sized lcr = record { fewest = omega arith; most = omega arith }

implied : (a b : Bool) → a ≡ true → T (not a || b) → T b
implied true b sure h = h
implied false b sure h = absurd (not_both sure refl)

-- a good byte is that of its shape
pub lcr_again : (lcr : ℕ) → good lcr ≡ true → lcr ≡ lcr_of (shape_for lcr)
unfolding good lcr_of digit pick bit
lcr_again lcr sure =
    let small : lcr < 64 = ltb-true lcr 64 (both_hold (ltb lcr 64) _ sure).0 in
    eqb→eq _ _ (implied (good lcr) (eqb lcr (lcr_of (shape_for lcr))) sure (every_at 64 (λ n. not (good n) || eqb n (lcr_of (shape_for n))) tt lcr small))
