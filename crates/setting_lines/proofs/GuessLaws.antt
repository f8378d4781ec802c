-- The code's guess is right at the line of every setting, and is some setting everywhere else; so one line is that of one setting.
use Rattle.std.specs.Prelude.{ℕ, zero, suc, ◌+◌, ◌-◌, ◌*◌, ◌≤◌, ◌<◌, Bool, true, false, ◌&&◌, List, [], ◌∷◌, ◌≡◌, T, eqb, leb, ltb, get_or, take}
use Rattle.std.proofs.Common.{inl, inr, ⊎_elim, ap, sym, ◌∙◌}
use Rattle.std.proofs.Math.Path.{refl, ap₂}
use native.Mathlib.Omega.{arith}
use Rattle.std.proofs.Math.ListN.{length, length-append}
use Rattle.std.proofs.Math.Seq.{take_at, get_or-append-add}
use borrow.Author.Tests.{ne_eqb, eqb-true, eqb-false, le-ltb, lt-leb, ltb-false}
use Rattle.base.specs.Pick.{pick}
use Rattle.base.specs.PickLaws.{pick_false, pick_either, pick_cases, either_way}
use Rattle.base.specs.Bits.{digit}
use Rattle.base.specs.Every.{every}
use Rattle.base.specs.EveryLaws.{every_at, holds}
use Rattle.text.specs.Quoted.{quoted}
use Rattle.text.specs.Line.{numeral, decimal}
use Rattle.text.proofs.FormLaws.{denoted, Digits, decimal_denotes, decimal_digits}
use Rattle.setting_lines.specs.Fields.{point, letter, Shape, Sized, Rated, rate_text, shape_text, lcr_of, line_of}
use Rattle.setting_lines.specs.Guess.{behind_rate, good, halved, code_by, bits_by, lcr_guess, rate_guess, some_guess, guess_at, guessed}
use Rattle.setting_lines.proofs.RateLaws.{text_half, text_whole, text_short}
use Rattle.setting_lines.specs.ShapeLaws.{both, text_length, text_longer, lcr_guess_lem}
use Rattle.setting_lines.specs.declared.guesses.Guess.{Guess}

-- ---- the rate

digit_at : (l : List ℕ) (k : ℕ) → Digits l → k < length l → 48 ≤ get_or l k 0
digit_at [] k all inside = absurd (omega arith)
digit_at (d ∷ l) zero (low, high, all) inside = low
digit_at (d ∷ l) (suc k) (low, high, all) inside = digit_at l k all (omega arith)

-- digits alone have no point
not_halved : (l : List ℕ) → Digits l → halved l ≡ false
unfolding halved
not_halved l all =
    ⊎_elim
    (λ (long : eqb (length l) 5 ≡ true).
    let five : length l ≡ 5 = eqb-true _ _ long in
    let high : 48 ≤ get_or l 3 0 = digit_at l 3 all (omega arith) in
    rw (long, ne_eqb (get_or l 3 0) point (λ e. omega arith)))
    (λ (other : eqb (length l) 5 ≡ false). rw other)
    (either_way (eqb (length l) 5))

rate_half : rate_guess (quoted "134.5") ≡ 1345
unfolding rate_guess halved pick
rate_half = refl

rate_whole : (n : ℕ) → 1 ≤ n → n ≤ 99999 → rate_guess (decimal n) ≡ 10 * n
unfolding rate_guess
rate_whole n some few =
    rw (not_halved (decimal n) (decimal_digits n), pick_false, decimal_denotes n, le-ltb 99999 n few, pick_false)
    (pick_false _ _ _ (ne_eqb n 0 (λ e. omega arith)))

pub rate_right : (rate : ℕ) → Rated rate → rate_guess (rate_text rate) ≡ rate
rate_right rate (inl half) = rw (text_half rate half) (rate_half ∙ sym half)
rate_right rate (inr (n, some, few, is)) = rw (text_whole rate n is) (rate_whole n some few ∙ sym is)

pub guess_rated : (front : List ℕ) → Rated (rate_guess front)
unfolding rate_guess
guess_rated front =
    pick_either Rated (halved front) _ _ (inl refl)
    (pick_cases Rated (ltb 99999 (denoted 0 front)) _ _ (λ large. one)
    (λ few.
    pick_cases Rated (eqb (denoted 0 front) 0) _ _ (λ none. one)
    (λ some. inr (denoted 0 front, above (denoted 0 front) (eqb-false _ _ some), ltb-false _ _ few, refl))))
  where
    one : Rated 10
    one = inr (1, omega arith, omega arith, refl)

    above : (n : ℕ) → (n ≡ 0 → ⊥) → 1 ≤ n
    above zero some = absurd (some refl)
    above (suc n) some = omega arith

-- ---- the LCR byte

-- a parity's code, with any number of bits and either stop, makes a good byte
abbrev fine : ℕ → Bool
fine code = every 4 (λ bits. good (bits + 4 * digit false + 8 * code) && good (bits + 4 * digit true + 8 * code))

fine_code : (c : ℕ) → T (fine (code_by c))
unfolding code_by good digit pick
fine_code c =
    pick_either (λ (k : ℕ). T (fine k)) (eqb c 79) _ _ tt
    (pick_either (λ (k : ℕ). T (fine k)) (eqb c 69) _ _ tt
    (pick_either (λ (k : ℕ). T (fine k)) (eqb c 77) _ _ tt
    (pick_either (λ (k : ℕ). T (fine k)) (eqb c 83) _ _ tt tt)))

of_fine : (code bits : ℕ) (longer : Bool) → bits < 4 → T (fine code) → T (good (bits + 4 * digit longer + 8 * code))
of_fine code bits longer few all =
    let two = both (good (bits + 4 * digit false + 8 * code)) (good (bits + 4 * digit true + 8 * code))
    (every_at 4 (λ bits. good (bits + 4 * digit false + 8 * code) && good (bits + 4 * digit true + 8 * code)) all bits few) in
    of_stop longer two.0 two.1
  where
    of_stop : (longer : Bool) → T (good (bits + 4 * digit false + 8 * code)) → T (good (bits + 4 * digit true + 8 * code))
        → T (good (bits + 4 * digit longer + 8 * code))
    of_stop false short long = short
    of_stop true short long = long

guess_good : (parity bits : ℕ) (longer : Bool) → good (lcr_guess parity bits longer) ≡ true
unfolding lcr_guess bits_by
guess_good parity bits longer = holds _ (of_fine (code_by parity) (bits_by bits) longer (omega arith) (fine_code parity))

-- ---- the whole guess

-- it is a setting's, whatever the line is
pub record Possible (g : Guess) : Type 0 where
  pub rated : Rated g.rate
  pub good_lcr : good g.lcr ≡ true

some : Possible some_guess
unfolding good
some = record { rated = inr (1, omega arith, omega arith, refl); good_lcr = refl }

pub guess_possible : (line : List ℕ) → Possible (guessed line)
unfolding guessed guess_at
guess_possible line =
    pick_either Possible (leb (length line) (behind_rate line)) _ _ some
    (pick_either Possible (ltb 5 (length line - behind_rate line)) _ _ some (record { rated = guess_rated _; good_lcr = guess_good _ _ _ }))

module _ (rate : ℕ) (s : Shape) (rated : Rated rate) (sized : Sized s) where
  some_shape : 5 ≤ length (shape_text s)
  unfolding shape_text
  some_shape = omega arith

  line_length : length (line_of rate s) ≡ length (rate_text rate) + length (shape_text s)
  unfolding line_of
  line_length = length-append (rate_text rate) (shape_text s)

  -- what stands behind the rate
  behind_at : (k : ℕ) → get_or (line_of rate s) (length (rate_text rate) + k) 0 ≡ get_or (shape_text s) k 0
  unfolding line_of
  behind_at k = get_or-append-add (rate_text rate) (shape_text s) k 0

  behind : behind_rate (line_of rate s) ≡ length (shape_text s)
  unfolding behind_rate
  behind =
      let last : length (line_of rate s) - 1 ≡ length (rate_text rate) + (length (shape_text s) - 1) = omega (arith, line_length, some_shape) in
      rw (last, behind_at (length (shape_text s) - 1)) (text_length s sized)

  front : take (length (rate_text rate)) (line_of rate s) ≡ rate_text rate
  unfolding line_of
  front = take_at (rate_text rate) (shape_text s) (length (rate_text rate)) refl

  letter_at : get_or (shape_text s) 1 0 ≡ letter s.parity
  unfolding shape_text
  letter_at = refl

  bits_at : get_or (shape_text s) 3 0 ≡ numeral s.bits
  unfolding shape_text
  bits_at = refl

  at_right : guess_at (line_of rate s) (length (rate_text rate)) (length (shape_text s)) ≡ record { rate = rate; lcr = lcr_of s }
  unfolding guess_at
  at_right =
      ap₂ (λ (r l : ℕ). record { rate = r; lcr = l }) (ap rate_guess front ∙ rate_right rate rated)
      (rw (behind_at 1, behind_at 3, behind_at 5, letter_at, bits_at, text_longer s sized) (lcr_guess_lem s sized))

  -- the guess at the line of a setting is that setting
  pub guess_right : guessed (line_of rate s) ≡ record { rate = rate; lcr = lcr_of s }
  unfolding guessed
  guess_right =
      let short = text_short rate rated in
      let front : length (line_of rate s) - length (shape_text s) ≡ length (rate_text rate) = omega (arith, line_length) in
      rw (behind, lt-leb (length (line_of rate s)) (length (shape_text s)) (omega (arith, line_length)), pick_false, front, le-ltb 5 (length (rate_text rate)) short.1, pick_false)
      at_right
