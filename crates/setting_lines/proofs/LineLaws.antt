-- One line is that of one setting, it is short, and it has no other characters than its fields give it.
use Rattle.std.specs.Prelude.{ℕ, ◌≤◌, ◌<◌, true, false, ◌&&◌, List, [], ◌∷◌, ◌++◌, ◌≡◌, refl, leb, length, get_or, Result, Ok, Err}
use Rattle.std.proofs.Common.{inl, inr, ap, ap₂, sym, ◌∙◌, arith, length-append, leb-true, le-leb}
use Rattle.std.proofs.Math.ListN.{get_or-append}
use Rattle.base.specs.Pick.{pick}
use Rattle.base.specs.PickLaws.{both_hold, not_both}
use Rattle.base.specs.EveryLaws.{holds}
use Rattle.text.specs.Line.{numeral, decimal}
use Rattle.text.proofs.FormLaws.{Digits, decimal_digits, decimal_leads}
use Rattle.base.specs.declared.Refusal.{Refusal}
use Rattle.rates.specs.Rates.{divisor_of, rate_of}
use Rattle.setting_lines.specs.Fields.{Shape, Sized, Rated, rate_text, stop_text, shape_text, line_of, lcr_of}
use Rattle.setting_lines.specs.Reading.{setting_by, NoLine, Reads}
use Rattle.setting_lines.specs.Writing.{left, put_into, written_by, Writes}
use Rattle.setting_lines.specs.NoLines.{of_line, all_of_line}
use Rattle.setting_lines.specs.Guess.{guessed, line_by}
use Rattle.setting_lines.proofs.RateLaws.{text_half, text_whole, text_short}
use Rattle.setting_lines.specs.ShapeLaws.{at_shape, line_by_lem}
use Rattle.setting_lines.proofs.GuessLaws.{guess_right}
use Rattle.setting_lines.specs.declared.Setting.{Setting}
use Rattle.setting_lines.specs.declared.guesses.Guess.{Guess}

-- ---- one setting

module _ (rate other : ℕ) (s t : Shape) (rated : Rated rate) (sized : Sized s) (rated' : Rated other) (sized' : Sized t)
    (same : line_of rate s ≡ line_of other t) where
  one_guess : ◌≡◌ {A = Guess} (record { rate = rate; lcr = lcr_of s }) (record { rate = other; lcr = lcr_of t })
  one_guess = sym (guess_right rate s rated sized) ∙ ap guessed same ∙ guess_right other t rated' sized'

  pub one_rate : rate ≡ other
  one_rate = ap (λ (g : Guess). g.rate) one_guess

  pub one_lcr : lcr_of s ≡ lcr_of t
  one_lcr = ap (λ (g : Guess). g.lcr) one_guess

-- so a line is read in one way
pub read_one : (line : List ℕ) (clock : ℕ) (r q : Result Setting Refusal) → Reads line clock r → Reads line clock q → r ≡ q
read_one line clock r q (inl a) (inl b) =
    let same = sym a.is ∙ b.is in
    a.told
    ∙ ap (λ (n : ℕ). setting_by (divisor_of n clock) (lcr_of a.shape))
    (one_rate a.rate b.rate a.shape b.shape a.rated a.sized b.rated b.sized same)
    ∙ ap (setting_by (divisor_of b.rate clock))
    (one_lcr a.rate b.rate a.shape b.shape a.rated a.sized b.rated b.sized same)
    ∙ sym b.told
read_one line clock r q (inl a) (inr b) = absurd (b.other a.rate a.shape a.rated a.sized a.is)
read_one line clock r q (inr a) (inl b) = absurd (a.other b.rate b.shape b.rated b.sized b.is)
read_one line clock r q (inr a) (inr b) = a.told ∙ sym b.told

-- and a divisor and a byte are written in one way
pub write_one : (clock divisor lcr : ℕ) (d d' d'' : List ℕ) (r q : Result ℕ Refusal) → Writes clock divisor lcr d d' r → Writes clock divisor lcr d d'' q
    → left r d' ≡ left q d''
write_one clock divisor lcr d d' d'' r q (inl a) (inl b) =
    a.told ∙ same_line (rate_of divisor clock) ∙ sym b.told
  where
    same : (rate : ℕ) → line_of rate a.shape ≡ line_of rate b.shape
    same rate = sym (line_by_lem a.shape a.sized rate) ∙ ap (line_by rate) (sym a.is ∙ b.is) ∙ line_by_lem b.shape b.sized rate

    same_line : (f : Result ℕ Refusal) → written_by f (λ rate. line_of rate a.shape) d ≡ written_by f (λ rate. line_of rate b.shape) d
    same_line (Ok rate) = ap (put_into d) (same rate)
    same_line (Err r) = refl
write_one clock divisor lcr d d' d'' r q (inl a) (inr b) = absurd (b.other a.shape a.sized a.is)
write_one clock divisor lcr d d' d'' r q (inr a) (inl b) = absurd (a.other b.shape b.sized b.is)
write_one clock divisor lcr d d' d'' r q (inr a) (inr b) = a.told ∙ sym b.told

-- ---- a short line

shape_short : (s : Shape) → Sized s → leb (length (shape_text s)) 8 ≡ true
unfolding shape_text stop_text pick
shape_short s sized = holds _ (at_shape (λ s. leb (length (shape_text s)) 8) tt s sized)

pub line_short : (rate : ℕ) (s : Shape) → Rated rate → Sized s → length (line_of rate s) ≤ 13
unfolding line_of
line_short rate s rated sized =
    let behind : length (shape_text s) ≤ 8 = leb-true _ _ (shape_short s sized) in
    omega (arith, length-append (rate_text rate) (shape_text s), (text_short rate rated).1)

-- ---- its characters

all_append : (l m : List ℕ) → all_of_line l ≡ true → all_of_line m ≡ true → all_of_line (l ++ m) ≡ true
all_append [] m first second = second
all_append (c ∷ l) m first second =
    let two = both_hold (of_line c) (all_of_line l) first in
    ap₂ ◌&&◌ two.0 (all_append l m two.1 second)

all_digits : (l : List ℕ) → Digits l → all_of_line l ≡ true
all_digits [] all = refl
all_digits (d ∷ l) (low, high, all) = rw (le-leb 48 d low, le-leb d 57 high) (all_digits l all)

rate_characters : (rate : ℕ) → Rated rate → all_of_line (rate_text rate) ≡ true
rate_characters rate (inl half) = rw (text_half rate half)
rate_characters rate (inr (n, some, few, is)) = rw (text_whole rate n is) (all_digits (decimal n) (decimal_digits n))

pub line_characters : (rate : ℕ) (s : Shape) → Rated rate → Sized s → all_of_line (line_of rate s) ≡ true
unfolding line_of shape_text stop_text pick
line_characters rate s rated sized =
    all_append (rate_text rate) (shape_text s) (rate_characters rate rated) (holds _ (at_shape (λ s. all_of_line (shape_text s)) tt s sized))

-- a line with a blank, a line end, a small letter or any other character is none of a setting
pub no_other_character : (line : List ℕ) → all_of_line line ≡ false → NoLine line
no_other_character line other rate s rated sized is = not_both (ap all_of_line is ∙ line_characters rate s rated sized) other

-- the first is a digit from 1 to 9
starts : (l m : List ℕ) → 1 ≤ length l → get_or (l ++ m) 0 0 ≡ get_or l 0 0
starts l m some = get_or-append l m 0 0 some

first_high : (l : List ℕ) → Digits l → get_or l 0 0 ≤ 57
first_high [] all = omega arith
first_high (d ∷ l) (low, high, all) = high

rate_first : (rate : ℕ) → Rated rate → (49 ≤ get_or (rate_text rate) 0 0) × (get_or (rate_text rate) 0 0 ≤ 57)
rate_first rate (inl half) = rw (text_half rate half) (omega arith, omega arith)
rate_first rate (inr (n, some, few, is)) = rw (text_whole rate n is) (decimal_leads n some, first_high (decimal n) (decimal_digits n))

pub line_first : (rate : ℕ) (s : Shape) → Rated rate → Sized s → (49 ≤ get_or (line_of rate s) 0 0) × (get_or (line_of rate s) 0 0 ≤ 57)
unfolding line_of
line_first rate s rated sized = rw (starts (rate_text rate) (shape_text s) (text_short rate rated).0) (rate_first rate rated)

-- ticket 1: "without leading zeros"
pub no_leading_zero : (l : List ℕ) → NoLine (numeral 0 ∷ l)
no_leading_zero l rate s rated sized is =
    let first = line_first rate s rated sized in
    let zero-first : get_or (line_of rate s) 0 0 ≡ 48 = ap (λ (m : List ℕ). get_or m 0 0) (sym is) in
    omega (arith, first.0)

-- a line of more than 13 bytes is none
pub none_longer : (line : List ℕ) → 13 < length line → NoLine line
none_longer line long rate s rated sized is = omega (arith, ap length is, line_short rate s rated sized)
