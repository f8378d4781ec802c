-- Four numbers with one blank between two of them are read as these numbers, cut to the largest of their types.
use Rattle.std.specs.Prelude.{ℕ, ◌+◌, ◌*◌, ◌≤◌, ◌<◌, Bool, true, false, List, [], ◌∷◌, ◌++◌, ◌≡◌, refl, eqb, length, set}
use Rattle.std.proofs.Common.{sym, ap, ◌∙◌, arith, set-set, lt-ltb, eq-eqb, ne_eqb}
use Rattle.std.proofs.Math.Seq.{get_or-set_same}
use Rattle.std.proofs.lemmas.Bool.{lt-leb}
use Rattle.base.specs.Pick.{pick}
use Rattle.base.specs.PickLaws.{pick_true, pick_false, pick_either}
use Rattle.text.specs.Line.{space}
use Rattle.sheets.specs.Limits.{up_to}
use Rattle.sheets.specs.LimitLaws.{up_to_low, up_to_more, up_to_less}
use Rattle.text.specs.Hex.{digit as worth}
use Rattle.sheets.specs.Numbers.{base, no_numbers, with_digit, with_blank, numbers_after, numbers_behind, number, four, byte, room}
use Rattle.sheets.specs.OddLaws.{behind_append, base_small}
use Rattle.sheets.specs.declared.Numbers.{Numbers}

-- ---- a number

-- what digits of a base denote, read from the left
abbrev pub valued : ℕ → ℕ → List ℕ → ℕ
valued base so_far [] = so_far
valued base so_far (c ∷ l) = valued base (base * so_far + worth c) l

abbrev pub AllDigits : ℕ → List ℕ → Type 0
AllDigits base [] = Unit {0}
AllDigits base (c ∷ l) = (worth c < base) × AllDigits base l

-- one digit or more
pub record Word (base : ℕ) (l : List ℕ) : Type 0 where
  pub some : 0 < length l
  pub digits : AllDigits base l

-- the number at a place is being read, and is n as far as it goes
abbrev reading : List ℕ → ℕ → ℕ → Bool → Numbers
reading values place n begun = record { values = set values place (up_to 65535 n); place = place; begun = begun }

some_base : (place : ℕ) → 1 ≤ base place
unfolding base pick
some_base place = pick_either (λ (n : ℕ). 1 ≤ n) (eqb place 2) 16 10 (omega arith) (omega arith)

worth_space : worth space ≡ 16
unfolding worth pick
worth_space = refl

no_space : (place c : ℕ) → worth c < base place → c ≡ space → ⊥
no_space place c digit is = omega (arith, digit, base_small place, ap worth is, worth_space)

module _ (values : List ℕ) (place : ℕ) (inside : place < 4) (room : place < length values) where
  digit_read : (n c : ℕ) (begun : Bool) → worth c < base place
      → numbers_after (reading values place n begun) c ≡ reading values place (base place * n + worth c) true
  unfolding numbers_after with_digit
  digit_read n c begun digit =
      rw (pick_false _ _ _ (lt-leb 4 place inside), pick_false _ _ _ (ne_eqb c space (no_space place c digit)))
      (rw (pick_true _ _ _ (lt-ltb (worth c) (base place) digit), get_or-set_same values place (up_to 65535 n) 0 room)
      (rw (set-set values place (up_to 65535 n), up_to_more 65535 n (base place) (worth c) (some_base place))))

  digits_read : (n : ℕ) (l : List ℕ) → AllDigits (base place) l
      → numbers_behind (reading values place n true) l ≡ reading values place (valued (base place) n l) true
  digits_read n [] all = refl
  digits_read n (c ∷ l) (digit, all) =
      ap (λ (s : Numbers). numbers_behind s l) (digit_read n c true digit) ∙ digits_read (base place * n + worth c) l all

  word_read : (n : ℕ) (begun : Bool) (l : List ℕ) → Word (base place) l
      → numbers_behind (reading values place n begun) l ≡ reading values place (valued (base place) n l) true
  word_read n begun [] w = absurd (omega (arith, w.some))
  word_read n begun (c ∷ l) w =
      ap (λ (s : Numbers). numbers_behind s l) (digit_read n c begun w.digits.0) ∙ digits_read (base place * n + worth c) l w.digits.1

blank_read : (values : List ℕ) (place n : ℕ) → place < 3
    → numbers_after (reading values place n true) space ≡ record { values = set values place (up_to 65535 n); place = place + 1; begun = false }
unfolding numbers_after with_blank
blank_read values place n inside =
    rw (pick_false _ _ _ (lt-leb 4 place (omega arith)), pick_true _ _ _ (eq-eqb space space refl), pick_true _ _ _ (lt-ltb place 3 inside))

-- ---- four of them

zeros : List ℕ
zeros = 0 ∷ 0 ∷ 0 ∷ 0 ∷ []

start_read : no_numbers ≡ reading zeros 0 0 false
unfolding up_to pick zeros
start_read = refl

-- a number and the blank behind it; the next number is 0 so far
part_read : (values : List ℕ) (place : ℕ) (l rest : List ℕ) → place < 3 → place < length values → Word (base place) l
    → ((v : ℕ) → set (set values place v) (place + 1) 0 ≡ set values place v)
    → numbers_behind (reading values place 0 false) (l ++ (space ∷ rest))
    ≡ numbers_behind (reading (set values place (up_to 65535 (valued (base place) 0 l))) (place + 1) 0 false) rest
part_read values place l rest inside room w next =
    let n : ℕ = valued (base place) 0 l in
    behind_append (reading values place 0 false) l (space ∷ rest)
    ∙ ap (λ (s : Numbers). numbers_behind s (space ∷ rest)) (word_read values place (omega arith) room 0 false l w)
    ∙ ap (λ (s : Numbers). numbers_behind s rest)
    (blank_read values place n inside
    ∙ ap (λ (v : List ℕ). record { values = v; place = place + 1; begun = false })
    (sym (ap (set (set values place (up_to 65535 n)) (place + 1)) (up_to_low 65535 0 (omega arith)) ∙ next (up_to 65535 n))))

-- the words of a line, with one blank between two of them
abbrev pub line : List ℕ → List ℕ → List ℕ → List ℕ → List ℕ
line a b c d = a ++ (space ∷ (b ++ (space ∷ (c ++ (space ∷ d)))))

pub four_read : (a b c d : List ℕ) → Word 10 a → Word 10 b → Word 16 c → Word 10 d
    → numbers_behind no_numbers (line a b c d)
    ≡ record {
      values = up_to 65535 (valued 10 0 a) ∷ up_to 65535 (valued 10 0 b) ∷ up_to 65535 (valued 16 0 c) ∷ up_to 65535 (valued 10 0 d) ∷ [];
      place = 3;
      begun = true;
    }
unfolding base pick zeros
four_read a b c d wa wb wc wd =
    let v1 : ℕ = up_to 65535 (valued 10 0 a) in
    let v2 : ℕ = up_to 65535 (valued 10 0 b) in
    let v3 : ℕ = up_to 65535 (valued 16 0 c) in
    ap (λ (s : Numbers). numbers_behind s (line a b c d)) start_read
    ∙ part_read zeros 0 a (b ++ (space ∷ (c ++ (space ∷ d)))) (omega arith) (omega arith) wa (λ v. refl)
    ∙ part_read (v1 ∷ 0 ∷ 0 ∷ 0 ∷ []) 1 b (c ++ (space ∷ d)) (omega arith) (omega arith) wb (λ v. refl)
    ∙ part_read (v1 ∷ v2 ∷ 0 ∷ 0 ∷ []) 2 c d (omega arith) (omega arith) wc (λ v. refl)
    ∙ word_read (v1 ∷ v2 ∷ v3 ∷ 0 ∷ []) 3 (omega arith) (omega arith) 0 false d wd

-- read as these four numbers, each cut to the largest of its type
pub record ReadAs (clock divisor lcr lent : ℕ) (s : Numbers) : Type 0 where
  pub all : four s ≡ true
  pub clock_read : byte (number 0 s) ≡ up_to 255 clock
  pub divisor_read : number 1 s ≡ up_to 65535 divisor
  pub lcr_read : byte (number 2 s) ≡ up_to 255 lcr
  pub room_read : room (number 3 s) ≡ up_to 13 lent

pub words_read : (a b c d : List ℕ) → Word 10 a → Word 10 b → Word 16 c → Word 10 d
    → ReadAs (valued 10 0 a) (valued 10 0 b) (valued 16 0 c) (valued 10 0 d) (numbers_behind no_numbers (line a b c d))
unfolding four
words_read a b c d wa wb wc wd =
    let is : _ = four_read a b c d wa wb wc wd in
    record {
      all = ap four is;
      clock_read = ap (λ (s : Numbers). byte (number 0 s)) is ∙ up_to_less 255 (valued 10 0 a) 65535 (omega arith);
      divisor_read = ap (number 1) is;
      lcr_read = ap (λ (s : Numbers). byte (number 2 s)) is ∙ up_to_less 255 (valued 16 0 c) 65535 (omega arith);
      room_read = ap (λ (s : Numbers). room (number 3 s)) is ∙ up_to_less 13 (valued 10 0 d) 65535 (omega arith);
    }

-- the first alone
pub first_read : (a : List ℕ) → Word 10 a
    → numbers_behind no_numbers a ≡ record { values = up_to 65535 (valued 10 0 a) ∷ 0 ∷ 0 ∷ 0 ∷ []; place = 0; begun = true }
unfolding base pick zeros
first_read a w = ap (λ (s : Numbers). numbers_behind s a) start_read ∙ word_read zeros 0 (omega arith) (omega arith) 0 false a w
