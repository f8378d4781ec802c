-- Every line has one form, its digits denote their numbers, and it ends once.
use Rattle.std.specs.Prelude.{ℕ, zero, suc, ◌+◌, ◌-◌, ◌*◌, ◌/◌, ◌%◌, ◌≤◌, ◌<◌, ◌≡◌, refl, Bool, true, false, List, [], ◌∷◌, ◌++◌, ltb, eqb, length, get_or}
use Rattle.std.proofs.Common.{ap, ◌∙◌, ⊎_elim, arith, ltb-true, ltb-false, ne_eqb}
use Rattle.base.specs.Pick.{pick}
use Rattle.base.specs.PickLaws.{pick_true, pick_false, either_way}
use Rattle.base.specs.EveryLaws.{equal_at}
use Rattle.base.specs.Bits.{digit}
use Rattle.base.specs.Answers.{refusal_of, value_of}
use Rattle.base.specs.declared.Answer.{Answer}
use Rattle.text.specs.Line.{letter_a, numeral, decimal, capital, output_digit, line}
use Rattle.text.specs.DecimalLaws.{decimal_small, decimal_large, length_small, length_large}

-- what holds of the numbers below ten, and of n where it holds of n / 10, holds of every number
by_tens : (P : ℕ → Type 0) → ((n : ℕ) → n < 10 → P n) → ((n : ℕ) → 10 ≤ n → P (n / 10) → P n) → (n : ℕ) → P n
by_tens P small large n = within n n (omega arith)
  where
    within : (k n : ℕ) → n ≤ k → P n
    within zero n h = small n (omega arith)
    within (suc k) n h =
        ⊎_elim
        (λ (t : ltb n 10 ≡ true). small n (ltb-true n 10 t))
        (λ (f : ltb n 10 ≡ false).
        let l : 10 ≤ n = ltb-false n 10 f in large n l (within k (n / 10) (omega arith)))
        (either_way (ltb n 10))

-- ---- decimal digits

-- the number that digits denote, read from the left
abbrev pub denoted : ℕ → List ℕ → ℕ
denoted so_far [] = so_far
denoted so_far (d ∷ l) = denoted (10 * so_far + (d - 48)) l

denoted_last : (so_far : ℕ) (l : List ℕ) (d : ℕ) → denoted so_far (l ++ (d ∷ [])) ≡ 10 * denoted so_far l + (d - 48)
denoted_last so_far [] d = refl
denoted_last so_far (x ∷ l) d = denoted_last (10 * so_far + (x - 48)) l d

pub decimal_denotes : (n : ℕ) → denoted 0 (decimal n) ≡ n
decimal_denotes =
    by_tens (λ n. denoted 0 (decimal n) ≡ n)
    (λ n h. rw (decimal_small n h) (omega arith))
    (λ n h e. rw (decimal_large n h, denoted_last 0 (decimal (n / 10)), e) (omega arith))

-- each byte is 0 to 9
abbrev pub Digits : List ℕ → Type 0
Digits [] = Unit {0}
Digits (d ∷ l) = (48 ≤ d) × (d ≤ 57) × Digits l

digits_more : (l : List ℕ) (d : ℕ) → Digits l → 48 ≤ d → d ≤ 57 → Digits (l ++ (d ∷ []))
digits_more [] d all low high = (low, high, tt)
digits_more (x ∷ l) d (a, b, all) low high = (a, b, digits_more l d all low high)

pub decimal_digits : (n : ℕ) → Digits (decimal n)
decimal_digits =
    by_tens (λ n. Digits (decimal n))
    (λ n h. rw (decimal_small n h) (omega arith, omega arith, tt))
    (λ n h all. rw (decimal_large n h) (digits_more (decimal (n / 10)) (numeral (n % 10)) all (omega arith) (omega arith)))

some_digit : (n : ℕ) → 0 < length (decimal n)
some_digit =
    by_tens (λ n. 0 < length (decimal n))
    (λ n h. omega (arith, length_small n h))
    (λ n h some. omega (arith, length_large n h))

first_stays : (l r : List ℕ) → 0 < length l → get_or (l ++ r) 0 0 ≡ get_or l 0 0
first_stays [] r some = absurd (omega arith)
first_stays (x ∷ l) r some = refl

-- no zero stands in front, but of the number 0 itself
pub decimal_leads : (n : ℕ) → 0 < n → 48 < get_or (decimal n) 0 0
decimal_leads =
    by_tens (λ n. 0 < n → 48 < get_or (decimal n) 0 0)
    (λ n h some. rw (decimal_small n h) (omega arith))
    (λ n h first some.
    rw (decimal_large n h, first_stays (decimal (n / 10)) (numeral (n % 10) ∷ []) (some_digit (n / 10))) (first (omega arith)))

-- a number in decimal: digits that denote it, with no zero in front, but of the number 0 one
pub record Decimal (n : ℕ) (l : List ℕ) : Type 0 where
  pub digits : Digits l
  pub denotes : denoted 0 l ≡ n
  pub leads : 0 < n → 48 < get_or l 0 0
  pub none : n ≡ 0 → l ≡ 48 ∷ []

decimal_form : (n : ℕ) → Decimal n (decimal n)
decimal_form n =
    record {
      digits = decimal_digits n;
      denotes = decimal_denotes n;
      leads = decimal_leads n;
      none = λ (e : n ≡ 0). ap decimal e ∙ decimal_small 0 (omega arith);
    }

-- ---- hexadecimal capitals

-- the digit that a capital denotes
abbrev pub hex_denoted : ℕ → ℕ
hex_denoted c = pick (ltb c 58) (c - 48) (c - 55)

pub capital_denotes : (d : ℕ) → d < 16 → hex_denoted (capital d) ≡ d
unfolding capital pick
capital_denotes = equal_at 16 (λ d. hex_denoted (capital d)) (λ d. d) tt

-- 0 to 9, or A to F
abbrev pub Capital : ℕ → Type 0
Capital c = (48 ≤ c) × (c ≤ 70) × ((57 < c) → (65 ≤ c))

capital_form : (d : ℕ) → d < 16 → Capital (capital d)
unfolding capital
capital_form d h =
    ⊎_elim
    (λ (t : ltb d 10 ≡ true).
    let l : d < 10 = ltb-true d 10 t in rw (pick_true (ltb d 10) (numeral d) (letter_a - 10 + d) t) (omega arith, omega arith, λ k. omega arith))
    (λ (f : ltb d 10 ≡ false).
    let l : 10 ≤ d = ltb-false d 10 f in rw (pick_false (ltb d 10) (numeral d) (letter_a - 10 + d) f) (omega arith, omega arith, λ k. omega arith))
    (either_way (ltb d 10))

-- three capitals denote the value, which document 01 keeps to three digits
pub value_denoted : (v : ℕ) → v < 4096
    → 256 * hex_denoted (capital (v / 256 % 16)) + 16 * hex_denoted (capital (v / 16 % 16)) + hex_denoted (capital (v % 16)) ≡ v
value_denoted v h =
    rw (capital_denotes (v / 256 % 16) (omega arith), capital_denotes (v / 16 % 16) (omega arith), capital_denotes (v % 16) (omega arith))
    (omega arith)

-- ---- the form of a line

-- the output is shown as 1 exactly if it is high
pub output_shown : (o : Bool) → output_digit o ≡ 48 + digit o
unfolding output_digit digit pick
output_shown true = refl
output_shown false = refl

-- "A line each: record number in decimal from 0, refusal number (0 for none), answer in three hex capitals, output after the event; single
-- spaces, no header.": a number in decimal, a space, another, a space, three capitals, a space, 0 or 1, the line's end; and what each of them
-- denotes, which for an answer is a value of three digits
pub record Form (n : ℕ) (a : Answer) (o : Bool) (l : List ℕ) : Type 0 where
  pub number : List ℕ
  pub refusal : List ℕ
  pub high : ℕ
  pub middle : ℕ
  pub low : ℕ
  pub output : ℕ
  pub is : l ≡ number ++ (32 ∷ (refusal ++ (32 ∷ high ∷ middle ∷ low ∷ 32 ∷ output ∷ 10 ∷ [])))
  pub number_denotes : Decimal n number
  pub refusal_denotes : Decimal (refusal_of a) refusal
  pub capitals : Capital high × Capital middle × Capital low
  pub capitals_denote : value_of a < 4096 → 256 * hex_denoted high + 16 * hex_denoted middle + hex_denoted low ≡ value_of a
  pub output_denotes : output ≡ 48 + digit o

pub line_form : (n : ℕ) (a : Answer) (o : Bool) → Form n a o (line n a o)
unfolding line
line_form n a o = record {
  number = decimal n;
  refusal = decimal (refusal_of a);
  high = capital (value_of a / 256 % 16);
  middle = capital (value_of a / 16 % 16);
  low = capital (value_of a % 16);
  output = output_digit o;
  is = refl;
  number_denotes = decimal_form n;
  refusal_denotes = decimal_form (refusal_of a);
  capitals = (capital_form _ (omega arith), capital_form _ (omega arith), capital_form _ (omega arith));
  capitals_denote = value_denoted (value_of a);
  output_denotes = output_shown o;
}

-- ---- the end of a line

-- how often a line ends in a text
unfoldable pub line_ends : List ℕ → ℕ
line_ends [] = 0
line_ends (x ∷ l) = pick (eqb x 10) 1 0 + line_ends l

pub ends_append : (l r : List ℕ) → line_ends (l ++ r) ≡ line_ends l + line_ends r
unfolding line_ends
ends_append [] r = omega arith
ends_append (x ∷ l) r = rw (ends_append l r) (omega arith)

no_end : (x : ℕ) (l : List ℕ) → 10 < x → line_ends (x ∷ l) ≡ line_ends l
unfolding line_ends
no_end x l h = rw (ne_eqb x 10 (λ e. omega arith), pick_false) (omega arith)

pub none_ends : line_ends [] ≡ 0
unfolding line_ends
none_ends = refl

one_ends : line_ends (10 ∷ []) ≡ 1
unfolding line_ends pick
one_ends = refl

digits_end : (l : List ℕ) → Digits l → line_ends l ≡ 0
digits_end [] all = none_ends
digits_end (x ∷ l) (low, high, all) = no_end x l (omega arith) ∙ digits_end l all

ending_ends : (high middle low output : ℕ) → 10 < high → 10 < middle → 10 < low → 10 < output
    → line_ends (32 ∷ high ∷ middle ∷ low ∷ 32 ∷ output ∷ 10 ∷ []) ≡ 1
ending_ends high middle low output h m l o =
    no_end 32 _ (omega arith) ∙ no_end high _ h ∙ no_end middle _ m ∙ no_end low _ l ∙ no_end 32 _ (omega arith) ∙ no_end output _ o ∙ one_ends

pub form_ends : (n : ℕ) (a : Answer) (o : Bool) (l : List ℕ) → Form n a o l → line_ends l ≡ 1
form_ends n a o l f =
    let c : _ = f.capitals in
    let e : line_ends (32 ∷ f.high ∷ f.middle ∷ f.low ∷ 32 ∷ f.output ∷ 10 ∷ []) ≡ 1 =
    ending_ends f.high f.middle f.low f.output
    (omega (arith, c.0.0)) (omega (arith, c.1.0)) (omega (arith, c.2.0)) (omega (arith, f.output_denotes)) in
    let g : line_ends (32 ∷ (f.refusal ++ (32 ∷ f.high ∷ f.middle ∷ f.low ∷ 32 ∷ f.output ∷ 10 ∷ []))) ≡ 1 =
    no_end 32 _ (omega arith)
    ∙ ends_append f.refusal _
    ∙ rw (digits_end f.refusal f.refusal_denotes.digits, e) in
    ap line_ends f.is ∙ ends_append f.number _ ∙ rw (digits_end f.number f.number_denotes.digits, g)
