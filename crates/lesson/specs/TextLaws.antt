-- What is written in digits is read back, whatever stands in comments.
use Rattle.std.specs.Prelude.{ℕ, suc, ◌+◌, ◌-◌, ◌*◌, ◌/◌, ◌%◌, ◌≤◌, ◌<◌, Bool, true, false, ◌||◌, List, [], ◌∷◌, ◌++◌, ◌≡◌, refl, ◌⊎◌, ltb, eqb, length}
use Rattle.std.proofs.Common.{append_assoc, sym, ap, subst, ◌∙◌, inl, inr, ⊎_elim, arith, lt-ltb, le-ltb, ne_eqb, eqb-true}
use Rattle.base.specs.Pick.{pick}
use Rattle.base.specs.PickLaws.{pick_true, pick_false, pick_same, pick_either, pick_cases}
use Rattle.base.specs.EveryLaws.{equal_at}
use Rattle.text.specs.HexLaws.{inside}
use Rattle.text.specs.Hex.{digit, within}
use Rattle.lesson.specs.Text.{line_feed, number_sign, white, commented, uncommented, worths, paired, digits_of, bytes_of}
use Rattle.lesson.specs.Plain.{letter, two, plain, Bytes, OneLine, comment}

-- ---- characters

-- each digit, as it is written, is worth itself
pub letter_worth : (small : Bool) (d : ℕ) → d < 16 → digit (letter small d) ≡ d
unfolding digit pick
letter_worth true = equal_at 16 (λ d. digit (letter true d)) (λ d. d) tt
letter_worth false = equal_at 16 (λ d. digit (letter false d)) (λ d. d) tt

number_letter : (c : ℕ) → (48 ≤ c) × (c ≤ 57) → c ≡ letter false (c - 48)
number_letter c h =
    let same : 48 + (c - 48) ≡ c = omega arith in sym (pick_true _ _ _ (lt-ltb (c - 48) 10 (omega arith)) ∙ same)

past_numbers : (small : Bool) (d : ℕ) → 10 ≤ d → letter small d ≡ pick small (87 + d) (55 + d)
past_numbers small d h = pick_false _ _ _ (le-ltb d 10 h)

capital_letter : (c : ℕ) → (65 ≤ c) × (c ≤ 70) → c ≡ letter false (c - 65 + 10)
capital_letter c h =
    let same : 55 + (c - 65 + 10) ≡ c = omega arith in
    sym (past_numbers false (c - 65 + 10) (omega arith) ∙ pick_false _ _ _ refl ∙ same)

small_letter : (c : ℕ) → (97 ≤ c) × (c ≤ 102) → c ≡ letter true (c - 97 + 10)
small_letter c h =
    let same : 87 + (c - 97 + 10) ≡ c = omega arith in
    sym (past_numbers true (c - 97 + 10) (omega arith) ∙ pick_true _ _ _ refl ∙ same)

-- and no other character is a digit
pub digit_letter : (c : ℕ) → digit c < 16 → (c ≡ letter false (digit c)) ⊎ (c ≡ letter true (digit c))
unfolding digit
digit_letter c =
    pick_cases Of (within 48 57 c) _ _ (λ yes h. inl (number_letter c (inside 48 57 c yes)))
    (λ no. pick_cases Of (within 65 70 c) _ _ (λ yes h. inl (capital_letter c (inside 65 70 c yes)))
    (λ no. pick_cases Of (within 97 102 c) _ _ (λ yes h. inr (small_letter c (inside 97 102 c yes))) (λ no h. absurd (omega arith))))
  where
    Of : ℕ → Type 0
    Of d = d < 16 → (c ≡ letter false d) ⊎ (c ≡ letter true d)

pub sign_no_digit : digit number_sign ≡ 16
unfolding digit pick
sign_no_digit = refl

pub feed_no_digit : digit line_feed ≡ 16
unfolding digit pick
feed_no_digit = refl

pub feed_uncommented : commented true line_feed ≡ false
unfolding commented pick
feed_uncommented = refl

pub sign_commented : commented false number_sign ≡ true
unfolding commented pick
sign_commented = refl

-- a digit begins no comment
pub digit_uncommented : (c : ℕ) → digit c < 16 → commented false c ≡ false
unfolding commented
digit_uncommented c h =
    let other : eqb c number_sign ≡ false = ne_eqb c number_sign (λ e. absurd (omega (arith, ap digit e, sign_no_digit))) in
    pick_false _ _ _ other ∙ pick_same (eqb c line_feed) false

one_or_other : (a b : Bool) → (a || b) ≡ true → (a ≡ true) ⊎ (b ≡ true)
one_or_other true b e = inl refl
one_or_other false b e = inr e

-- what holds of each white space holds of any
pub white_is : (P : ℕ → Type 0) → P 32 → P 9 → P 13 → P 10 → (c : ℕ) → white c ≡ true → P c
white_is P space tab return feed c e =
    ⊎_elim
    (λ (among : (eqb c 32 || eqb c 9 || eqb c 13) ≡ true).
    ⊎_elim
    (λ (among : (eqb c 32 || eqb c 9) ≡ true).
    ⊎_elim (λ (is : eqb c 32 ≡ true). at 32 space is) (λ (is : eqb c 9 ≡ true). at 9 tab is) (one_or_other (eqb c 32) (eqb c 9) among))
    (λ (is : eqb c 13 ≡ true). at 13 return is)
    (one_or_other (eqb c 32 || eqb c 9) (eqb c 13) among))
    (λ (is : eqb c 10 ≡ true). at 10 feed is)
    (one_or_other (eqb c 32 || eqb c 9 || eqb c 13) (eqb c 10) e)
  where
    at : (k : ℕ) → P k → eqb c k ≡ true → P c
    at k holds is = subst P (sym (eqb-true c k is)) holds

-- ---- digits and bytes

digit_goes : (c : ℕ) (l : List ℕ) → digit c < 16 → worths (uncommented false (c ∷ l)) ≡ digit c ∷ worths (uncommented false l)
unfolding uncommented worths
digit_goes c l h = rw (pick_false _ _ _ (digit_uncommented c h)) (pick_true _ _ _ (lt-ltb (digit c) 16 h))

byte_goes : (small : Bool) (b : ℕ) (l : List ℕ) → b < 256 → bytes_of (two small b ++ l) ≡ b ∷ bytes_of l
unfolding bytes_of digits_of paired
byte_goes small b l h =
    let high : digit (letter small (b / 16)) ≡ b / 16 = letter_worth small (b / 16) (omega arith) in
    let low : digit (letter small (b % 16)) ≡ b % 16 = letter_worth small (b % 16) (omega arith) in
    let whole : 16 * (b / 16) + b % 16 ≡ b = omega arith in
    rw (digit_goes (letter small (b / 16)) (letter small (b % 16) ∷ l) (omega arith), digit_goes (letter small (b % 16)) l (omega arith), high, low, whole)

feed_goes : (l : List ℕ) → bytes_of (line_feed ∷ l) ≡ bytes_of l
unfolding bytes_of digits_of uncommented worths commented digit pick
feed_goes l = refl

none_goes : bytes_of [] ≡ []
unfolding bytes_of digits_of uncommented worths paired
none_goes = refl

-- bytes that are written in the plain form are read back
pub plain_back : (small : Bool) (bs : List ℕ) → Bytes bs → bytes_of (plain small bs) ≡ bs
unfolding plain
plain_back small [] all = none_goes
plain_back small (a ∷ []) all = byte_goes small a [] all.0 ∙ rw none_goes
plain_back small (a ∷ b ∷ []) all = byte_goes small a _ all.0 ∙ rw (byte_goes small b [] all.1.0, none_goes)
plain_back small (a ∷ b ∷ c ∷ []) all =
    byte_goes small a _ all.0 ∙ rw (byte_goes small b (two small c) all.1.0, byte_goes small c [] all.1.1.0, none_goes)
plain_back small (a ∷ b ∷ c ∷ d ∷ rest) all =
    byte_goes small a _ all.0
    ∙ ap (λ (l : List ℕ). a ∷ l) (byte_goes small b _ all.1.0)
    ∙ ap (λ (l : List ℕ). a ∷ b ∷ l) (byte_goes small c _ all.1.1.0)
    ∙ ap (λ (l : List ℕ). a ∷ b ∷ c ∷ l) (byte_goes small d _ all.1.1.1.0 ∙ ap (λ (l : List ℕ). d ∷ l) (feed_goes _ ∙ plain_back small rest all.1.1.1.1))

-- ---- comments

-- whether a comment goes on behind some characters
abbrev pub commented_after : Bool → List ℕ → Bool
commented_after x [] = x
commented_after x (c ∷ l) = commented_after (commented x c) l

uncommented_one : (y : Bool) (c : ℕ) (a b : List ℕ) → ((x : Bool) → uncommented x (a ++ b) ≡ uncommented x a ++ uncommented (commented_after x a) b)
    → pick y (uncommented true (a ++ b)) (c ∷ uncommented false (a ++ b)) ≡ pick y (uncommented true a) (c ∷ uncommented false a) ++ uncommented (commented_after y a) b
unfolding pick
uncommented_one true c a b each = each true
uncommented_one false c a b each = ap (λ (l : List ℕ). c ∷ l) (each false)

pub uncommented_parts : (a b : List ℕ) (x : Bool) → uncommented x (a ++ b) ≡ uncommented x a ++ uncommented (commented_after x a) b
unfolding uncommented
uncommented_parts [] b x = refl
uncommented_parts (c ∷ a) b x = uncommented_one (commented x c) c a b (uncommented_parts a b)

worths_one : (y : Bool) (d : ℕ) (a b : List ℕ) → worths (a ++ b) ≡ worths a ++ worths b
    → pick y (d ∷ worths (a ++ b)) (worths (a ++ b)) ≡ pick y (d ∷ worths a) (worths a) ++ worths b
unfolding pick
worths_one true d a b e = ap (λ (l : List ℕ). d ∷ l) e
worths_one false d a b e = e

pub worths_parts : (a b : List ℕ) → worths (a ++ b) ≡ worths a ++ worths b
unfolding worths
worths_parts [] b = refl
worths_parts (c ∷ a) b = worths_one (ltb (digit c) 16) (digit c) a b (worths_parts a b)

-- within a comment every character but the line feed goes on with it
pub comment_goes : (c : ℕ) → (c ≡ line_feed → ⊥) → commented true c ≡ true
unfolding commented
comment_goes c other =
    ap (λ (x : Bool). pick (eqb c number_sign) true x) (pick_false _ _ _ (ne_eqb c line_feed other)) ∙ pick_same (eqb c number_sign) true

words_uncommented : (words b : List ℕ) → OneLine words → uncommented true (words ++ (line_feed ∷ b)) ≡ line_feed ∷ uncommented false b
unfolding uncommented
words_uncommented [] b all = feed_ends
  where
    feed_ends : pick (commented true line_feed) (uncommented true b) (line_feed ∷ uncommented false b) ≡ line_feed ∷ uncommented false b
    feed_ends = pick_false _ _ _ feed_uncommented
words_uncommented (c ∷ words) b all = pick_true _ _ _ (comment_goes c all.0) ∙ words_uncommented words b all.1

-- a comment, with the end of its line, has no byte
comment_worths : (words b : List ℕ) → OneLine words → worths (uncommented false (comment words ++ b)) ≡ worths (uncommented false b)
unfolding uncommented worths
comment_worths words b all =
    rw (pick_true _ _ _ sign_commented, append_assoc words (line_feed ∷ []) b, words_uncommented words b all) (pick_false _ _ _ (le-ltb (digit line_feed) 16 (omega (arith, feed_no_digit))))

-- a comment that begins outside any comment, even within a byte, changes no byte
pub comment_bytes : (a words b : List ℕ) → commented_after false a ≡ false → OneLine words
    → bytes_of (a ++ (comment words ++ b)) ≡ bytes_of (a ++ b)
unfolding bytes_of digits_of
comment_bytes a words b outside all =
    rw (uncommented_parts a (comment words ++ b) false, uncommented_parts a b false, outside, worths_parts (uncommented false a), worths_parts (uncommented false a), comment_worths words b all)

-- ---- sizes

uncommented_size : (l : List ℕ) (x : Bool) → length (uncommented x l) ≤ length l
unfolding uncommented
uncommented_size [] x = omega arith
uncommented_size (c ∷ l) x =
    pick_either (λ (r : List ℕ). length r ≤ suc (length l)) (commented x c) _ _ (omega (arith, uncommented_size l true)) (omega (arith, uncommented_size l false))

worths_size : (l : List ℕ) → length (worths l) ≤ length l
unfolding worths
worths_size [] = omega arith
worths_size (c ∷ l) =
    pick_either (λ (r : List ℕ). length r ≤ suc (length l)) (ltb (digit c) 16) _ _ (omega (arith, worths_size l)) (omega (arith, worths_size l))

pub pair_count : (l : List ℕ) → length (paired l) ≡ length l / 2
unfolding paired
pair_count [] = refl
pair_count (a ∷ []) = refl
pair_count (a ∷ b ∷ l) = let e : length (paired l) ≡ length l / 2 = pair_count l in omega arith

-- a text has at most half as many bytes as characters
pub bytes_size : (text : List ℕ) → 2 * length (bytes_of text) ≤ length text
unfolding bytes_of digits_of
bytes_size text = omega (arith, pair_count (worths (uncommented false text)), worths_size (uncommented false text), uncommented_size text false)
