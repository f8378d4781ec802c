-- A viewer reads a line whole: each line tells its own variable the value that it has, and others nothing.
use Prim.Native.Nat.{ℕ}
use mathlib.Core.Bool.{Bool, true, false, not, ◌&&◌}
use mathlib.Core.List.{List, [], ◌∷◌, ◌++◌, append-nil, append_assoc}
use mathlib.Core.Path.{◌≡◌, refl, sym, ap, ◌∙◌}
use native.Mathlib.Omega.{arith}
use lib.Dec.{eqb}
use borrow.Author.Tests.{eq-eqb, ne_eqb}
use Rattle.base.specs.Pick.{pick}
use Rattle.base.specs.PickLaws.{pick_true, pick_false, both_hold, not_true}
use Rattle.base.specs.Bits.{digit}
use Rattle.base.proofs.BitLaws.{digit_le}
use Rattle.text.specs.Line.{newline, numeral, decimal}
use Rattle.text.specs.DecimalLaws.{decimal_small}
use Rattle.text.proofs.FormLaws.{Digits, decimal_digits}
use Rattle.page.specs.Through.{through}
use Rattle.page.specs.ThroughLaws.{through_append}
use Rattle.timeline.specs.Dump.{line_feed, value_line, time}
use Rattle.timeline.specs.Meaning.{Viewer, ready, name_in, value_in, key, value_behind, viewed}

-- ---- bytes that end no line

abbrev pub unended : List ℕ → Bool
unended [] = true
unended (c ∷ l) = not (eqb c newline) && unended l

digits_unended : (l : List ℕ) → Digits l → unended l ≡ true
digits_unended [] all = refl
digits_unended (d ∷ l) (low, high, all) = rw (ne_eqb d newline (λ e. omega arith), digits_unended l all)

-- ---- a line and its end

-- a text is read from one value to another, between two lines
pub record Reads (name text : List ℕ) (before value : ℕ) : Type 0 where
  pub is : through (viewed name) (ready before) text ≡ ready value

module _ (name : List ℕ) where
  so_far : (value : ℕ) (front l : List ℕ) → unended l ≡ true
      → through (viewed name) (record { line = front; value = value }) l ≡ record { line = front ++ l; value = value }
  unfolding viewed
  so_far value front [] whole = ap {B = Viewer} (λ (l : List ℕ). record { line = l; value = value }) (sym (append-nil front))
  so_far value front (c ∷ l) whole =
      let two = both_hold (not (eqb c newline)) (unended l) whole in
      ap (λ (v : Viewer). through (viewed name) v l) (pick_false _ _ _ (not_true _ two.0))
      ∙ so_far value (front ++ (c ∷ [])) l two.1
      ∙ ap {B = Viewer} (λ (m : List ℕ). record { line = m; value = value }) (append_assoc front (c ∷ []) l)

  pub read_none : (x : ℕ) → Reads name [] x x
  read_none x = record { is = refl }

  pub read_on_lem : {a b : List ℕ} {x y z : ℕ} → Reads name a x y → Reads name b y z → Reads name (a ++ b) x z
  read_on_lem {a} {b} {x} first then =
      record { is = through_append (viewed name) (ready x) a b ∙ ap (λ (v : Viewer). through (viewed name) v b) first.is ∙ then.is }

  pub read_same : {a b : List ℕ} {x y z : ℕ} → a ≡ b → y ≡ z → Reads name a x y → Reads name b x z
  read_same {a} {b} {x} text value reads =
      record { is = ap (through (viewed name) (ready x)) (sym text) ∙ reads.is ∙ ap ready value }

  pub read_line : (l : List ℕ) (before : ℕ) → unended l ≡ true → Reads name (l ++ line_feed) before (value_behind name before l)
  unfolding viewed
  read_line l before whole =
      record {
        is =
            through_append (viewed name) (ready before) l line_feed
            ∙ ap (λ (v : Viewer). through (viewed name) v line_feed) (so_far before [] l whole)
            ∙ pick_true _ _ _ refl;
      }

-- ---- the line of a variable

-- its value as a byte of text
bit_shown : (b : Bool) → decimal (digit b) ≡ numeral (digit b) ∷ []
bit_shown b = decimal_small (digit b) (omega (arith, digit_le b))

-- a line whose variable and value a viewer knows
record Told (line name : List ℕ) (value : ℕ) : Type 0 where
  whole : unended line ≡ true
  who : name_in line ≡ name
  what : value_in line ≡ value

one_bit : (b : Bool) (name : List ℕ) → unended name ≡ true → Told (numeral (digit b) ∷ name) name (digit b)
unfolding name_in value_in digit pick
one_bit true name plain = record { whole = plain; who = refl; what = refl }
one_bit false name plain = record { whole = plain; who = refl; what = refl }

value_told : (b : Bool) (name : List ℕ) → unended name ≡ true → Told (decimal (digit b) ++ name) name (digit b)
value_told b name plain = rw (bit_shown b) (one_bit b name plain)

-- a line that begins with # has no name
no_name : (l : List ℕ) → key (name_in (35 ∷ l)) ≡ 0
unfolding key name_in pick
no_name l = refl

-- it is read by who watches that variable, and passed over by who watches another
module _ (name : List ℕ) where
  pub read_own : (b : Bool) (before : ℕ) → unended name ≡ true → Reads name (value_line b name) before (digit b)
  unfolding value_line value_behind
  read_own b before plain =
      let line = value_told b name plain in
      let same : eqb (key (name_in (decimal (digit b) ++ name))) (key name) ≡ true = eq-eqb _ _ (ap key line.who) in
      let shown : value_behind name before (decimal (digit b) ++ name) ≡ digit b = pick_true _ _ _ same ∙ line.what in
      read_same name (append_assoc (decimal (digit b)) name line_feed) shown (read_line name (decimal (digit b) ++ name) before line.whole)

  pub read_other : (other : List ℕ) → eqb (key other) (key name) ≡ false
      → (b : Bool) (before : ℕ) → unended other ≡ true → Reads name (value_line b other) before before
  unfolding value_line value_behind
  read_other other differs b before plain =
      let line = value_told b other plain in
      let same : eqb (key (name_in (decimal (digit b) ++ other))) (key name) ≡ false = ap (λ (l : List ℕ). eqb (key l) (key name)) line.who ∙ differs in
      read_same name (append_assoc (decimal (digit b)) other line_feed) (pick_false _ _ _ same) (read_line name (decimal (digit b) ++ other) before line.whole)

  -- a time tells nobody's value
  pub read_time : eqb 0 (key name) ≡ false → (n before : ℕ) → Reads name (time n) before before
  unfolding time value_behind
  read_time named n before =
      let none : eqb (key (name_in (35 ∷ decimal n))) (key name) ≡ false = ap (λ (k : ℕ). eqb k (key name)) (no_name (decimal n)) ∙ named in
      read_same name refl (pick_false _ _ _ none) (read_line name (35 ∷ decimal n) before (digits_unended (decimal n) (decimal_digits n)))
