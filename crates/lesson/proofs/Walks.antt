-- One character further along a text: what each loop keeps.
use Rattle.std.specs.Prelude.{Option, Some, None, IfSome}
use Prim.Native.Nat.{ℕ, zero, suc, ◌+◌, ◌*◌, ◌%◌, ◌≤◌, ◌<◌}
use mathlib.Core.Bool.{Bool, true, false}
use mathlib.Core.List.{List, [], ◌∷◌, ◌++◌}
use mathlib.Core.Path.{◌≡◌, refl, sym, ap, ◌∙◌}
use native.Mathlib.Omega.{arith}
use native.Mathlib.Numerals.{add-one}
use lib.Dec.{eqb}
use lib.ListN.{length, length-set, set, get_or, take, drop, drop_of_length-le}
use lib.Seq.{drop-cons, sets}
use borrow.Author.Tests.{lt-ltb, le-ltb}
use Rattle.std.specs.Option.{is_some}
use Rattle.base.specs.Pick.{pick}
use Rattle.base.specs.PickLaws.{pick_true, pick_false, pick_either}
use Rattle.text.specs.Hex.{digit, digit_of}
use Rattle.text.specs.HexLaws.{digit_some, digit_none}
use Rattle.lesson.specs.Text.{line_feed, commented, uncommented, worths, paired, bytes_of, digits_of}
use Rattle.lesson.specs.Fault.{start, faulty, after, behind, half, fault_from}
use Rattle.lesson.specs.Cause.{begins, begun_from}
use Rattle.lesson.specs.Place.{onward, place_from}
use Rattle.lesson.specs.declared.faults.Reading.{Reading}
use Rattle.lesson.specs.declared.places.Place.{Place}

-- ---- faults

module _ (s : Reading) (text : List ℕ) (i : ℕ) where
  pub fault_here : i < length text → faulty s (get_or text i 0) ≡ true → fault_from s i (drop i text) ≡ Some i
  unfolding fault_from
  fault_here h e = rw (drop-cons text i 0 h) (pick_true _ _ _ e)

  pub fault_on : i < length text → faulty s (get_or text i 0) ≡ false
      → fault_from s i (drop i text) ≡ fault_from (after s (get_or text i 0)) (i + 1) (drop (i + 1) text)
  unfolding fault_from
  fault_on h e = rw (drop-cons text i 0 h, add-one i) (pick_false _ _ _ e)

  pub fault_end : length text ≤ i → fault_from s i (drop i text) ≡ pick (half s) (Some i) None
  unfolding fault_from
  fault_end h = rw (drop_of_length-le text h)

-- ---- causes

module _ (s : Reading) (begun : ℕ) (text : List ℕ) (i : ℕ) where
  pub behind_on : i < length text → behind s (drop i text) ≡ behind (after s (get_or text i 0)) (drop (i + 1) text)
  behind_on h = rw (drop-cons text i 0 h, add-one i)

  pub begun_on : i < length text
      → begun_from s begun i (drop i text) ≡ begun_from (after s (get_or text i 0)) (pick (begins s (get_or text i 0)) i begun) (i + 1) (drop (i + 1) text)
  unfolding begun_from
  begun_on h = rw (drop-cons text i 0 h, add-one i)

  pub behind_end : length text ≤ i → behind s (drop i text) ≡ s
  behind_end h = rw (drop_of_length-le text h)

  pub begun_end : length text ≤ i → begun_from s begun i (drop i text) ≡ begun
  unfolding begun_from
  begun_end h = rw (drop_of_length-le text h)

-- where one digit of a byte is read, a character has been read
pub half_behind : (text : List ℕ) (at : ℕ) → (behind start (take at text)).digits % 2 ≡ 1 → 1 ≤ at
half_behind text zero odd = absurd (omega arith)
half_behind text (suc at) odd = omega arith

-- ---- places

pub place_on : (p : Place) (text : List ℕ) (i : ℕ) → i < length text
    → place_from p (drop i text) ≡ place_from (onward p (get_or text i 0)) (drop (i + 1) text)
unfolding place_from
place_on p text i h = rw (drop-cons text i 0 h, add-one i)

pub place_within : (p : Place) (c n : ℕ) → p.line ≤ n → p.column ≤ n → 1 ≤ n
    → ((onward p c).line ≤ n + 1) × ((onward p c).column ≤ n + 1)
unfolding onward
place_within p c n line column some =
    pick_either (λ (q : Place). (q.line ≤ n + 1) × (q.column ≤ n + 1)) (eqb c line_feed) _ _ (omega arith, omega arith) (omega arith, omega arith)

pub place_end : (p : Place) (text : List ℕ) (i : ℕ) → length text ≤ i → place_from p (drop i text) ≡ p
unfolding place_from
place_end p text i h = rw (drop_of_length-le text h)

-- ---- digits and bytes

-- the digits from a place on
abbrev pub digits_from : Bool → List ℕ → ℕ → List ℕ
digits_from comment text i = worths (uncommented comment (drop i text))

-- what a character is worth where it is a digit and no comment has it
abbrev pub worth : Bool → ℕ → Option ℕ
worth comment c = pick (commented comment c) None (digit_of c)

worths_more : (c d : ℕ) (l : List ℕ) → Some d ≡ digit_of c → worths (c ∷ l) ≡ d ∷ worths l
unfolding worths
worths_more c d l is =
    let both : (d ≡ digit c) × (d < 16) = digit_some c d is in
    let small : digit c < 16 = omega (arith, both.0, both.1) in
    rw both.0 (pick_true _ _ _ (lt-ltb (digit c) 16 small))

worths_same : (c : ℕ) (l : List ℕ) → None ≡ digit_of c → worths (c ∷ l) ≡ worths l
unfolding worths
worths_same c l is = let large : 16 ≤ digit c = omega (arith, digit_none c is) in pick_false _ _ _ (le-ltb (digit c) 16 large)

-- by whether a comment has the character
digit_more : (x : Bool) (c d : ℕ) (l : List ℕ) → Some d ≡ pick x None (digit_of c)
    → worths (pick x (uncommented true l) (c ∷ uncommented false l)) ≡ d ∷ worths (uncommented x l)
unfolding pick
digit_more true c d l is = absurd (cc)
digit_more false c d l is = worths_more c d (uncommented false l) is

no_more : (x : Bool) (c : ℕ) (l : List ℕ) → None ≡ pick x None (digit_of c)
    → worths (pick x (uncommented true l) (c ∷ uncommented false l)) ≡ worths (uncommented x l)
unfolding pick
no_more true c l is = refl
no_more false c l is = worths_same c (uncommented false l) is

module _ (comment : Bool) (text : List ℕ) (i : ℕ) (inside : i < length text) where
  pub digit_on : (d : ℕ) → Some d ≡ worth comment (get_or text i 0)
      → digits_from comment text i ≡ d ∷ digits_from (commented comment (get_or text i 0)) text (i + 1)
  unfolding uncommented
  digit_on d is = rw (drop-cons text i 0 inside, add-one i) (digit_more (commented comment (get_or text i 0)) (get_or text i 0) d (drop (suc i) text) is)

  pub digit_past : None ≡ worth comment (get_or text i 0)
      → digits_from comment text i ≡ digits_from (commented comment (get_or text i 0)) text (i + 1)
  unfolding uncommented
  digit_past is = rw (drop-cons text i 0 inside, add-one i) (no_more (commented comment (get_or text i 0)) (get_or text i 0) (drop (suc i) text) is)

  -- the same, by whether there is a digit
  pub digit_counted : (o : Option ℕ) → o ≡ worth comment (get_or text i 0) → is_some o ≡ true
      → length (digits_from comment text i) ≡ length (digits_from (commented comment (get_or text i 0)) text (i + 1)) + 1
  digit_counted None is found = absurd (cc)
  digit_counted (Some d) is found = omega (arith, ap length (digit_on d is))

  pub digit_passed : (o : Option ℕ) → o ≡ worth comment (get_or text i 0) → is_some o ≡ false
      → digits_from comment text i ≡ digits_from (commented comment (get_or text i 0)) text (i + 1)
  digit_passed None is missed = digit_past is
  digit_passed (Some d) is missed = absurd (cc)

pub digits_end : (comment : Bool) (text : List ℕ) (i : ℕ) → length text ≤ i → digits_from comment text i ≡ []
unfolding uncommented worths
digits_end comment text i h = rw (drop_of_length-le text h)

-- ---- the bytes in a buffer

-- a first digit that waits for its second
abbrev pub waiting : Option ℕ → List ℕ
waiting None = []
waiting (Some high) = high ∷ []

-- the bytes that are still to be put
abbrev pub rest : Option ℕ → List ℕ → List ℕ
rest high digits = paired (waiting high ++ digits)

-- what holds at character i: what is put and what is still to be put is all
pub record Putting (text d₀ d : List ℕ) (comment : Bool) (high : Option ℕ) (at i : ℕ) : Type 0 where
  pub small : IfSome high (λ h. h < 16)
  pub same : length d ≡ length d₀
  pub bytes : sets d₀ 0 (bytes_of text) ≡ sets d at (rest high (digits_from comment text i))
  pub room : at + length (rest high (digits_from comment text i)) ≤ length d

pub put_start : (text d : List ℕ) → length (bytes_of text) ≤ length d → Putting text d d false None 0 0
unfolding bytes_of digits_of
put_start text d h = record { small = tt; same = refl; bytes = refl; room = omega arith }

-- a digit that waits in vain gives no byte
none_left : (high : Option ℕ) → rest high [] ≡ []
unfolding paired
none_left None = refl
none_left (Some high) = refl

pub put_end : (text d₀ d : List ℕ) (comment : Bool) (high : Option ℕ) (at i : ℕ) → Putting text d₀ d comment high at i → length text ≤ i
    → d ≡ sets d₀ 0 (bytes_of text)
put_end text d₀ d comment high at i p h =
    let none : rest high (digits_from comment text i) ≡ [] = rw (digits_end comment text i h) (none_left high) in sym (p.bytes ∙ rw none)

module _ (text d₀ d : List ℕ) (comment : Bool) (high : Option ℕ) (at i : ℕ) (p : Putting text d₀ d comment high at i) (inside : i < length text) where
  abbrev here : ℕ
  here = get_or text i 0

  -- a character that is no digit, or in a comment
  pub put_past : None ≡ worth comment here → Putting text d₀ d (commented comment here) high at (i + 1)
  put_past is = record {
    small = p.small;
    same = p.same;
    bytes = rw (← digit_past comment text i inside is) p.bytes;
    room = rw (← digit_past comment text i inside is) p.room;
  }

  -- a digit
  module _ (low : ℕ) (is : Some low ≡ worth comment here) (small : low < 16) where
    -- the first of a byte
    pub put_first : None ≡ high → Putting text d₀ d (commented comment here) (Some low) at (i + 1)
    put_first none =
        let e : rest high (digits_from comment text i) ≡ rest (Some low) (digits_from (commented comment here) text (i + 1)) =
        rw (← none) (ap paired (digit_on comment text i inside low is)) in
        record { small = small; same = p.same; bytes = p.bytes ∙ rw e; room = rw (← e) p.room }

    -- the second
    module _ (first : ℕ) (waits : Some first ≡ high) where
      split : rest high (digits_from comment text i) ≡ (16 * first + low) ∷ rest None (digits_from (commented comment here) text (i + 1))
      unfolding paired
      split = rw (← waits, digit_on comment text i inside low is)

      pub put_room : at < length d
      put_room = let r : _ = p.room in omega (arith, ap length split)

      pub put_second : Putting text d₀ (set d at (16 * first + low)) (commented comment here) None (at + 1) (i + 1)
      put_second =
          let l : length (set d at (16 * first + low)) ≡ length d = length-set d at _ in
          record {
            small = tt;
            same = l ∙ p.same;
            bytes = p.bytes ∙ rw (split, add-one at);
            room = let r : _ = p.room in omega (arith, ap length split, l);
          }
