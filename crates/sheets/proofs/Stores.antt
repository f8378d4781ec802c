-- Texts stored one behind the other are one text.
use Prim.Native.Nat.{ℕ, ◌+◌, ◌%◌, ◌^◌, ◌≤◌, ◌<◌}
use mathlib.Core.List.{List, ◌++◌}
use mathlib.Core.Path.{◌≡◌, sym, ◌∙◌}
use native.Mathlib.Omega.{arith}
use native.Mathlib.Nat.{zero-add}
use lib.ListN.{length, set, take, length-append}
use lib.Seq.{sets, sets-eq, take-append_seam}
use Rattle.text.specs.Line.{numeral, decimal}
use Rattle.text.specs.Front.{front}
use Rattle.base.specs.StoreLaws.{sets_append}
use Rattle.text.specs.DecimalLaws.{decimal_length, decimal_front, front_length}
use Rattle.sheets.specs.Texts.{longest, AtStart}

-- a text behind another, from a place on
stored_behind : (p q d d1 d2 : List ℕ) (at a : ℕ) → a ≡ at + length p → d1 ≡ sets d at p → d2 ≡ sets d1 a q → d2 ≡ sets d at (p ++ q)
stored_behind p q d d1 d2 at a size first second =
    second ∙ rw (size, first) (sym (sets_append p q d at))

pub two_stored : (p q d d1 d2 : List ℕ) (a r : ℕ) → a ≡ 0 + length p → d1 ≡ sets d 0 p → r ≡ a + length q → d2 ≡ sets d1 a q → r ≤ longest
    → AtStart (p ++ q) d d2 r
two_stored p q d d1 d2 a r size first sum second short = record {
  bytes = stored_behind p q d d1 d2 0 a size first second;
  size = omega (arith, length-append p q);
  short = short;
}

pub three_stored : (p q s d d1 d2 d3 : List ℕ) (a b r : ℕ)
    → a ≡ 0 + length p → d1 ≡ sets d 0 p → b ≡ a + length q → d2 ≡ sets d1 a q → r ≡ b + length s → d3 ≡ sets d2 b s → r ≤ longest
    → AtStart (p ++ (q ++ s)) d d3 r
three_stored p q s d d1 d2 d3 a b r size first more second sum third short =
    two_stored p (q ++ s) d d1 d3 a r size first (omega (arith, length-append q s)) (stored_behind q s d1 d2 d3 a b more second third) short

-- the digits before the last and the last are the number's
pub number_stored : (d own : List ℕ) (n last : ℕ) → last ≡ length (front n) → own ≡ sets d 0 (front n) → length d ≡ 20 → n < 10 ^ 5
    → take (last + 1) (set own last (numeral (n % 10))) ≡ decimal n
number_stored d own n last size there room small =
    let all : length (front n) + 1 ≡ length (decimal n) = sym (front_length n) in
    let few : length (decimal n) ≤ 5 = decimal_length 4 n small in
    let whole : set own last (numeral (n % 10)) ≡ sets d 0 (decimal n) =
    rw (size, there, decimal_front n, sets_append (front n), zero-add) in
    rw (whole, size, all, sets-eq (decimal n) d 0 (omega arith)) (take-append_seam (decimal n) _)
