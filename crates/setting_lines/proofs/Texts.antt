-- The texts of a line: how long they are, and how the code's stores put them.
use Prim.Native.Nat.{ℕ, ◌+◌, ◌/◌, ◌%◌, ◌≤◌}
use mathlib.Core.Bool.{Bool, true, false}
use mathlib.Core.List.{List}
use mathlib.Core.Path.{◌≡◌}
use native.Mathlib.Nat.{zero-add}
use native.Mathlib.Omega.{arith}
use lib.Dec.{eqb}
use lib.ListN.{length, set, length-append}
use lib.Seq.{sets}
use borrow.Author.Tests.{ne_eqb}
use Rattle.base.specs.Bits.{bit}
use Rattle.base.specs.PickLaws.{pick_false, pick_either}
use Rattle.text.specs.Line.{numeral, decimal}
use Rattle.text.specs.Front.{front}
use Rattle.text.specs.DecimalLaws.{decimal_length, decimal_front}
use Rattle.base.specs.StoreLaws.{sets_append}
use Rattle.setting_lines.specs.Fields.{rate_text, stop_text}
use Rattle.setting_lines.specs.Guess.{shape_by, line_by}

-- ---- how long

pub rate_short : (rate : ℕ) → rate ≤ 999990 → length (rate_text rate) ≤ 5
unfolding rate_text
rate_short rate small =
    pick_either (λ (l : List ℕ). length l ≤ 5) (eqb rate 1345) _ _ (omega arith) (decimal_length 4 (rate / 10) (omega arith))

pub stop_short : (bits : ℕ) (longer : Bool) → length (stop_text bits longer) ≤ 3
unfolding stop_text
stop_short bits false = omega arith
stop_short bits true =
    pick_either (λ (l : List ℕ). length l ≤ 3) (eqb bits 5) _ _ (omega arith) (omega arith)

pub shape_short : (lcr : ℕ) → length (shape_by lcr) ≤ 8
unfolding shape_by
shape_short lcr = omega (arith, stop_short (5 + lcr % 4) (bit 2 lcr))

pub line_length : (rate lcr : ℕ) → length (line_by rate lcr) ≡ length (rate_text rate) + length (shape_by lcr)
unfolding line_by
line_length rate lcr = length-append (rate_text rate) (shape_by lcr)

-- ---- stores

-- the digits before the last, and the last, are the rate
pub rate_whole : (rate : ℕ) → (rate ≡ 1345 → ⊥) → rate_text rate ≡ decimal (rate / 10)
unfolding rate_text
rate_whole rate other = pick_false _ _ _ (ne_eqb rate 1345 other)

pub last_digit : (l : List ℕ) (n k : ℕ) → k ≡ length (front n) → set (sets l 0 (front n)) k (numeral (n % 10)) ≡ sets l 0 (decimal n)
last_digit l n k is = rw (is, decimal_front n, sets_append (front n), zero-add)
