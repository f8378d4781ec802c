-- The causes that a fault is told by, one after the other as the code comes to them; and that its place is in the text.
use Prim.Native.Nat.{ℕ, suc, ◌+◌, ◌-◌, ◌/◌, ◌%◌, ◌≤◌}
use mathlib.Core.Bool.{Bool, true, false, not, ◌&&◌}
use lib.Dec.{ltb}
use Rattle.std.specs.Option.{is_some}
use Rattle.text.specs.Hex.{digit, digit_of}
use Rattle.text.specs.HexLaws.{digit_found}
use Rattle.lesson.specs.Text.{apart}
use mathlib.Core.List.{List, [], ◌∷◌}
use mathlib.Core.Path.{◌≡◌, sym, ◌∙◌}
use native.Mathlib.Omega.{arith}
use lib.ListN.{length, take}
use lib.Seq.{length-take-le}
use borrow.Author.Tests.{eq-eqb, ne_eqb}
use Rattle.base.specs.Pick.{pick}
use Rattle.base.specs.PickLaws.{pick_true, pick_false, pick_either, pick_le}
use Rattle.lesson.specs.Fault.{start, half, after, behind}
use Rattle.lesson.specs.Cause.{character_at, alien, begins, begun_from, begun_in, stopped_at, marked, wide, finding}
use Rattle.lesson.specs.declared.Cause.TheVariants.{NoDigit, OneDigit, ShortRecord, ByteOrderMark, Utf16}
use Rattle.lesson.specs.declared.causes.Finding.{Finding}
use Rattle.lesson.specs.declared.faults.Reading.{Reading}

-- neither a digit nor what may stand between two bytes, by the two questions
pub alien_by : (c : ℕ) (none : Bool) → is_some (digit_of c) ≡ not none → (none && not (apart c)) ≡ alien c
unfolding alien pick
alien_by c true found = sym (pick_false (ltb (digit c) 16) false (not (apart c)) (sym (digit_found c) ∙ found))
alien_by c false found = sym (pick_true (ltb (digit c) 16) false (not (apart c)) (sym (digit_found c) ∙ found))

module _ (text : List ℕ) (at : ℕ) where
  pub stops_alien : alien (character_at text at) ≡ true → record { at = at; cause = NoDigit } ≡ stopped_at text at
  unfolding stopped_at
  stops_alien is = sym (pick_true _ _ _ is)

  module _ (known : alien (character_at text at) ≡ false) where
    pub stops_half : (s : Reading) → s ≡ behind start (take at text) → s.digits % 2 ≡ 1
        → record { at = at - 1; cause = OneDigit } ≡ stopped_at text at
    unfolding stopped_at
    stops_half s there odd = sym (pick_false _ _ _ known ∙ pick_true _ _ _ (rw (← there) (eq-eqb _ _ odd)))

    pub stops_short : (s : Reading) (begun : ℕ) → s ≡ behind start (take at text) → begun ≡ begun_in (take at text)
        → (s.digits % 2 ≡ 1 → ⊥)
        → record { at = begun; cause = ShortRecord (s.digits / 2) } ≡ stopped_at text at
    unfolding stopped_at
    stops_short s begun there first even = rw (there, first) (sym (pick_false _ _ _ known ∙ pick_false _ _ _ (rw (← there) (ne_eqb _ _ even))))

  pub found_marked : marked text ≡ true → record { at = 0; cause = ByteOrderMark } ≡ finding text at
  unfolding finding
  found_marked is = sym (pick_true _ _ _ is)

  module _ (no_mark : marked text ≡ false) where
    pub found_wide : wide text ≡ true → record { at = 0; cause = Utf16 } ≡ finding text at
    unfolding finding
    found_wide is = sym (pick_false _ _ _ no_mark ∙ pick_true _ _ _ is)

    pub found_stopped : wide text ≡ false → stopped_at text at ≡ finding text at
    unfolding finding
    found_stopped narrow = sym (pick_false _ _ _ no_mark ∙ pick_false _ _ _ narrow)

-- ---- the place is in the text

begun_within : (s : Reading) (begun at : ℕ) (l : List ℕ) → begun ≤ at → begun_from s begun at l ≤ at + length l
unfolding begun_from
begun_within s begun at [] h = omega arith
begun_within s begun at (c ∷ l) h =
    let on : _ = begun_within (after s c) _ (suc at) l (pick_le (begins s c) at begun (suc at) (omega arith) (omega arith)) in omega (arith, on)

pub finding_within : (text : List ℕ) (at : ℕ) → at ≤ length text → (finding text at).at ≤ length text
unfolding finding stopped_at begun_in
finding_within text at h =
    let begun : begun_in (take at text) ≤ 0 + length (take at text) = begun_within start 0 0 (take at text) (omega arith) in
    let size : length (take at text) ≡ at = length-take-le at text h in
    pick_either Inside (marked text) _ _ (omega arith)
    (pick_either Inside (wide text) _ _ (omega arith)
    (pick_either Inside (alien (character_at text at)) _ _ h
    (pick_either Inside (half (behind start (take at text))) _ _ (omega arith) (omega arith))))
  where
    Inside : Finding → Type 0
    Inside f = f.at ≤ length text
