-- How long a line is at most, and its copy into a buffer.
use Rattle.std.specs.Prelude.{Ok}
use Prim.Native.Nat.{ℕ, ◌≤◌, ◌<◌}
use mathlib.Core.List.{List, ◌++◌}
use mathlib.Core.Path.{◌≡◌, ap, sym, ◌∙◌}
use native.Mathlib.Omega.{arith}
use lib.ListN.{length, drop, take}
use Rattle.std.proofs.lemmas.List.Edits.{sets}
use Rattle.base.specs.StoreLaws.{stored_first}
use borrow.Author.Tests.{le-leb, lt-leb}
use Rattle.base.specs.PickLaws.{pick_true, pick_false}
use Rattle.base.specs.declared.Refusal.TheVariants.{NoRoom}
use Rattle.setting_lines.specs.Writing.{left, left_by, put_into}
use Rattle.setting_lines.specs.Guess.{line_by}
use Rattle.setting_lines.proofs.Texts.{rate_short, shape_short, line_length}

pub line_short : (rate lcr : ℕ) → rate ≤ 999990 → length (line_by rate lcr) ≤ 13
line_short rate lcr small = omega (arith, line_length rate lcr, rate_short rate small, shape_short lcr)

-- an array in which a line was put begins with it
pub made : (rate lcr n : ℕ) (room room' : List ℕ) → rate ≤ 999990 → length room ≡ 20 → n ≡ length (line_by rate lcr) → room' ≡ sets room 0 (line_by rate lcr)
    → take n room' ≡ line_by rate lcr
made rate lcr n room room' small twenty size put =
    (stored_first n (line_by rate lcr) room room' (sym size) (omega (arith, twenty, size, line_short rate lcr small)) put).0

-- a copy of a line into the front of a buffer that has room for it
pub put_part : (src line d d' : List ℕ) (n : ℕ) → src ≡ line → n ≡ length src → n ≤ length d → d' ≡ src ++ drop n d → left (Ok n) d' ≡ put_into d line
put_part src line d d' n is size room copied =
    let long : n ≡ length line = size ∙ ap length is in
    rw (le-leb (length line) (length d) (omega arith), pick_true, ← long) (ap (left (Ok n)) (copied ∙ rw is))

-- and of one into a buffer that has none
pub put_none : (line d : List ℕ) → length d < length line → left_by d NoRoom ≡ put_into d line
put_none line d full = sym (pick_false _ _ _ (lt-leb (length line) (length d) full))
