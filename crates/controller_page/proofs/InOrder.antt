-- The lines place by place are the lines in order.
use Prim.Native.Nat.{ℕ, zero, suc, ◌+◌}
use mathlib.Core.List.{List, [], ◌∷◌, ◌++◌}
use mathlib.Core.Path.{◌≡◌, sym, ap, ◌∙◌}
use native.Mathlib.Numerals.{add-one}
use native.Mathlib.Omega.{arith}
use Rattle.text.specs.Line.{decimal}
use Rattle.text.specs.Quoted.{quoted}
use Rattle.page.specs.Pieces.{with}
use Rattle.page.specs.PieceLaws.{with_append, with_none}
use Rattle.page.specs.declared.Piece.{Piece}
use Rattle.rank.specs.Sets.{line}
use Rattle.rank.specs.Rank.{order, line_at}
use Rattle.controller_page.specs.ControllerPages.{behind_blanks}

first_line_lem : (first : ℕ) → line_at first 0 ≡ line first
first_line_lem first = omega arith

-- one line more
abbrev pub then : Piece → ℕ → Piece
then p n = with p (quoted " " ++ decimal n)

abbrev each : Piece → List ℕ → Piece
each p [] = p
each p (n ∷ lines) = each (then p n) lines

each_behind : (p : Piece) (lines : List ℕ) → each p lines ≡ with p (behind_blanks lines)
each_behind p [] = sym (with_none p)
each_behind p (n ∷ lines) =
    each_behind (then p n) lines
    ∙ sym (with_append p (quoted " " ++ decimal n) (behind_blanks lines))

pub lines_in_order : (p : Piece) (first : ℕ)
    → then (then (then (then (then (then (then (then p (line_at first 0)) (line_at first 1)) (line_at first 2)) (line_at first 3)) (line_at first 4)) (line_at first 5)) (line_at first 6)) (line_at first 7)
    ≡ with p (behind_blanks (order first))
lines_in_order p first =
    ap (λ (n : ℕ). each p (n ∷ line_at first 1 ∷ line_at first 2 ∷ line_at first 3 ∷ line_at first 4 ∷ line_at first 5 ∷ line_at first 6 ∷ line_at first 7 ∷ [])) (first_line_lem first)
    ∙ each_behind p (order first)

-- the first n lines of the rank, each behind a blank, as a loop tells them
abbrev pub ranked_below : Piece → ℕ → ℕ → Piece
ranked_below p first zero = p
ranked_below p first (suc n) = with (ranked_below p first n) (quoted " " ++ decimal (line_at first n))

pub ranked_next : (p : Piece) (first n : ℕ) → ranked_below p first (n + 1) ≡ with (ranked_below p first n) (quoted " " ++ decimal (line_at first n))
ranked_next p first n = rw (add-one n)
