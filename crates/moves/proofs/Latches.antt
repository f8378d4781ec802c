-- Bits by their names, and lines by their numbers, as loops go through them.
use Rattle.std.proofs.Common.{ℕ, suc, ◌+◌, ◌≤◌, ◌<◌, List, [], ◌∷◌, Bor, ◌≡◌, ap, ◌∙◌, length, get_or, drop, drop_of_length-le, drop-cons, add-one, arith}
use Rattle.base.specs.ListLaws.{listed, listed_last}
use Rattle.page.specs.Pages.{joined, joined_all}
use Rattle.page.specs.PageLaws.{joined_all_lem}
use Rattle.page.specs.declared.Page.{Page}
use Rattle.moves.specs.Moved.{latch_moved, latches_moved}

module _ (p : Page) (names : List (Bor (List ℕ))) (from k before after : ℕ) where
  next : from + (k + 1) ≡ suc (from + k)
  next = omega arith

  pub latch_on : (d : Bor (List ℕ)) → k < length names
      → joined_all p (latches_moved (from + k) before after (drop k names))
      ≡ joined_all (joined p (latch_moved (from + k) before after (get_or names k d).now)) (latches_moved (from + (k + 1)) before after (drop (k + 1) names))
  latch_on d h = rw (drop-cons names k d h, next, add-one k)

  pub latch_over : length names ≤ k → joined_all p (latches_moved (from + k) before after (drop k names)) ≡ p
  latch_over h = rw (drop_of_length-le names h)

-- one line more
pub line_on : (p : Page) (f : ℕ → List ℕ) (n : ℕ) → joined_all p (listed (n + 1) f) ≡ joined (joined_all p (listed n f)) (f n)
line_on p f n = rw (add-one n) (ap (joined_all p) (listed_last n f) ∙ joined_all_lem p (listed n f) (f n ∷ []))
