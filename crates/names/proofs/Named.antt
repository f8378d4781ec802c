-- The names of the bits that are set, as a loop goes through them.
use Rattle.std.proofs.Common.{ℕ, ◌+◌, ◌≤◌, ◌<◌, List, [], Bor, ◌≡◌, length, get_or, drop, drop_of_length-le, drop-cons, add-one}
use Rattle.base.specs.Pick.{pick}
use Rattle.base.specs.Bits.{bit}
use Rattle.page.specs.Pieces.{with}
use Rattle.page.specs.PieceLaws.{with_append, with_none}
use Rattle.page.specs.declared.Piece.{Piece}
use Rattle.names.specs.Words.{names_from}

module _ (p : Piece) (names : List (Bor (List ℕ))) (k byte : ℕ) where
  pub named_on : (d : Bor (List ℕ)) → k < length names
      → with p (names_from k (drop k names) byte) ≡ with (with p (pick (bit k byte) (get_or names k d).now [])) (names_from (k + 1) (drop (k + 1) names) byte)
  named_on d h = rw (drop-cons names k d h, add-one k) (with_append p _ _)

  pub named_end : length names ≤ k → with p (names_from k (drop k names) byte) ≡ p
  named_end h = rw (drop_of_length-le names h) (with_none p)
