-- A piece says what was put into it, one thing behind the other, as far as it holds.
use Rattle.std.specs.Prelude.{ℕ, ◌+◌, ◌≤◌, ◌<◌, List, [], ◌∷◌, ◌++◌, ◌≡◌, refl, length, take, set}
use Rattle.std.proofs.Common.{ap, ◌∙◌, arith, take_all, lt-ltb, le-ltb}
use Rattle.base.specs.PickLaws.{pick_true, pick_false}
use Rattle.page.specs.ThroughLaws.{through_append}
use Rattle.page.specs.KeptLaws.{Keeps, kept_through}
use Rattle.page.specs.Pieces.{piece_most, no_piece, with_byte, with, piece, said}
use Rattle.page.specs.declared.Piece.{Piece}

pub with_append : (p : Piece) (first then : List ℕ) → with p (first ++ then) ≡ with (with p first) then
unfolding with
with_append p first then = through_append with_byte p first then

pub with_none : (p : Piece) → with p [] ≡ p
unfolding with
with_none p = refl

pub with_one : (p : Piece) (c : ℕ) → with p (c ∷ []) ≡ with_byte p c
unfolding with
with_one p c = refl

with_more : (p : Piece) (c : ℕ) → p.count < piece_most
    → with_byte p c ≡ record { bytes = set p.bytes p.count c; count = p.count + 1 }
unfolding with_byte
with_more p c room = pick_true _ _ _ (lt-ltb p.count piece_most room)

with_full : (p : Piece) (c : ℕ) → piece_most ≤ p.count → with_byte p c ≡ p
unfolding with_byte
with_full p c full = pick_false _ _ _ (le-ltb p.count piece_most full)

piece_keeps : Keeps with_byte (λ (p : Piece). p.bytes) (λ (p : Piece). p.count) piece_most
piece_keeps = record {
  bytes_more = λ p c room. ap (λ (q : Piece). q.bytes) (with_more p c room);
  count_more = λ p c room. ap (λ (q : Piece). q.count) (with_more p c room);
  full = with_full;
}

-- of what a piece is given its first 68 bytes are said
pub said_piece : (words : List ℕ) → said (piece words) ≡ take piece_most words
unfolding said with no_piece
said_piece words = kept_through with_byte (λ (p : Piece). p.bytes) (λ (p : Piece). p.count) piece_most piece_keeps no_piece words refl (omega arith)

-- so of words that are not longer all are
pub said_all : (words : List ℕ) → length words ≤ piece_most → said (piece words) ≡ words
said_all words few = said_piece words ∙ take_all piece_most words few
