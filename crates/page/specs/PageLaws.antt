-- A page has what was put on it, as far as it holds; and a piece is joined by what it says.
use Rattle.std.specs.Prelude.{ℕ, ◌+◌, ◌-◌, ◌≤◌, ◌<◌, false, List, [], ◌∷◌, ◌++◌, ◌≡◌, refl, length, take, set}
use Rattle.std.proofs.Common.{ap, ◌∙◌, arith, length-take, take_all, lt-ltb, le-ltb}
use Rattle.base.specs.PickLaws.{pick_true, pick_false}
use Rattle.page.specs.ThroughLaws.{through_append}
use Rattle.page.specs.KeptLaws.{Keeps, full_through, kept_through}
use Rattle.page.specs.Pieces.{piece_most, piece, said}
use Rattle.page.specs.PieceLaws.{said_piece}
use Rattle.page.specs.Pages.{page_most, column_after, put_byte, put, shown, placed, joined, joined_all}
use Rattle.page.specs.declared.Page.{Page}

pub put_append : (p : Page) (first then : List ℕ) → put p (first ++ then) ≡ put (put p first) then
unfolding put
put_append p first then = through_append put_byte p first then

pub put_none : (p : Page) → put p [] ≡ p
unfolding put
put_none p = refl

pub put_more : (p : Page) (c : ℕ) → p.count < page_most
    → put_byte p c
    ≡ record { bytes = set p.bytes p.count c; count = p.count + 1; column = column_after p.column c; first = false }
unfolding put_byte
put_more p c room = pick_true _ _ _ (lt-ltb p.count page_most room)

pub put_full : (p : Page) (c : ℕ) → page_most ≤ p.count → put_byte p c ≡ p
unfolding put_byte
put_full p c full = pick_false _ _ _ (le-ltb p.count page_most full)

page_keeps : Keeps put_byte (λ (p : Page). p.bytes) (λ (p : Page). p.count) page_most
page_keeps = record {
  bytes_more = λ p c room. ap (λ (q : Page). q.bytes) (put_more p c room);
  count_more = λ p c room. ap (λ (q : Page). q.count) (put_more p c room);
  full = put_full;
}

-- on a full page nothing is put
pub put_full_all : (p : Page) (words : List ℕ) → page_most ≤ p.count → put p words ≡ p
unfolding put
put_full_all p words full = full_through put_byte (λ (q : Page). q.bytes) (λ (q : Page). q.count) page_most page_keeps p words full

-- behind what stands on a page stands what was put, as far as there is room
pub shown_put : (p : Page) (words : List ℕ) → length p.bytes ≡ page_most → p.count ≤ page_most
    → shown (put p words) ≡ shown p ++ take (page_most - p.count) words
unfolding shown put
shown_put p words size few =
    kept_through put_byte (λ (q : Page). q.bytes) (λ (q : Page). q.count) page_most page_keeps p words size few

-- ---- a piece joins by its words

pub joined_piece : (p : Page) (words : List ℕ) → joined p (said (piece words)) ≡ joined p words
unfolding joined
joined_piece p words =
    let few : length (take piece_most words) ≤ piece_most = rw length-take (omega arith) in
    ap (placed p) (ap (take piece_most) (said_piece words) ∙ take_all piece_most (take piece_most words) few)

-- some pieces and then others are all of them
pub joined_all_lem : (p : Page) (first then : List (List ℕ)) → joined_all p (first ++ then) ≡ joined_all (joined_all p first) then
joined_all_lem p [] then = refl
joined_all_lem p (words ∷ first) then = joined_all_lem (joined p words) first then
