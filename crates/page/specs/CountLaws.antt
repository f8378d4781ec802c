-- How many bytes a page has at most: none is left out where its pieces are few.
use Rattle.std.specs.Prelude.{ℕ, ◌+◌, ◌*◌, ◌≤◌, List, [], ◌∷◌, ltb, eqb, length, take}
use Rattle.std.proofs.Common.{arith, length-take}
use Rattle.base.specs.PickLaws.{pick_either}
use Rattle.text.specs.Quoted.{quoted}
use Rattle.page.specs.Pieces.{piece_most}
use Rattle.page.specs.Pages.{page_most, no_page, put_byte, put, headed, indent, separation, fits, placed, joined, joined_all}
use Rattle.page.specs.declared.Page.{Page}

abbrev AtMost : ℕ → Page → Type 0
AtMost n p = p.count ≤ n

byte_count : (p : Page) (c : ℕ) → (put_byte p c).count ≤ p.count + 1
unfolding put_byte
byte_count p c = pick_either (AtMost (p.count + 1)) (ltb p.count page_most) _ _ (omega arith) (omega arith)

pub put_count : (p : Page) (words : List ℕ) → (put p words).count ≤ p.count + length words
unfolding put
put_count p [] = omega arith
put_count p (c ∷ words) = omega (arith, put_count (put_byte p c) words, byte_count p c)

separation_count : (p : Page) → length (separation p) ≤ 2
unfolding separation
separation_count p = pick_either (λ (l : List ℕ). length l ≤ 2) p.first [] (quoted "; ") (omega arith) (omega arith)

placed_count : (p : Page) (words : List ℕ) → (placed p words).count ≤ p.count + (13 + length words)
unfolding placed
placed_count p words =
    pick_either (AtMost (p.count + (13 + length words))) (eqb (length words) 0) _ _ (omega arith)
    (pick_either (AtMost (p.count + (13 + length words))) (fits p words) _ _
    (omega (arith, put_count (put p (separation p)) words, put_count p (separation p), separation_count p))
    (omega (arith, put_count (put p indent) words, put_count p indent)))

-- a piece of 68 bytes on a new line, behind 12 blanks
pub joined_count : (p : Page) (words : List ℕ) → (joined p words).count ≤ p.count + 81
unfolding joined
joined_count p words =
    let few : length (take piece_most words) ≤ piece_most = rw length-take (omega arith) in omega (arith, few, placed_count p (take piece_most words))

pub all_count : (p : Page) (pieces : List (List ℕ)) → (joined_all p pieces).count ≤ p.count + 81 * length pieces
all_count p [] = omega arith
all_count p (words ∷ pieces) = omega (arith, all_count (joined p words) pieces, joined_count p words)

pub head_count : (head : List ℕ) → (headed head).count ≤ length head
unfolding headed no_page
head_count head = omega (arith, put_count no_page head)
