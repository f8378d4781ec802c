-- A page begins with its head, whatever is joined to it.
use Prim.Native.Nat.{ℕ, ◌-◌, ◌≤◌, ◌<◌}
use mathlib.Core.Bool.{◌&&◌}
use mathlib.Core.List.{List, [], ◌∷◌, ◌++◌}
use mathlib.Core.Path.{◌≡◌, refl, sym, ap, ◌∙◌}
use native.Mathlib.Omega.{arith}
use lib.Dec.{ltb, leb, eqb}
use lib.ListN.{length, take, length-append, length-take}
use lib.Seq.{take_all, take-take, take-set-le, take_at}
use Rattle.base.specs.PickLaws.{pick_either}
use Rattle.text.specs.Line.{space, newline}
use Rattle.page.specs.Pieces.{piece_most}
use Rattle.page.specs.Pages.{page_most, width, no_page, put_byte, put, shown, headed, indent, separation, fits, placed, joined, joined_all, ended}
use Rattle.page.specs.PageLaws.{shown_put}
use Rattle.page.specs.Notes.{plain, word_length, continuation, passed, note_byte, noted, commented}
use Rattle.page.specs.declared.Page.{Page}
use Rattle.page.specs.CountLaws.{head_count}

-- these bytes stand first
pub record Begins (l : List ℕ) (p : Page) : Type 0 where
  pub is : take (length l) p.bytes ≡ l
  pub few : length l ≤ p.count

module _ (l : List ℕ) where
  byte_begins : (p : Page) (c : ℕ) → Begins l p → Begins l (put_byte p c)
  unfolding put_byte
  byte_begins p c b =
      pick_either (Begins l) (ltb p.count page_most) _ p
      (record { is = take-set-le (length l) p.bytes p.count c b.few ∙ b.is; few = omega (arith, b.few) }) b

  put_begins : (p : Page) (words : List ℕ) → Begins l p → Begins l (put p words)
  unfolding put
  put_begins p [] b = b
  put_begins p (c ∷ words) b = put_begins (put_byte p c) words (byte_begins p c b)

  joined_begins : (p : Page) (words : List ℕ) → Begins l p → Begins l (joined p words)
  unfolding joined placed
  joined_begins p words b =
      pick_either (Begins l) (eqb (length (take piece_most words)) 0) p _ b
      (pick_either (Begins l) (fits p (take piece_most words)) _ _
      (put_begins (put p (separation p)) (take piece_most words) (put_begins p (separation p) b))
      (put_begins (put p indent) (take piece_most words) (put_begins p indent b)))

  all_begins : (p : Page) (pieces : List (List ℕ)) → Begins l p → Begins l (joined_all p pieces)
  all_begins p [] b = b
  all_begins p (words ∷ pieces) b = all_begins (joined p words) pieces (joined_begins p words b)

  note_begins : (p : Page) (c behind : ℕ) → Begins l p → Begins l (note_byte p c behind)
  unfolding note_byte
  note_begins p c behind b =
      pick_either (Begins l) (eqb (plain c) space && passed p behind) _ _ (put_begins p continuation b)
      (pick_either (Begins l) (leb width p.column) _ _
      (byte_begins (put p continuation) (plain c) (put_begins p continuation b)) (byte_begins p (plain c) b))

  noted_begins : (p : Page) (comment : List ℕ) → Begins l p → Begins l (noted p comment)
  unfolding noted
  noted_begins p [] b = b
  noted_begins p (c ∷ rest) b = noted_begins (note_byte p c (word_length rest)) rest (note_begins p c (word_length rest) b)

  commented_begins : (p : Page) (comment : List ℕ) → Begins l p → Begins l (commented p comment)
  unfolding commented
  commented_begins p comment b =
      pick_either (Begins l) (eqb (length comment) 0) p _ b (noted_begins (put p indent) comment (put_begins p indent b))

  ended_begins : (p : Page) → length l < page_most → Begins l p → Begins l (ended p)
  unfolding ended
  ended_begins p short b =
      pick_either (Begins l) (ltb p.count page_most) _ _ (byte_begins p newline b)
      (record { is = take-set-le (length l) p.bytes (page_most - 1) newline (omega arith) ∙ b.is; few = omega arith })

-- ---- the head

head_begins : (head : List ℕ) → length head < page_most → Begins head (headed head)
unfolding headed no_page shown
head_begins head short =
    let all : shown (put no_page head) ≡ head = shown_put no_page head refl (omega arith) ∙ take_all page_most head (omega arith) in
    let size : length (shown (put no_page head)) ≡ length head = ap length all in
    let enough : length head ≤ (put no_page head).count = omega (arith, size, length-take (put no_page head).count (put no_page head).bytes) in
    let same : (put no_page head).count ≡ length head = omega (arith, enough, head_count head) in
    record { is = ap (λ (n : ℕ). take n (put no_page head).bytes) (sym same) ∙ all; few = enough }

pub page_begins : (head : List ℕ) (pieces : List (List ℕ)) (comment : List ℕ) → length head < page_most
    → Begins head (ended (commented (joined_all (headed head) pieces) comment))
page_begins head pieces comment short =
    ended_begins head _ short (commented_begins head _ comment (all_begins head _ pieces (head_begins head short)))

-- what stands first in front of what stands first
pub shown_front : (front rest : List ℕ) (p : Page) → Begins (front ++ rest) p → take (length front) (shown p) ≡ front
unfolding shown
shown_front front rest p b =
    let few : length front ≤ p.count = omega (arith, b.few, length-append front rest) in
    take-take (length front) p.count p.bytes few
    ∙ sym (take-take (length front) (length (front ++ rest)) p.bytes (omega (arith, length-append front rest)))
    ∙ ap (take (length front)) b.is
    ∙ take_at front rest (length front) refl
