-- A page of a head, pieces and a comment fits a terminal.
use Rattle.std.specs.Prelude.{ℕ, zero, suc, ◌+◌, ◌-◌, ◌≤◌, ◌<◌, Bool, true, false, not, ◌&&◌, List, [], ◌∷◌, ◌++◌, ◌≡◌, refl, ltb, leb, eqb, length, replicate}
use Rattle.std.proofs.Common.{inl, inr, ⊎_elim, sym, ◌∙◌, arith, length-take, take_all, lt-ltb, le-ltb, ltb-true, ltb-false, leb-true, leb-false}
use Rattle.std.proofs.Math.Path.{ap}
use Rattle.std.proofs.Math.ListN.{take}
use Rattle.std.proofs.Math.Seq.{take-suc-set}
use Rattle.std.proofs.lemmas.Bool.{eqb-false}
use Rattle.base.specs.Pick.{pick}
use Rattle.base.specs.PickLaws.{pick_true, pick_false, pick_either, pick_cases, either_way, both_hold, not_true}
use Rattle.text.specs.Line.{newline, space}
use Rattle.text.specs.Quoted.{quoted}
use Rattle.page.specs.Pieces.{piece_most}
use Rattle.page.specs.Pages.{page_most, width, no_page, put_byte, put, shown, headed, indent, separation, fits, placed, joined, joined_all, ended}
use Rattle.page.specs.Notes.{plain, word_length, continuation, passed, note_byte, noted, commented}
use Rattle.page.specs.Columns.{keeps, OneLine, AllOneLine, FitsTerminal}
use Rattle.page.specs.ColumnLaws.{column_behind, keeps_more, Stands, Left, shown_byte, byte_stands, line_stands, feed_stands}
use Rattle.page.specs.declared.Page.{Page}

-- ---- the head

none_stands_lem : Stands no_page
unfolding no_page shown column_behind keeps
none_stands_lem = record { size = refl; few = omega arith; column = refl; inside = omega arith; keeps = refl }

none_left : (n : ℕ) → n ≤ width → Left no_page n
unfolding no_page
none_left n h = inr (omega arith)

pub head_stands : (head : List ℕ) → OneLine head → length head ≤ width → Stands (headed head)
unfolding headed shown
head_stands head one short =
    let s : Stands (put no_page head) = (line_stands no_page head 0 none_stands_lem one (none_left (length head + 0) (omega arith))).0 in
    record { size = s.size; few = s.few; column = s.column; inside = s.inside; keeps = s.keeps }

-- ---- a piece

-- a text that computes has one line where none ends in it
abbrev pub no_feed : List ℕ → Bool
no_feed [] = true
no_feed (c ∷ rest) = not (eqb c newline) && no_feed rest

pub one_line : (words : List ℕ) → no_feed words ≡ true → OneLine words
one_line [] none = tt
one_line (c ∷ words) none =
    let both : _ = both_hold (not (eqb c newline)) (no_feed words) none in
    (eqb-false c newline (not_true (eqb c newline) both.0), one_line words both.1)

one_line_take : (n : ℕ) (words : List ℕ) → OneLine words → OneLine (take n words)
one_line_take zero words one = tt
one_line_take (suc n) [] one = tt
one_line_take (suc n) (c ∷ words) one = (one.0, one_line_take n words one.1)

separation_one : (p : Page) → OneLine (separation p)
unfolding separation
separation_one p = pick_either OneLine p.first [] (quoted "; ") tt (one_line (quoted "; ") refl)

less : (p : Page) (m n : ℕ) → Left p m → n ≤ m → Left p n
less p m n (inl full) h = inl full
less p m n (inr room) h = inr (omega arith)

-- bytes on a new line that begins with these
new_line : (p : Page) (front words : List ℕ) (n : ℕ) → Stands p → OneLine front → OneLine words → length front + (length words + n) ≤ width
    → Stands (put (put p (newline ∷ front)) words) × Left (put (put p (newline ∷ front)) words) n
unfolding put
new_line p front words n s one-front one-words short =
    let fed : _ = feed_stands p s in
    let front-put : _ = line_stands (put_byte p newline) front (length words + n) fed.0 one-front (less (put_byte p newline) width (length front + (length words + n)) fed.1 short) in
    line_stands (put (put_byte p newline) front) words n front-put.0 one-words front-put.1

indent_one : OneLine (replicate 12 space)
indent_one = one_line (replicate 12 space) refl

placed_stands : (p : Page) (words : List ℕ) → Stands p → OneLine words → length words ≤ piece_most → Stands (placed p words)
unfolding placed fits
placed_stands p words s one short =
    pick_cases Stands (eqb (length words) 0) _ _ (λ t. s)
    (λ f.
    pick_cases Stands (leb (p.column + length (separation p) + length words) width) _ _
    (λ t.
    let room : p.column + length (separation p) + length words ≤ width = leb-true _ _ t in
    let between : _ = line_stands p (separation p) (length words + 0) s (separation_one p) (inr (omega arith)) in
    (line_stands (put p (separation p)) words 0 between.0 one between.1).0)
    (λ g. (new_line p (replicate 12 space) words 0 s indent_one one (omega arith)).0))

pub joined_stands : (p : Page) (words : List ℕ) → Stands p → OneLine words → Stands (joined p words)
unfolding joined
joined_stands p words s one =
    let few : length (take piece_most words) ≤ piece_most = rw length-take (omega arith) in
    placed_stands p (take piece_most words) s (one_line_take piece_most words one) few

pub all_stand : (p : Page) (pieces : List (List ℕ)) → Stands p → AllOneLine pieces → Stands (joined_all p pieces)
all_stand p [] s all = s
all_stand p (words ∷ pieces) s all = all_stand (joined p words) pieces (joined_stands p words s all.0) all.1

-- ---- a comment

plain_one : (c : ℕ) → plain c ≡ newline → ⊥
unfolding plain
plain_one c =
    pick_cases (λ (n : ℕ). n ≡ newline → ⊥) (ltb c 0x20) _ _ (λ t e. omega arith)
    (λ f.
    let high : 0x20 ≤ c = ltb-false c 0x20 f in
    pick_cases (λ (n : ℕ). n ≡ newline → ⊥) (eqb c 0x7F) _ _ (λ t e. omega arith) (λ g e. omega arith))

-- what a new line of a comment begins with
abbrev mark : List ℕ
mark = replicate 12 space ++ quoted "# "

continued_stands : (p : Page) (words : List ℕ) (n : ℕ) → Stands p → OneLine words → length words + n ≤ 66
    → Stands (put (put p continuation) words) × Left (put (put p continuation) words) n
continued_stands p words n s one short = new_line p mark words n s (one_line mark refl) one (omega arith)

note_stands : (p : Page) (c behind : ℕ) → Stands p → Stands (note_byte p c behind)
unfolding note_byte put
note_stands p c behind s =
    pick_cases Stands (eqb (plain c) space && passed p behind) _ _
    (λ t. (continued_stands p [] 0 s tt (omega arith)).0)
    (λ f.
    pick_cases Stands (leb width p.column) _ _
    (λ t. (continued_stands p (plain c ∷ []) 0 s (plain_one c, tt) (omega arith)).0)
    (λ g. byte_stands p (plain c) s (λ o. leb-false _ _ g)))

noted_stands : (p : Page) (comment : List ℕ) → Stands p → Stands (noted p comment)
unfolding noted
noted_stands p [] s = s
noted_stands p (c ∷ rest) s = noted_stands (note_byte p c (word_length rest)) rest (note_stands p c (word_length rest) s)

pub commented_stands : (p : Page) (comment : List ℕ) → Stands p → Stands (commented p comment)
unfolding commented put
commented_stands p comment s =
    pick_cases Stands (eqb (length comment) 0) _ _ (λ t. s)
    (λ f. noted_stands (put p indent) comment (new_line p (replicate 12 space) [] 0 s indent_one tt (omega arith)).0)

-- ---- the last line feed

keeps_front : (column n : ℕ) (l : List ℕ) → keeps column l ≡ true → keeps column (take n l) ≡ true
unfolding keeps
keeps_front column zero l k = refl
keeps_front column (suc n) [] k = refl
keeps_front column (suc n) (c ∷ l) k =
    ⊎_elim
    (λ (t : eqb c newline ≡ true). pick_true _ _ _ t ∙ keeps_front 0 n l (sym (pick_true _ _ _ t) ∙ k))
    (λ (f : eqb c newline ≡ false).
    let both : _ = both_hold (ltb column width) (keeps (column + 1) l) (sym (pick_false _ _ _ f) ∙ k) in
    pick_false _ _ _ f ∙ rw both.0 (keeps_front (column + 1) n l both.1))
    (either_way (eqb c newline))

-- what stands on an ended page: some bytes, and the line feed
pub record Ending (p : Page) : Type 0 where
  pub front : List ℕ
  pub is : shown (ended p) ≡ front ++ (newline ∷ [])
  pub keeps : keeps 0 front ≡ true

module _ (p : Page) (s : Stands p) where
  room_ending : p.count < page_most → Ending p
  unfolding ended
  room_ending room = record {
    front = shown p;
    is = ap shown (pick_true _ _ _ (lt-ltb p.count page_most room)) ∙ shown_byte p newline s room;
    keeps = s.keeps;
  }

  full_ending : page_most ≤ p.count → Ending p
  unfolding ended shown
  full_ending full = record {
    front = take (page_most - 1) p.bytes;
    is =
        ap shown (pick_false _ _ _ (le-ltb p.count page_most full))
        ∙ take-suc-set p.bytes (page_most - 1) newline (omega (arith, s.size));
    keeps =
        keeps_front 0 (page_most - 1) p.bytes
        (ap (keeps 0) (sym (take_all p.count p.bytes (omega (arith, s.size)))) ∙ s.keeps);
  }

  pub ending : Ending p
  ending =
      ⊎_elim
      (λ (t : ltb p.count page_most ≡ true). room_ending (ltb-true p.count page_most t))
      (λ (f : ltb p.count page_most ≡ false). full_ending (ltb-false p.count page_most f))
      (either_way (ltb p.count page_most))

  pub ended_keeps : keeps 0 (shown (ended p)) ≡ true
  ended_keeps =
      let e : Ending p = ending in
      ap (keeps 0) e.is ∙ keeps_more newline 0 e.front e.keeps (λ other. absurd (other refl))

pub fits_terminal : FitsTerminal
fits_terminal head pieces comment one short all =
    ended_keeps _ (commented_stands _ comment (all_stand _ pieces (head_stands head one short) all))

uncommented : (p : Page) → commented p [] ≡ p
unfolding commented pick
uncommented p = refl

-- so does one without a comment
pub pieces_fit_terminal : (head : List ℕ) (pieces : List (List ℕ)) → OneLine head → length head ≤ width → AllOneLine pieces
    → keeps 0 (shown (ended (joined_all (headed head) pieces))) ≡ true
pieces_fit_terminal head pieces one short all =
    ap (λ (p : Page). keeps 0 (shown (ended p))) (sym (uncommented (joined_all (headed head) pieces))) ∙ fits_terminal head pieces [] one short all
