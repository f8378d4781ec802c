-- Marks, told of the characters that the queue holds: which are cleared, and when some character has one.
use Rattle.std.specs.Prelude.{ℕ, List, [], ◌∷◌, ◌++◌, map, true, false, not, ◌≡◌, refl, eqb, length, get_or, set, replicate}
use Rattle.std.proofs.Math.Bool.{or-true}
use Rattle.std.proofs.Common.{ap, ◌∙◌, ⊎_elim, eq-eqb, ne_eqb}
use Rattle.base.specs.PickLaws.{pick_true, pick_false, either_way}
use Rattle.queue.specs.declared.Character.{Character}
use Rattle.queue.specs.declared.Queue.{Queue}
use Rattle.queue.specs.Queue.{no_character, contents, oldest, plain, unmarked, any_marked, marked}
use Rattle.queue.proofs.QueueLaws.{holding, contents_of, unmark_oldest, unmark_none, marked_is}

abbrev pub data_of : List Character → List ℕ
data_of = map (λ ch. ch.«data»)

abbrev pub marks_of : List Character → List ℕ
marks_of = map (λ ch. ch.marks)

-- ---- which are cleared

first_unmarked : (slots : List Character) → (get_or (set slots 0 (plain (get_or slots 0 no_character))) 0 no_character).marks ≡ 0
first_unmarked [] = refl
first_unmarked (ch ∷ l) = refl

-- "the marks it showed" are cleared: the oldest of any queue shows none after
pub unmark_clears : (q : Queue) → (oldest (unmarked q)).marks ≡ 0
unfolding oldest unmarked
unmark_clears q =
    ⊎_elim
    (λ (none : eqb q.count 0 ≡ true). rw (pick_true _ _ _ none, pick_true _ _ _ none))
    (λ (some : eqb q.count 0 ≡ false). rw (pick_false _ _ _ some, pick_false _ _ _ some) (first_unmarked q.slots))
    (either_way (eqb q.count 0))

-- the others keep theirs
pub unmark_marks : (ch : Character) (l : List Character) → marks_of (contents (unmarked (holding (ch ∷ l)))) ≡ 0 ∷ marks_of l
unmark_marks ch l = ap (λ (q : Queue). marks_of (contents q)) (unmark_oldest ch l) ∙ ap marks_of (contents_of (plain ch ∷ l))

-- and every byte stays
pub unmark_data : (l : List Character) → data_of (contents (unmarked (holding l))) ≡ data_of l
unmark_data [] = ap (λ (q : Queue). data_of (contents q)) unmark_none
unmark_data (ch ∷ l) = ap (λ (q : Queue). data_of (contents q)) (unmark_oldest ch l) ∙ ap data_of (contents_of (plain ch ∷ l))

-- ---- when there is one

one_marked : (before : List Character) (ch : Character) (after : List Character) → (ch.marks ≡ 0 → ⊥) → any_marked (before ++ (ch ∷ after)) ≡ true
unfolding any_marked
one_marked [] ch after has = rw (ne_eqb _ _ has)
one_marked (b ∷ before) ch after has = rw (one_marked before ch after has) (or-true (not (eqb b.marks 0)))

-- "some queued character has a mark": one is enough, wherever it stands
pub marked_one : (before : List Character) (ch : Character) (after : List Character) → (ch.marks ≡ 0 → ⊥)
    → marked (holding (before ++ (ch ∷ after))) ≡ true
marked_one before ch after has = marked_is (before ++ (ch ∷ after)) ∙ one_marked before ch after has

none_marked : (l : List Character) → marks_of l ≡ replicate (length l) 0 → any_marked l ≡ false
unfolding any_marked
none_marked [] zeros = refl
none_marked (ch ∷ l) zeros =
    let here : ch.marks ≡ 0 = cc in
    let rest : marks_of l ≡ replicate (length l) 0 = cc in
    rw (eq-eqb _ _ here) (none_marked l rest)

-- and where the marks of all are 0 there is none
pub marked_none : (l : List Character) → marks_of l ≡ replicate (length l) 0 → marked (holding l) ≡ false
marked_none l zeros = marked_is l ∙ none_marked l zeros
