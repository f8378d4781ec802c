-- The canonical form: zero past the count. It is kept by every call, and with it the contents determine the queue.
use Rattle.std.specs.Prelude.{ℕ, zero, suc, ◌-◌, ◌≤◌, List, [], ◌∷◌, ◌++◌, true, ◌&&◌, ◌≡◌, refl, length, drop, replicate, leb, eqb}
use Rattle.std.proofs.Common.{ap, sym, ◌∙◌, arith, length-append, length-drop, take-append-drop, length-take-le, le-leb, eq-eqb, leb-true, eqb-true}
use Rattle.std.proofs.lemmas.List.{length-replicate}
use Rattle.std.proofs.Math.Seq.{drop-append_seam}
use Rattle.base.specs.PickLaws.{both_hold}
use Rattle.queue.specs.declared.Character.{Character}
use Rattle.queue.specs.declared.Queue.{Queue}
use Rattle.queue.specs.Queue.{no_character, contents, clear, canonical}
use Rattle.queue.proofs.QueueLaws.{holding, contents_of}

clear_zeros : (n : ℕ) → clear (replicate n no_character) ≡ true
unfolding clear
clear_zeros zero = refl
clear_zeros (suc n) = clear_zeros n

zeros_clear : (l : List Character) → clear l ≡ true → l ≡ replicate (length l) no_character
unfolding clear
zeros_clear [] e = refl
zeros_clear (ch ∷ l) e =
    let all = both_hold (eqb ch.«data» 0 && eqb ch.marks 0) (clear l) e in
    let zero-slot = both_hold (eqb ch.«data» 0) (eqb ch.marks 0) all.0 in
    λ i. record { «data» = eqb-true ch.«data» 0 zero-slot.0 i; marks = eqb-true ch.marks 0 zero-slot.1 i } ∷ zeros_clear l all.1 i

-- a queue that holds a list within the capacity is canonical
pub holding_canonical : (capacity : ℕ) (l : List Character) → length l ≤ capacity → length l ≤ 16 → canonical capacity (holding l) ≡ true
unfolding canonical
holding_canonical capacity l within fits =
    let all : length (l ++ replicate (16 - length l) no_character) ≡ 16 = simp (length-append, length-replicate) (omega arith) in
    let rest : drop (length l) (l ++ replicate (16 - length l) no_character) ≡ replicate (16 - length l) no_character = drop-append_seam l _ in
    rw (eq-eqb _ _ all, le-leb _ _ fits, le-leb _ _ within, rest) (clear_zeros (16 - length l))

-- what a canonical queue is: it holds a list within the capacity
pub record Holds (capacity : ℕ) (q : Queue) : Type 0 where
  pub list : List Character
  pub same : q ≡ holding list
  pub within : length list ≤ capacity
  pub fits : length list ≤ 16

pub holds : (capacity : ℕ) (q : Queue) → canonical capacity q ≡ true → Holds capacity q
unfolding canonical
holds capacity q e =
    let n = q.count in
    let three = both_hold (eqb (length q.slots) 16 && leb n 16 && leb n capacity) (clear (drop n q.slots)) e in
    let two = both_hold (eqb (length q.slots) 16 && leb n 16) (leb n capacity) three.0 in
    let one = both_hold (eqb (length q.slots) 16) (leb n 16) two.0 in
    let long : length q.slots ≡ 16 = eqb-true _ _ one.0 in
    let fits : n ≤ 16 = leb-true _ _ one.1 in
    let within : n ≤ capacity = leb-true _ _ two.1 in
    let held : length (contents q) ≡ n = length-take-le n q.slots (omega arith) in
    let left : length (drop n q.slots) ≡ 16 - n = length-drop n q.slots ∙ ap (λ (k : ℕ). k - n) long in
    let zeros : drop n q.slots ≡ replicate (16 - length (contents q)) no_character
    = zeros_clear (drop n q.slots) three.1 ∙ ap (λ (k : ℕ). replicate k no_character) (left ∙ ap (λ (k : ℕ). 16 - k) (sym held)) in
    record {
      list = contents q;
      same = λ i. record { slots = (sym (take-append-drop n q.slots) ∙ ap (λ (r : List Character). contents q ++ r) zeros) i; count = sym held i };
      within = omega arith;
      fits = omega arith;
    }

-- two canonical queues that hold the same characters are equal
pub contents_determine : (capacity : ℕ) (p q : Queue) → canonical capacity p ≡ true → canonical capacity q ≡ true → contents p ≡ contents q → p ≡ q
contents_determine capacity p q cp cq e =
    let hp = holds capacity p cp in
    let hq = holds capacity q cq in
    let lists : hp.list ≡ hq.list
    = sym (contents_of hp.list) ∙ ap contents (sym hp.same) ∙ e ∙ ap contents hq.same ∙ contents_of hq.list in
    hp.same ∙ ap holding lists ∙ sym hq.same
