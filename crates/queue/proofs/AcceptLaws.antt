-- One character more, in both modes: in terms of the list that the queue holds.
use Rattle.std.specs.Prelude.{◌<◌, ◌≤◌, min, List, [], ◌∷◌, ◌++◌, Bool, true, false, ◌≡◌, refl, ltb, eqb, length}
use Rattle.std.proofs.Common.{ap₂, sym, subst, ◌∙◌, ⊎_elim, arith, length-append, lt-ltb, le-ltb, ltb-true, ltb-false, ne_eqb}
use Rattle.base.specs.Pick.{pick}
use Rattle.base.specs.PickLaws.{pick_true, pick_false, pick_same, pick_either, pick_through, either_way}
use Rattle.queue.specs.declared.Character.{Character}
use Rattle.queue.specs.declared.Queue.{Queue}
use Rattle.queue.specs.declared.Put.{Put}
use Rattle.queue.specs.Queue.{room, capacity, accepted, canonical}
use Rattle.queue.proofs.QueueLaws.{holding, room_left, enter_room, replace_newest}
use Rattle.queue.proofs.FactsLaws.{Facts, facts_1, facts_16}

pub capacity_small : (fifo : Bool) → capacity fifo ≤ 16
unfolding capacity pick
capacity_small true = omega arith
capacity_small false = omega arith

pub facts_of : (fifo : Bool) → Facts (capacity fifo)
unfolding capacity pick
facts_of true = facts_16
facts_of false = facts_1

module _ (fifo : Bool) (l : List Character) (ch : Character) where
  has_room : length l < capacity fifo → room (holding l) (capacity fifo) ≡ true
  has_room less = room_left (capacity fifo) l ∙ lt-ltb (length l) (min (capacity fifo) 16) (omega (arith, capacity_small fifo))

  no_room : capacity fifo ≤ length l → room (holding l) (capacity fifo) ≡ false
  no_room more = room_left (capacity fifo) l ∙ le-ltb (length l) (min (capacity fifo) 16) (omega arith)

  -- room: behind the others
  pub accept_room : length l < capacity fifo → accepted fifo (holding l) ch ≡ record { queue = holding (l ++ (ch ∷ [])); full = false }
  unfolding accepted
  accept_room less = pick_true _ _ _ (has_room less) ∙ enter_room (capacity fifo) (capacity_small fifo) l ch less

full_16450 : capacity false ≤ 1
unfolding capacity pick
full_16450 = omega arith

-- full in FIFO mode: the queue stays
pub accept_lost : (l : List Character) (ch : Character) → 16 ≤ length l → accepted true (holding l) ch ≡ record { queue = holding l; full = true }
unfolding accepted
accept_lost l ch more =
    pick_false _ _ _ (no_room true l ch (omega (arith, capacity_small true))) ∙ pick_true _ _ _ refl

-- full in 16450 mode: the new one stands in the old one's place
pub accept_replaced : (old ch : Character) → accepted false (holding (old ∷ [])) ch ≡ record { queue = holding (ch ∷ []); full = true }
unfolding accepted
accept_replaced old ch =
    pick_false _ _ _ (no_room false (old ∷ []) ch full_16450) ∙ pick_false _ _ _ refl
    ∙ (λ i. record { queue = replace_newest [] old ch (omega arith) i; full = true })

-- the canonical form is kept in both modes
pub kept_accepting : (fifo : Bool) (q : Queue) (ch : Character) → canonical (capacity fifo) q ≡ true → canonical (capacity fifo) (accepted fifo q ch).queue ≡ true
unfolding accepted
kept_accepting fifo q ch e =
    pick_through (λ (p : Put). canonical (capacity fifo) p.queue) (room q (capacity fifo)) _ _
    ∙ ap₂ (pick (room q (capacity fifo))) ((facts_of fifo).kept_entering q ch e)
    (pick_through (λ (p : Put). canonical (capacity fifo) p.queue) fifo _ _
    ∙ ap₂ (pick fifo) e ((facts_of fifo).kept_replacing q ch e) ∙ pick_same fifo true)
    ∙ pick_same (room q (capacity fifo)) true

-- what holds of each of the three outcomes holds of every acceptance
pub accept_cases : (fifo : Bool) (l : List Character) (ch : Character) (P : Put → Type 0) → length l ≤ capacity fifo
    → (length l < capacity fifo → P (record { queue = holding (l ++ (ch ∷ [])); full = false }))
    → (capacity fifo ≤ length l → fifo ≡ true → P (record { queue = holding l; full = true }))
    → ((old : Character) → capacity fifo ≤ length l → fifo ≡ false → l ≡ old ∷ [] → P (record { queue = holding (ch ∷ []); full = true }))
    → P (accepted fifo (holding l) ch)
unfolding capacity pick
accept_cases true l ch P within room lost instead =
    ⊎_elim
    (λ (e : ltb (length l) 16 ≡ true).
    let less : length l < 16 = ltb-true _ _ e in
    subst P (sym (accept_room true l ch less)) (room less))
    (λ (e : ltb (length l) 16 ≡ false).
    let more : 16 ≤ length l = ltb-false _ _ e in
    subst P (sym (accept_lost l ch more)) (lost more refl))
    (either_way (ltb (length l) 16))
accept_cases false [] ch P within room lost instead =
    let less : 0 < 1 = omega arith in
    subst P (sym (accept_room false [] ch less)) (room less)
accept_cases false (old ∷ []) ch P within room lost instead =
    subst P (sym (accept_replaced old ch)) (instead old (omega arith) refl refl)
accept_cases false (old ∷ next ∷ l) ch P within room lost instead = absurd (omega arith)

-- so a queue that was offered a character is not empty, whether it found room or not
pub accept_some : (fifo : Bool) (l : List Character) (ch : Character) → length l ≤ capacity fifo → eqb (accepted fifo (holding l) ch).queue.count 0 ≡ false
unfolding capacity
accept_some fifo l ch within =
    let some : 0 < capacity fifo = pick_either (λ n. 0 < n) fifo 16 1 (omega arith) (omega arith) in
    accept_cases fifo l ch (λ (p : Put). eqb p.queue.count 0 ≡ false) within
    (λ less. ne_eqb _ _ (λ (e : length (l ++ (ch ∷ [])) ≡ 0). omega (arith, length-append l (ch ∷ []))))
    (λ more on. ne_eqb _ _ (λ (e : length l ≡ 0). omega (arith, more)))
    (λ old more off one. ne_eqb _ _ (λ (e : 1 ≡ 0). omega arith))
