-- The queue facts, once over the capacity, and at the two capacities of a channel: 1 and 16.
use Rattle.std.specs.Prelude.{ℕ, zero, suc, ◌+◌, ◌<◌, ◌≤◌, List, [], ◌∷◌, ◌++◌, true, false, ◌≡◌, refl, ltb, length}
use Rattle.std.proofs.Common.{ap, sym, subst, ◌∙◌, ⊎_elim, arith, length-append, ltb-true, ltb-false}
use Rattle.base.specs.PickLaws.{either_way}
use Rattle.queue.specs.declared.Character.{Character}
use Rattle.queue.specs.declared.Queue.{Queue}
use Rattle.queue.specs.Queue.{empty_queue, contents, entered, replaced, taken, unmarked, plain, canonical}
use Rattle.queue.proofs.QueueLaws.{holding, contents_of, enter_room, enter_full, take_oldest, take_none, replace_newest, replace_none, unmark_oldest, unmark_none}
use Rattle.queue.proofs.CanonicalLaws.{holds, holding_canonical, contents_determine}

-- the characters of so many takes, in order
abbrev pub drained : ℕ → Queue → List Character
drained zero q = []
drained (suc n) q = (taken q).character ∷ drained n (taken q).queue

-- first in, first out
pub in_order : (l : List Character) → length l ≤ 16 → drained (length l) (holding l) ≡ l
in_order [] fits = refl
in_order (ch ∷ l) fits =
    subst (λ t. t.character ∷ drained (length l) t.queue ≡ ch ∷ l) (sym (take_oldest ch l fits))
    (ap (λ (r : List Character). ch ∷ r) (in_order l (omega arith)))

-- "Queue facts are shown once over the capacity, for 1 and 16"
pub record Facts (capacity : ℕ) : Type 0 where
  pub none_queued_lem : canonical capacity empty_queue ≡ true
  pub room : (l : List Character) (ch : Character) → length l < capacity
      → entered (holding l) capacity ch ≡ record { queue = holding (l ++ (ch ∷ [])); full = false }
  pub full : (l : List Character) (ch : Character) → length l ≡ capacity → entered (holding l) capacity ch ≡ record { queue = holding l; full = true }
  pub last_out : (l : List Character) (ch : Character) → length l < capacity
      → drained (length l + 1) (entered (holding l) capacity ch).queue ≡ l ++ (ch ∷ [])
  pub counted : (q : Queue) → canonical capacity q ≡ true → (q.count ≡ length (contents q)) × (q.count ≤ capacity)
  pub determined : (p q : Queue) → canonical capacity p ≡ true → canonical capacity q ≡ true → contents p ≡ contents q → p ≡ q
  pub kept_entering : (q : Queue) (ch : Character) → canonical capacity q ≡ true → canonical capacity (entered q capacity ch).queue ≡ true
  pub kept_replacing : (q : Queue) (ch : Character) → canonical capacity q ≡ true → canonical capacity (replaced q ch) ≡ true
  pub kept_taking : (q : Queue) → canonical capacity q ≡ true → canonical capacity (taken q).queue ≡ true
  pub kept_unmarking : (q : Queue) → canonical capacity q ≡ true → canonical capacity (unmarked q) ≡ true

-- a list with a character in it, as the newest behind the others
record Newest (l : List Character) : Type 0 where
  others : List Character
  last : Character
  same : l ≡ others ++ (last ∷ [])

newest : (ch : Character) (l : List Character) → Newest (ch ∷ l)
newest ch [] = record { others = []; last = ch; same = refl }
newest ch (next ∷ l) =
    let n = newest next l in
    record { others = ch ∷ n.others; last = n.last; same = ap (λ (r : List Character). ch ∷ r) n.same }

-- what every call keeps of a queue that holds a list, it keeps of a canonical queue
through : (capacity : ℕ) (f : Queue → Queue)
    → ((l : List Character) → length l ≤ capacity → length l ≤ 16 → canonical capacity (f (holding l)) ≡ true)
    → (q : Queue) → canonical capacity q ≡ true → canonical capacity (f q) ≡ true
through capacity f kept q e =
    let h = holds capacity q e in
    ap (λ (p : Queue). canonical capacity (f p)) h.same ∙ kept h.list h.within h.fits

module _ (capacity : ℕ) (small : capacity ≤ 16) where
  entering : (ch : Character) (l : List Character) → length l ≤ capacity → length l ≤ 16 → canonical capacity (entered (holding l) capacity ch).queue ≡ true
  entering ch l within fits =
      ⊎_elim
      (λ (e : ltb (length l) capacity ≡ true).
      let less : length l < capacity = ltb-true _ _ e in
      ap (λ p. canonical capacity p.queue) (enter_room capacity small l ch less)
      ∙ holding_canonical capacity (l ++ (ch ∷ [])) (omega (arith, length-append l (ch ∷ []))) (omega (arith, length-append l (ch ∷ []))))
      (λ (e : ltb (length l) capacity ≡ false).
      let more : capacity ≤ length l = ltb-false _ _ e in
      ap (λ p. canonical capacity p.queue) (enter_full capacity small l ch more) ∙ holding_canonical capacity l within fits)
      (either_way (ltb (length l) capacity))

  taking : (l : List Character) → length l ≤ capacity → length l ≤ 16 → canonical capacity (taken (holding l)).queue ≡ true
  taking [] within fits = ap (λ t. canonical capacity t.queue) take_none ∙ holding_canonical capacity [] within fits
  taking (ch ∷ l) within fits =
      ap (λ t. canonical capacity t.queue) (take_oldest ch l fits) ∙ holding_canonical capacity l (omega arith) (omega arith)

  unmarking : (l : List Character) → length l ≤ capacity → length l ≤ 16 → canonical capacity (unmarked (holding l)) ≡ true
  unmarking [] within fits = ap (canonical capacity) unmark_none ∙ holding_canonical capacity [] within fits
  unmarking (ch ∷ l) within fits = ap (canonical capacity) (unmark_oldest ch l) ∙ holding_canonical capacity (plain ch ∷ l) within fits

  replacing : (ch : Character) (l : List Character) → length l ≤ capacity → length l ≤ 16 → canonical capacity (replaced (holding l) ch) ≡ true
  replacing ch [] within fits = ap (canonical capacity) (replace_none ch) ∙ holding_canonical capacity [] within fits
  replacing ch (old ∷ l) within fits =
      let n = newest old l in
      let m = ap length n.same ∙ length-append n.others (n.last ∷ []) in
      ap (λ (r : List Character). canonical capacity (replaced (holding r) ch)) n.same
      ∙ ap (canonical capacity) (replace_newest n.others n.last ch (omega (arith, m)))
      ∙ holding_canonical capacity (n.others ++ (ch ∷ [])) (omega (arith, m, length-append n.others (ch ∷ [])))
      (omega (arith, m, length-append n.others (ch ∷ [])))

  last_behind : (l : List Character) (ch : Character) → length l < capacity
      → drained (length l + 1) (entered (holding l) capacity ch).queue ≡ l ++ (ch ∷ [])
  last_behind l ch less =
      ap (λ p. drained (length l + 1) p.queue) (enter_room capacity small l ch less)
      ∙ ap (λ (n : ℕ). drained n (holding (l ++ (ch ∷ [])))) (sym (length-append l (ch ∷ [])))
      ∙ in_order (l ++ (ch ∷ [])) (omega (arith, length-append l (ch ∷ [])))

  within_count : (q : Queue) → canonical capacity q ≡ true → (q.count ≡ length (contents q)) × (q.count ≤ capacity)
  within_count q e =
      let h = holds capacity q e in
      let counted : q.count ≡ length h.list = ap (λ (p : Queue). p.count) h.same in
      (counted ∙ ap length (sym (contents_of h.list) ∙ ap contents (sym h.same)), omega (arith, counted, h.within))

  pub facts : Facts capacity
  facts =
      record {
        none_queued_lem = holding_canonical capacity [] (omega arith) (omega arith);
        room = λ l ch less. enter_room capacity small l ch less;
        full = λ l ch e. enter_full capacity small l ch (omega arith);
        last_out = last_behind;
        counted = within_count;
        determined = contents_determine capacity;
        kept_entering = λ q ch. through capacity (λ p. (entered p capacity ch).queue) (entering ch) q;
        kept_replacing = λ q ch. through capacity (λ p. replaced p ch) (replacing ch) q;
        kept_taking = through capacity (λ p. (taken p).queue) taking;
        kept_unmarking = through capacity unmarked unmarking;
      }

-- 16450 mode
pub facts_1 : Facts 1
facts_1 = facts 1 (omega arith)

-- FIFO mode
pub facts_16 : Facts 16
facts_16 = facts 16 (omega arith)
