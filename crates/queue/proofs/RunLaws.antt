-- One character after another, from an empty queue: what is held in the end, and how many were told that the queue is full.
use Rattle.std.specs.Prelude.{ℕ, ◌+◌, ◌-◌, ◌<◌, ◌≤◌, List, [], ◌∷◌, ◌++◌, Bool, true, false, ◌≡◌, refl, ltb, length, take}
use Rattle.std.proofs.Common.{append-nil, ap, sym, ◌∙◌, ⊎_elim, arith, length-append, take_all, ltb-true, ltb-false}
use Rattle.std.proofs.Math.Seq.{append_snoc}
use Rattle.std.proofs.lemmas.List.{take-append-le}
use Rattle.base.specs.Pick.{pick}
use Rattle.base.specs.PickLaws.{either_way}
use Rattle.queue.specs.declared.Character.{Character}
use Rattle.queue.specs.declared.Queue.{Queue}
use Rattle.queue.specs.declared.Put.{Put}
use Rattle.queue.specs.Queue.{empty_queue, capacity, accepted}
use Rattle.queue.proofs.QueueLaws.{holding}
use Rattle.queue.proofs.AcceptLaws.{accept_room, accept_lost, accept_replaced}

-- the queue after these characters
abbrev pub accepted_all : Bool → Queue → List Character → Queue
accepted_all fifo q [] = q
accepted_all fifo q (ch ∷ l) = accepted_all fifo (accepted fifo q ch).queue l

-- how many of them found it full
abbrev pub found_full : Bool → Queue → List Character → ℕ
found_full fifo q [] = 0
found_full fifo q (ch ∷ l) = pick (accepted fifo q ch).full 1 0 + found_full fifo (accepted fifo q ch).queue l

-- ---- FIFO mode

fifo_run : (k l : List Character) → length k ≤ 16
    → (accepted_all true (holding k) l ≡ holding (take 16 (k ++ l))) × (found_full true (holding k) l ≡ length k + length l - 16)
unfolding capacity pick
fifo_run k [] fits = (ap holding (sym (ap (take 16) (append-nil k) ∙ take_all 16 k fits)), omega arith)
fifo_run k (ch ∷ l) fits =
    ⊎_elim
    (λ (e : ltb (length k) 16 ≡ true).
    let less : length k < 16 = ltb-true _ _ e in
    let one = accept_room true k ch less in
    let n = length-append k (ch ∷ []) in
    let rest = fifo_run (k ++ (ch ∷ [])) l (omega (arith, n)) in (
      ap (λ (p : Put). accepted_all true p.queue l) one ∙ rest.0 ∙ ap (λ (r : List Character). holding (take 16 r)) (append_snoc k ch l),
      ap (λ (p : Put). pick p.full 1 0 + found_full true p.queue l) one ∙ omega (arith, n, rest.1),
    ))
    (λ (e : ltb (length k) 16 ≡ false).
    let more : 16 ≤ length k = ltb-false _ _ e in
    let lost = accept_lost k ch more in
    let rest = fifo_run k l fits in (
      ap (λ (p : Put). accepted_all true p.queue l) lost ∙ rest.0
          ∙ ap holding (take-append-le 16 k l more ∙ sym (take-append-le 16 k (ch ∷ l) more)),
      ap (λ (p : Put). pick p.full 1 0 + found_full true p.queue l) lost ∙ omega (arith, rest.1),
    ))
    (either_way (ltb (length k) 16))

-- "FIFO mode, queues of 16": the first 16 are held, in order
pub first_16_held : (l : List Character) → accepted_all true empty_queue l ≡ holding (take 16 l)
first_16_held l = (fifo_run [] l (omega arith)).0

-- and every one past them found it full
pub told_past_16 : (l : List Character) → found_full true empty_queue l ≡ length l - 16
told_past_16 l = (fifo_run [] l (omega arith)).1 ∙ omega arith

-- ---- 16450 mode

one_run : (held : Character) (l : List Character) (ch : Character) → accepted_all false (holding (held ∷ [])) (l ++ (ch ∷ [])) ≡ holding (ch ∷ [])
one_run held [] ch = ap (λ (p : Put). p.queue) (accept_replaced held ch)
one_run held (next ∷ l) ch = ap (λ (p : Put). accepted_all false p.queue (l ++ (ch ∷ []))) (accept_replaced held next) ∙ one_run next l ch

one_told : (held : Character) (l : List Character) → found_full false (holding (held ∷ [])) l ≡ length l
unfolding pick
one_told held [] = refl
one_told held (ch ∷ l) =
    ap (λ (p : Put). pick p.full 1 0 + found_full false p.queue l) (accept_replaced held ch) ∙ omega (arith, one_told ch l)

first_in : (ch : Character) → accepted false empty_queue ch ≡ record { queue = holding (ch ∷ []); full = false }
unfolding capacity pick
first_in ch = accept_room false [] ch (omega arith)

-- "16450 mode, queues of 1": the last alone is held
pub last_held : (l : List Character) (ch : Character) → accepted_all false empty_queue (l ++ (ch ∷ [])) ≡ holding (ch ∷ [])
last_held [] ch = ap (λ (p : Put). p.queue) (first_in ch)
last_held (first ∷ l) ch = ap (λ (p : Put). accepted_all false p.queue (l ++ (ch ∷ []))) (first_in first) ∙ one_run first l ch

-- and every one but the first found it full
pub told_past_1 : (l : List Character) → found_full false empty_queue l ≡ length l - 1
unfolding pick
told_past_1 [] = omega arith
told_past_1 (first ∷ l) =
    ap (λ (p : Put). pick p.full 1 0 + found_full false p.queue l) (first_in first) ∙ omega (arith, one_told first l)
