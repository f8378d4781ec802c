-- How many the receive queue holds after each moment, on any side, sound or not: what the ledger tells can be read off the two numbers.
use Rattle.std.specs.Prelude.{ℕ, ◌+◌, ◌-◌, ◌≤◌, Bool, true, false, ◌&&◌, ◌≡◌, refl, eqb, leb, ltb, length}
use Rattle.std.proofs.Common.{ap, ap₂, sym, ◌∙◌, ⊎_elim, arith, le-leb, lt-ltb, ltb-true, ltb-false, eq-eqb, ne_eqb}
use Rattle.std.proofs.lemmas.Bool.{lt-leb, eqb-false}
use Rattle.base.specs.Pick.{pick}
use Rattle.base.specs.PickLaws.{pick_true, pick_false, pick_through, pick_same, both_hold, not_both, either_way}
use Rattle.queue.specs.declared.Character.{Character}
use Rattle.queue.specs.declared.Queue.{Queue}
use Rattle.queue.specs.declared.Put.{Put}
use Rattle.queue.specs.declared.Taken.{Taken}
use Rattle.queue.specs.Queue.{room, entered, replaced, capacity, accepted, taken, unmarked}
use Rattle.receiver.specs.declared.Got.{Got}
use Rattle.receiver.specs.Receiver.{none_queued, received, got, lsr_seen, waited}
use Rattle.receiver.specs.Ledger.{arrives, rbr, lsr, passes, Side, after, number, reading, losing}

-- ---- an acceptance

within_slots : (fifo : Bool) → capacity fifo ≤ 16
unfolding capacity pick
within_slots true = omega arith
within_slots false = omega arith

-- with room there is one more
with_room : (fifo : Bool) (q : Queue) (ch : Character) → room q (capacity fifo) ≡ true → (accepted fifo q ch).queue.count ≡ q.count + 1
unfolding accepted entered
with_room fifo q ch some = ap (λ (p : Put). p.queue.count) (pick_true _ _ _ some ∙ pick_true _ _ _ some)

-- without, as many as before, whichever gives way
without_room : (fifo : Bool) (q : Queue) (ch : Character) → room q (capacity fifo) ≡ false → (accepted fifo q ch).queue.count ≡ q.count
unfolding accepted replaced
without_room fifo q ch none =
    ap (λ (p : Put). p.queue.count) (pick_false _ _ _ none)
    ∙ pick_through (λ (p : Put). p.queue.count) fifo _ _
    ∙ ap (pick fifo q.count) (pick_through (λ (x : Queue). x.count) _ _ _ ∙ pick_same _ q.count)
    ∙ pick_same fifo q.count

room_below : (fifo : Bool) (q : Queue) → room q (capacity fifo) ≡ true → leb (capacity fifo) q.count ≡ false
unfolding room
room_below fifo q some =
    let less = (both_hold (ltb q.count 16) (ltb q.count (capacity fifo)) some).1 in
    lt-leb (capacity fifo) q.count (ltb-true q.count (capacity fifo) less)

full_above : (fifo : Bool) (q : Queue) → room q (capacity fifo) ≡ false → leb (capacity fifo) q.count ≡ true
unfolding room
full_above fifo q none =
    ⊎_elim
    (λ (less : ltb q.count (capacity fifo) ≡ true).
    let below = ltb-true q.count (capacity fifo) less in
    let most = within_slots fifo in
    absurd (not_both (ap₂ (λ (a b : Bool). a && b) (lt-ltb q.count 16 (omega arith)) less) none))
    (λ (more : ltb q.count (capacity fifo) ≡ false). le-leb (capacity fifo) q.count (ltb-false q.count (capacity fifo) more))
    (either_way (ltb q.count (capacity fifo)))

-- ---- each moment that moves it

-- an arrival that finds the queue full loses one, and then as many are queued as before
pub lost_told : (s : Side) (ch : Character) → losing s (arrives ch) ≡ pick (eqb (number (after s (arrives ch))) (number s)) 1 0
unfolding after received
lost_told s ch =
    let q = s.receiver.queue in
    ⊎_elim
    (λ (some : room q (capacity s.fifo) ≡ true).
    let n = with_room s.fifo q ch some in
    pick_false _ _ _ (room_below s.fifo q some)
    ∙ sym (pick_false _ 1 0 (ne_eqb _ _ (λ (e : (accepted s.fifo q ch).queue.count ≡ q.count). omega arith))))
    (λ (none : room q (capacity s.fifo) ≡ false).
    pick_true _ _ _ (full_above s.fifo q none) ∙ sym (pick_true _ 1 0 (eq-eqb _ _ (without_room s.fifo q ch none))))
    (either_way (room q (capacity s.fifo)))

-- an RBR read takes as many as are missing then, one or none
pub read_told : (s : Side) → length (reading s rbr) ≡ number s - number (after s rbr)
unfolding after got none_queued taken
read_told s =
    let q = s.receiver.queue in
    ⊎_elim
    (λ (none : eqb q.count 0 ≡ true).
    let left : number (after s rbr) ≡ q.count = ap (λ (g : Got). g.receiver.queue.count) (pick_true _ _ _ none) in
    ap length (pick_true _ _ _ none) ∙ omega arith)
    (λ (some : eqb q.count 0 ≡ false).
    let above : q.count ≡ 0 → ⊥ = eqb-false q.count 0 some in
    let left : number (after s rbr) ≡ q.count - 1
    = ap (λ (g : Got). g.receiver.queue.count) (pick_false _ _ _ some) ∙ ap (λ (t : Taken). t.queue.count) (pick_false _ _ _ some) in
    ap length (pick_false _ _ _ some) ∙ omega arith)
    (either_way (eqb q.count 0))

-- ---- and those that leave it

pub lsr_leaves : (s : Side) → number (after s lsr) ≡ number s
unfolding after lsr_seen unmarked
lsr_leaves s =
    pick_through (λ (q : Queue). q.count) s.fifo _ _
    ∙ ap (λ (n : ℕ). pick s.fifo n (number s)) (pick_through (λ (q : Queue). q.count) _ _ _ ∙ pick_same _ (number s))
    ∙ pick_same s.fifo (number s)

pub time_leaves : (s : Side) → number (after s passes) ≡ number s
unfolding after waited
time_leaves s = refl
