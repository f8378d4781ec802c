-- What each call does, in terms of the list of characters that wait, the oldest first; and the holding-empty flag after each.
use Rattle.std.specs.Prelude.{ℕ, suc, ◌<◌, ◌≤◌, Bool, true, false, not, ◌&&◌, ◌||◌, List, [], ◌∷◌, ◌++◌, ◌≡◌, refl, ltb, eqb, length}
use Rattle.std.proofs.Math.Bool.{or-true, or-false}
use Rattle.std.proofs.Math.Path.{ap}
use Rattle.std.proofs.Common.{sym, ◌∙◌, arith, lt-ltb, eq-eqb, ne_eqb}
use Rattle.base.specs.PickLaws.{pick_true, pick_false}
use Rattle.queue.specs.declared.Character.{Character}
use Rattle.queue.specs.declared.Queue.{Queue}
use Rattle.queue.specs.declared.Put.{Put}
use Rattle.queue.specs.declared.Taken.{Taken}
use Rattle.queue.specs.Queue.{capacity, accepted, taken}
use Rattle.queue.proofs.QueueLaws.{holding, take_oldest}
use Rattle.queue.proofs.AcceptLaws.{accept_room, accept_lost, accept_replaced}
use Rattle.transmitter.specs.declared.Transmitter.{Transmitter}
use Rattle.transmitter.specs.Transmitter.{none_waiting, all_sent, flag_set_if, flag_cleared, written, emptied, left, loaded, next, shifted, enabled}
use Rattle.transmitter.specs.Sending.{to_send}

pub none_waiting_lem : (t : Transmitter) → t.queue ≡ holding [] → none_waiting t ≡ true
unfolding none_waiting
none_waiting_lem t held = eq-eqb _ _ (ap (λ (q : Queue). q.count) held)

pub some_waiting : (t : Transmitter) (ch : Character) (l : List Character) → t.queue ≡ holding (ch ∷ l) → none_waiting t ≡ false
unfolding none_waiting
some_waiting t ch l held =
    let n : t.queue.count ≡ suc (length l) = ap (λ (q : Queue). q.count) held in
    ne_eqb _ _ (λ (e : t.queue.count ≡ 0). omega arith)

-- all is sent: nothing waits, and nothing is in the shift register
pub all_sent_lem : (t : Transmitter) (l : List Character) → t.queue ≡ holding l → all_sent t ≡ (eqb (length l) 0 && not t.busy)
unfolding all_sent none_waiting
all_sent_lem t l held = ap (λ (q : Queue). eqb q.count 0 && not t.busy) held

-- ---- THR write: the flag is cleared in every case, and the shift register stays

-- the send side after a write
abbrev written_with : Transmitter → Queue → Transmitter
written_with t q = record { queue = q; busy = t.busy; shift = t.shift; flag = false }

-- room, in both modes: behind the others
pub write_room : (fifo : Bool) (t : Transmitter) (l : List Character) (byte : ℕ) → t.queue ≡ holding l → length l < capacity fifo
    → written fifo t byte ≡ record { queue = holding (l ++ (to_send byte ∷ [])); busy = t.busy; shift = t.shift; flag = false }
unfolding written
write_room fifo t l byte held less =
    ap (λ (p : Put). written_with t p.queue) (ap (λ (q : Queue). accepted fifo q (to_send byte)) held ∙ accept_room fifo l (to_send byte) less)

-- full in FIFO mode: what waits stays, and the byte is dropped
pub write_fifo_full : (t : Transmitter) (l : List Character) (byte : ℕ) → t.queue ≡ holding l → length l ≡ 16
    → written true t byte ≡ record { queue = holding l; busy = t.busy; shift = t.shift; flag = false }
unfolding written
write_fifo_full t l byte held full =
    ap (λ (p : Put). written_with t p.queue) (ap (λ (q : Queue). accepted true q (to_send byte)) held ∙ accept_lost l (to_send byte) (omega arith))

-- full in 16450 mode: the byte stands in the old one's place
pub write_16450_full : (t : Transmitter) (old : Character) (byte : ℕ) → t.queue ≡ holding (old ∷ [])
    → written false t byte ≡ record { queue = holding (to_send byte ∷ []); busy = t.busy; shift = t.shift; flag = false }
unfolding written
write_16450_full t old byte held =
    ap (λ (p : Put). written_with t p.queue) (ap (λ (q : Queue). accepted false q (to_send byte)) held ∙ accept_replaced old (to_send byte))

-- ---- emptying: the shift register stays, and the flag is set where something waited

pub clear_none : (t : Transmitter) → t.queue ≡ holding [] → emptied t ≡ t
unfolding emptied flag_set_if
clear_none t held =
    pick_false _ _ _ (ap not (none_waiting_lem t held)) ∙ (λ i. record { queue = sym held i; busy = t.busy; shift = t.shift; flag = t.flag })

pub clear_some : (t : Transmitter) (ch : Character) (l : List Character) → t.queue ≡ holding (ch ∷ l)
    → emptied t ≡ record { queue = holding []; busy = t.busy; shift = t.shift; flag = true }
unfolding emptied flag_set_if
clear_some t ch l held = pick_true _ _ _ (ap not (some_waiting t ch l held))

-- ---- a character time

-- nothing waits: the shift register is empty after it, and the flag stays
pub shift_none : (t : Transmitter) → t.queue ≡ holding []
    → shifted t ≡ record { queue = holding []; busy = false; shift = 0; flag = t.flag }
unfolding shifted next
shift_none t held = pick_true _ _ _ (none_waiting_lem (left t) held) ∙ (λ i. record { queue = held i; busy = false; shift = 0; flag = t.flag })

-- the oldest in the shift register, with this flag
abbrev moved_in : Taken → Bool → Transmitter
moved_in k flag = record { queue = k.queue; busy = true; shift = k.character.«data»; flag = flag }

module _ (t : Transmitter) (ch : Character) (l : List Character) (held : t.queue ≡ holding (ch ∷ l)) (less : length l < 16) where
  moved : loaded (left t) ≡ record { queue = holding l; busy = true; shift = ch.«data»; flag = t.flag }
  moved = ap (λ (k : Taken). moved_in k t.flag) (ap taken held ∙ take_oldest ch l less)

  moves : shifted t
      ≡ flag_set_if (none_waiting (record { queue = holding l; busy = true; shift = ch.«data»; flag = t.flag }))
      (record { queue = holding l; busy = true; shift = ch.«data»; flag = t.flag })
  unfolding shifted next
  moves = pick_false _ _ _ (some_waiting (left t) ch l held) ∙ ap (λ (m : Transmitter). flag_set_if (none_waiting m) m) moved

-- the last one moves in: the queue is empty by that, and the flag is set
pub shift_last : (t : Transmitter) (ch : Character) → t.queue ≡ holding (ch ∷ [])
    → shifted t ≡ record { queue = holding []; busy = true; shift = ch.«data»; flag = true }
unfolding flag_set_if
shift_last t ch held = moves t ch [] held (omega arith) ∙ pick_true _ _ _ (none_waiting_lem _ refl)

-- others wait behind the one that moves in: the flag stays
pub shift_more : (t : Transmitter) (ch after : Character) (l : List Character) → t.queue ≡ holding (ch ∷ after ∷ l) → length l < 15
    → shifted t ≡ record { queue = holding (after ∷ l); busy = true; shift = ch.«data»; flag = t.flag }
unfolding flag_set_if
shift_more t ch after l held less = moves t ch (after ∷ l) held (omega arith) ∙ pick_false _ _ _ (some_waiting _ after l refl)

-- ---- the interrupt is enabled: the flag is set where nothing waits

pub enable_none : (t : Transmitter) → t.queue ≡ holding [] → enabled t ≡ record { queue = t.queue; busy = t.busy; shift = t.shift; flag = true }
unfolding enabled flag_set_if
enable_none t held = pick_true _ _ _ (none_waiting_lem t held)

pub enable_some : (t : Transmitter) (ch : Character) (l : List Character) → t.queue ≡ holding (ch ∷ l) → enabled t ≡ t
unfolding enabled flag_set_if
enable_some t ch l held = pick_false _ _ _ (some_waiting t ch l held)

-- ---- the flag alone

-- cleared by a write and by a read that named it, whatever waits
pub flag_written : (fifo : Bool) (t : Transmitter) (byte : ℕ) → (written fifo t byte).flag ≡ false
unfolding written
flag_written fifo t byte = refl

pub flag_read : (t : Transmitter) → flag_cleared t ≡ record { queue = t.queue; busy = t.busy; shift = t.shift; flag = false }
flag_read t = refl

-- emptying sets it where something waited
pub flag_emptied : (t : Transmitter) (l : List Character) → t.queue ≡ holding l → (emptied t).flag ≡ (t.flag || ltb 0 (length l))
flag_emptied t [] held = ap (λ (u : Transmitter). u.flag) (clear_none t held) ∙ sym (or-false t.flag)
flag_emptied t (ch ∷ l) held =
    ap (λ (u : Transmitter). u.flag) (clear_some t ch l held) ∙ sym (or-true t.flag)
    ∙ ap (λ (b : Bool). t.flag || b) (sym (lt-ltb 0 (suc (length l)) (omega arith)))

-- a character time sets it where the only one that waits moves in
pub flag_shifted : (t : Transmitter) (l : List Character) → t.queue ≡ holding l → length l ≤ 16 → (shifted t).flag ≡ (t.flag || eqb (length l) 1)
flag_shifted t [] held fits = ap (λ (u : Transmitter). u.flag) (shift_none t held) ∙ sym (or-false t.flag)
flag_shifted t (ch ∷ []) held fits = ap (λ (u : Transmitter). u.flag) (shift_last t ch held) ∙ sym (or-true t.flag)
flag_shifted t (ch ∷ after ∷ l) held fits =
    let more : eqb (suc (suc (length l))) 1 ≡ false = ne_eqb _ _ (λ (e : suc (suc (length l)) ≡ 1). omega arith) in
    ap (λ (u : Transmitter). u.flag) (shift_more t ch after l held (omega arith)) ∙ sym (or-false t.flag) ∙ ap (λ (b : Bool). t.flag || b) (sym more)

-- enabling sets it where nothing waits
pub flag_enabled : (t : Transmitter) (l : List Character) → t.queue ≡ holding l → (enabled t).flag ≡ (t.flag || eqb (length l) 0)
flag_enabled t [] held = ap (λ (u : Transmitter). u.flag) (enable_none t held) ∙ sym (or-true t.flag)
flag_enabled t (ch ∷ l) held =
    let some : eqb (suc (length l)) 0 ≡ false = ne_eqb _ _ (λ (e : suc (length l) ≡ 0). omega arith) in
    ap (λ (u : Transmitter). u.flag) (enable_some t ch l held) ∙ sym (or-false t.flag) ∙ ap (λ (b : Bool). t.flag || b) (sym some)
