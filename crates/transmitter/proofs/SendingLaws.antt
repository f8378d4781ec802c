-- Bytes leave in the order in which they were written, each once, and the flag says when the last of them has moved in.
use Prim.Native.Nat.{ℕ, zero, suc, ◌+◌, ◌<◌, ◌≤◌}
use Rattle.std.specs.Prelude.{Bool, true, false, ◌≡◌, refl, leb, length, replicate}
use mathlib.Core.List.{List, [], ◌∷◌, ◌++◌, map, append-nil}
use Rattle.std.proofs.Math.Path.{ap, ap₂}
use Rattle.std.proofs.Common.{sym, ◌∙◌, ⊎_elim, length-append, le-leb, leb-true, leb-false}
use native.Mathlib.Omega.{arith}
use Rattle.std.proofs.lemmas.List.{length-map}
use Rattle.std.proofs.Math.Seq.{append_snoc}
use Rattle.std.proofs.lemmas.Bool.{lt-leb}
use Rattle.base.specs.PickLaws.{pick_true, pick_false, either_way}
use Rattle.base.specs.declared.Answer.{Answer}
use Rattle.base.specs.declared.Answer.TheVariants.{Sent, Idle}
use Rattle.queue.specs.declared.Character.{Character}
use Rattle.queue.specs.Queue.{capacity}
use Rattle.queue.proofs.QueueLaws.{holding}
use Rattle.queue.proofs.AcceptLaws.{capacity_small}
use Rattle.transmitter.specs.declared.Transmitter.{Transmitter}
use Rattle.transmitter.specs.Transmitter.{all_sent, written, shifted}
use Rattle.transmitter.specs.Sending.{to_send, written_all, leaving, sending, after_times}
use Rattle.transmitter.proofs.CallLaws.{all_sent_lem, write_room, shift_none, shift_last, shift_more}
use Rattle.transmitter.specs.Sound.{sound_transmitter}
use Rattle.transmitter.specs.SoundLaws.{idle_holds}

-- ---- what is written waits, in order

-- after these bytes are written to a send side on which this list waits
pub record Waiting (fifo : Bool) (t : Transmitter) (l : List Character) (bytes : List ℕ) : Type 0 where
  pub queue : (written_all fifo t bytes).queue ≡ holding (l ++ map to_send bytes)
  pub busy : (written_all fifo t bytes).busy ≡ t.busy
  pub shift : (written_all fifo t bytes).shift ≡ t.shift

pub all_wait : (fifo : Bool) (t : Transmitter) (l : List Character) (bytes : List ℕ) → t.queue ≡ holding l → length l + length bytes ≤ capacity fifo
    → Waiting fifo t l bytes
unfolding written_all
all_wait fifo t l [] held fits = record { queue = held ∙ ap holding (sym (append-nil l)); busy = refl; shift = refl }
all_wait fifo t l (byte ∷ bytes) held fits =
    let one = write_room fifo t l byte held (omega arith) in
    let n = length-append l (to_send byte ∷ []) in
    let rest = all_wait fifo (written fifo t byte) (l ++ (to_send byte ∷ [])) bytes (ap (λ (u : Transmitter). u.queue) one) (omega (arith, n)) in
    record {
      queue = rest.queue ∙ ap holding (append_snoc l (to_send byte) (map to_send bytes));
      busy = rest.busy ∙ ap (λ (u : Transmitter). u.busy) one;
      shift = rest.shift ∙ ap (λ (u : Transmitter). u.shift) one;
    }

-- a write clears the flag, and so do more of them
flag_clear : (fifo : Bool) (t : Transmitter) (bytes : List ℕ) → t.flag ≡ false → (written_all fifo t bytes).flag ≡ false
unfolding written_all written
flag_clear fifo t [] clear = clear
flag_clear fifo t (byte ∷ bytes) clear = flag_clear fifo (written fifo t byte) bytes refl

-- ---- what waits leaves, in order

-- the oldest moves in, whether others wait or not
record Moved (t : Transmitter) (ch : Character) (l : List Character) : Type 0 where
  queue : (shifted t).queue ≡ holding l
  busy : (shifted t).busy ≡ true
  shift : (shifted t).shift ≡ ch.«data»

moves_in : (t : Transmitter) (ch : Character) (l : List Character) → t.queue ≡ holding (ch ∷ l) → length l < 16 → Moved t ch l
moves_in t ch [] held fits =
    let e = shift_last t ch held in
    record { queue = ap (λ (u : Transmitter). u.queue) e; busy = ap (λ (u : Transmitter). u.busy) e; shift = ap (λ (u : Transmitter). u.shift) e }
moves_in t ch (after ∷ l) held fits =
    let e = shift_more t ch after l held (omega arith) in
    record { queue = ap (λ (u : Transmitter). u.queue) e; busy = ap (λ (u : Transmitter). u.busy) e; shift = ap (λ (u : Transmitter). u.shift) e }

leaves_idle : (t : Transmitter) → t.busy ≡ false → leaving t ≡ Idle
leaves_idle t idle = pick_false _ _ _ idle

-- nothing waits and nothing is in the shift register: idle, however long
stays_idle : (k : ℕ) (t : Transmitter) → t.queue ≡ holding [] → t.busy ≡ false → sending k t ≡ replicate k Idle
unfolding sending
stays_idle zero t held idle = refl
stays_idle (suc k) t held idle =
    let e = shift_none t held in
    ap₂ (λ (a : Answer) (l : List Answer). a ∷ l) (leaves_idle t idle)
    (stays_idle k (shifted t) (ap (λ (u : Transmitter). u.queue) e) (ap (λ (u : Transmitter). u.busy) e))

pub all_leave : (bytes : List ℕ) (t : Transmitter) (k : ℕ) → length bytes ≤ 16 → t.queue ≡ holding (map to_send bytes)
    → sending (length bytes + k) (shifted t) ≡ map Sent bytes ++ replicate k Idle
unfolding sending
all_leave [] t k fits held =
    let e = shift_none t held in
    let n : 0 + k ≡ k = omega arith in
    ap (λ (m : ℕ). sending m (shifted t)) n
    ∙ stays_idle k (shifted t) (ap (λ (u : Transmitter). u.queue) e) (ap (λ (u : Transmitter). u.busy) e)
all_leave (byte ∷ bytes) t k fits held =
    let n = length-map bytes to_send in
    let m = moves_in t (to_send byte) (map to_send bytes) held (omega (arith, n)) in
    let one : suc (length bytes) + k ≡ suc (length bytes + k) = omega arith in
    ap (λ (n : ℕ). sending n (shifted t)) one
    ∙ ap₂ (λ (a : Answer) (l : List Answer). a ∷ l) (pick_true _ _ _ m.busy ∙ ap Sent m.shift)
    (all_leave bytes (shifted t) k (omega arith) m.queue)

-- one character time for each that waits, and one for the last to leave
all_out : (bytes : List ℕ) (t : Transmitter) → length bytes ≤ 16 → t.queue ≡ holding (map to_send bytes)
    → all_sent (after_times (suc (length bytes)) t) ≡ true
unfolding after_times
all_out [] t fits held = ap all_sent (shift_none t held) ∙ all_sent_lem _ [] refl
all_out (byte ∷ bytes) t fits held =
    let n = length-map bytes to_send in
    all_out bytes (shifted t) (omega arith) (moves_in t (to_send byte) (map to_send bytes) held (omega (arith, n))).queue

module _ (fifo : Bool) (t : Transmitter) (sound : sound_transmitter fifo t ≡ true) (idle : all_sent t ≡ true)
    (bytes : List ℕ) (fits : length bytes ≤ capacity fifo) where
  -- as many bytes as the queue takes, written to an idle send side: idle at the first character time, then each byte in its turn, then idle again
  pub sends_in_order : (k : ℕ) → sending (suc (length bytes) + k) (written_all fifo t bytes) ≡ Idle ∷ (map Sent bytes ++ replicate k Idle)
  unfolding sending
  sends_in_order k =
      let start = idle_holds fifo t sound idle in
      let w = all_wait fifo t [] bytes start.0 (omega arith) in
      let small = capacity_small fifo in
      let one : suc (length bytes) + k ≡ suc (length bytes + k) = omega arith in
      ap (λ (n : ℕ). sending n (written_all fifo t bytes)) one
      ∙ ap₂ (λ (a : Answer) (l : List Answer). a ∷ l) (leaves_idle (written_all fifo t bytes) (w.busy ∙ start.1))
      (all_leave bytes (written_all fifo t bytes) k (omega arith) w.queue)

  -- and by the character time at which the last byte left, all is sent
  pub idle_at_last : all_sent (after_times (suc (length bytes)) (written_all fifo t bytes)) ≡ true
  idle_at_last =
      let w = all_wait fifo t [] bytes (idle_holds fifo t sound idle).0 (omega arith) in
      all_out bytes (written_all fifo t bytes) (omega (arith, capacity_small fifo)) w.queue

-- ---- the flag

-- nothing waits: it stays as it is
pub flag_stays : (k : ℕ) (t : Transmitter) → t.queue ≡ holding [] → (after_times k t).flag ≡ t.flag
unfolding after_times
flag_stays zero t held = refl
flag_stays (suc k) t held =
    let e = shift_none t held in
    flag_stays k (shifted t) (ap (λ (u : Transmitter). u.queue) e) ∙ ap (λ (u : Transmitter). u.flag) e

one_more : (n k : ℕ) → leb n k ≡ leb (suc n) (suc k)
one_more n k =
    ⊎_elim
    (λ (e : leb n k ≡ true).
    let within : n ≤ k = leb-true _ _ e in
    e ∙ sym (le-leb (suc n) (suc k) (omega arith)))
    (λ (e : leb n k ≡ false).
    let past : k < n = leb-false _ _ e in
    e ∙ sym (lt-leb (suc n) (suc k) (omega arith)))
    (either_way (leb n k))

flag_follows : (k : ℕ) (t : Transmitter) (ch : Character) (l : List Character) → t.queue ≡ holding (ch ∷ l) → length l < 16 → t.flag ≡ false
    → (after_times k t).flag ≡ leb (suc (length l)) k
unfolding after_times
flag_follows zero t ch l held fits clear = clear ∙ sym (lt-leb (suc (length l)) 0 (omega arith))
flag_follows (suc k) t ch [] held fits clear =
    let e = shift_last t ch held in
    flag_stays k (shifted t) (ap (λ (u : Transmitter). u.queue) e) ∙ ap (λ (u : Transmitter). u.flag) e ∙ sym (le-leb 1 (suc k) (omega arith))
flag_follows (suc k) t ch (after ∷ l) held fits clear =
    let e = shift_more t ch after l held (omega arith) in
    flag_follows k (shifted t) after l (ap (λ (u : Transmitter). u.queue) e) (omega arith) (ap (λ (u : Transmitter). u.flag) e ∙ clear)
    ∙ one_more (suc (length l)) k

-- one byte or more, written to an idle send side: the flag is clear until the last of them moves in, and set from then on
pub flag_at_last : (fifo : Bool) (t : Transmitter) (byte : ℕ) (bytes : List ℕ) → sound_transmitter fifo t ≡ true → all_sent t ≡ true
    → length (byte ∷ bytes) ≤ capacity fifo → (k : ℕ)
    → (after_times k (written_all fifo t (byte ∷ bytes))).flag ≡ leb (length (byte ∷ bytes)) k
unfolding written_all written
flag_at_last fifo t byte bytes sound idle fits k =
    let w = all_wait fifo t [] (byte ∷ bytes) (idle_holds fifo t sound idle).0 (omega arith) in
    let n = length-map bytes to_send in
    let small = capacity_small fifo in
    flag_follows k (written_all fifo t (byte ∷ bytes)) (to_send byte) (map to_send bytes) w.queue (omega (arith, n, small))
    (flag_clear fifo (written fifo t byte) bytes refl)
    ∙ ap (λ (m : ℕ). leb (suc m) k) n
