-- What leaves, from any send side: the byte in the shift register first, then all that waits, in order, then nothing more.
use Rattle.std.specs.Prelude.{ℕ, zero, suc, ◌+◌, ◌≤◌, Bool, true, false, List, [], ◌∷◌, ◌++◌, map, ◌≡◌, refl, length, take, replicate}
use Rattle.std.proofs.lemmas.List.{map-append}
use Rattle.std.proofs.Common.{ap, ◌∙◌, arith, length-take}
use Rattle.base.specs.Pick.{pick}
use Rattle.base.specs.PickLaws.{pick_through, pick_same, pick_false}
use Rattle.base.specs.declared.Answer.{Answer}
use Rattle.base.specs.declared.Answer.TheVariants.{Sent, Idle}
use Rattle.queue.specs.declared.Character.{Character}
use Rattle.queue.specs.declared.Queue.{Queue}
use Rattle.queue.specs.Queue.{empty_queue}
use Rattle.queue.proofs.QueueLaws.{holding}
use Rattle.queue.proofs.RunLaws.{accepted_all, first_16_held, last_held}
use Rattle.transmitter.specs.declared.Transmitter.{Transmitter}
use Rattle.transmitter.specs.Transmitter.{still, all_sent, flag_set_if, written, emptied}
use Rattle.transmitter.specs.Sending.{to_send, written_all, leaving, sending, after_times}
use Rattle.transmitter.specs.Sound.{sound_transmitter}
use Rattle.transmitter.specs.SoundLaws.{idle_holds}
use Rattle.transmitter.proofs.SendingLaws.{all_leave, flag_stays}

pub waiting_leaves : (bytes : List ℕ) (t : Transmitter) (k : ℕ) → length bytes ≤ 16 → t.queue ≡ holding (map to_send bytes)
    → sending (suc (length bytes) + k) t ≡ leaving t ∷ (map Sent bytes ++ replicate k Idle)
unfolding sending
waiting_leaves bytes t k fits held =
    let one : suc (length bytes) + k ≡ suc (length bytes + k) = omega arith in
    ap (λ (n : ℕ). sending n t) one ∙ ap (λ (l : List Answer). leaving t ∷ l) (all_leave bytes t k fits held)

none_waiting_leaves : (t : Transmitter) (k : ℕ) → t.queue ≡ holding [] → sending (suc k) t ≡ leaving t ∷ replicate k Idle
none_waiting_leaves t k held =
    let one : suc k ≡ 1 + k = omega arith in
    ap (λ (n : ℕ). sending n t) one ∙ waiting_leaves [] t k (omega arith) held

-- ---- power-up

-- "queues and shift register empty": there is nothing to send
pub power_up_idle : (k : ℕ) → sending k still ≡ replicate k Idle
unfolding sending pick
power_up_idle zero = refl
power_up_idle (suc k) = none_waiting_leaves still k refl

-- "flags, marks and counts 0": nor is there anything to tell
pub power_up_tells_nothing : (k : ℕ) → (after_times k still).flag ≡ false
power_up_tells_nothing k = flag_stays k still refl

-- ---- emptied

empty_after : (t : Transmitter) → (emptied t).queue ≡ holding []
unfolding emptied flag_set_if
empty_after t = pick_through (λ (u : Transmitter). u.queue) _ _ _ ∙ pick_same _ empty_queue

leaving_after : (t : Transmitter) → leaving (emptied t) ≡ leaving t
unfolding emptied flag_set_if
leaving_after t = pick_through leaving _ _ _ ∙ pick_same _ (leaving t)

-- "The shift register stays": what had left the queue is still sent, and nothing of what waited
pub emptied_leaves : (t : Transmitter) (k : ℕ) → sending (suc k) (emptied t) ≡ leaving t ∷ replicate k Idle
emptied_leaves t k = none_waiting_leaves (emptied t) k (empty_after t) ∙ ap (λ (a : Answer). a ∷ replicate k Idle) (leaving_after t)

-- ---- any number of bytes, written to an idle send side

written_queue : (fifo : Bool) (t : Transmitter) (bytes : List ℕ) → (written_all fifo t bytes).queue ≡ accepted_all fifo t.queue (map to_send bytes)
unfolding written_all written
written_queue fifo t [] = refl
written_queue fifo t (byte ∷ bytes) = written_queue fifo (written fifo t byte) bytes

written_leaving : (fifo : Bool) (t : Transmitter) (bytes : List ℕ) → leaving (written_all fifo t bytes) ≡ leaving t
unfolding written_all written
written_leaving fifo t [] = refl
written_leaving fifo t (byte ∷ bytes) = written_leaving fifo (written fifo t byte) bytes

-- so many of them, put in order to be sent
some_of : (n : ℕ) (bytes : List ℕ) → take n (map to_send bytes) ≡ map to_send (take n bytes)
some_of zero bytes = refl
some_of (suc n) [] = refl
some_of (suc n) (byte ∷ bytes) = ap (λ (l : List Character). to_send byte ∷ l) (some_of n bytes)

-- "FIFO mode drops it": the first 16 leave
pub sends_first_16 : (t : Transmitter) → sound_transmitter true t ≡ true → all_sent t ≡ true → (bytes : List ℕ) (k : ℕ)
    → sending (suc (length (take 16 bytes)) + k) (written_all true t bytes) ≡ Idle ∷ (map Sent (take 16 bytes) ++ replicate k Idle)
sends_first_16 t sound idle bytes k =
    let start = idle_holds true t sound idle in
    let held : (written_all true t bytes).queue ≡ holding (map to_send (take 16 bytes))
    = written_queue true t bytes ∙ ap (λ (q : Queue). accepted_all true q (map to_send bytes)) start.0 ∙ first_16_held (map to_send bytes)
    ∙ ap holding (some_of 16 bytes) in
    waiting_leaves (take 16 bytes) (written_all true t bytes) k (omega (arith, length-take 16 bytes)) held
    ∙ ap (λ (a : Answer). a ∷ (map Sent (take 16 bytes) ++ replicate k Idle)) (written_leaving true t bytes ∙ pick_false _ _ _ start.1)

-- "Full: 16450 mode replaces": the last alone leaves
pub sends_last : (t : Transmitter) → sound_transmitter false t ≡ true → all_sent t ≡ true → (bytes : List ℕ) (byte k : ℕ)
    → sending (2 + k) (written_all false t (bytes ++ (byte ∷ []))) ≡ Idle ∷ Sent byte ∷ replicate k Idle
sends_last t sound idle bytes byte k =
    let start = idle_holds false t sound idle in
    let all = bytes ++ (byte ∷ []) in
    let held : (written_all false t all).queue ≡ holding (to_send byte ∷ [])
    = written_queue false t all
    ∙ (λ i. accepted_all false (start.0 i) (map-append to_send bytes (byte ∷ []) i)) ∙ last_held (map to_send bytes) (to_send byte) in
    waiting_leaves (byte ∷ []) (written_all false t all) k (omega arith) held
    ∙ ap (λ (a : Answer). a ∷ Sent byte ∷ replicate k Idle) (written_leaving false t all ∙ pick_false _ _ _ start.1)
