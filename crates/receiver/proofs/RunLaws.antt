-- Characters that arrive one after another, and what RBR reads give after them.
use Rattle.std.specs.Prelude.{ℕ, zero, suc, ◌+◌, ◌-◌, ◌<◌, ◌≤◌, Bool, true, false, ◌||◌, List, [], ◌∷◌, ◌++◌, ◌≡◌, refl, ltb, length, take, replicate}
use Rattle.std.proofs.Math.Bool.{or-false}
use Rattle.std.proofs.Common.{⊎_elim, ap, sym, ◌∙◌, arith, lt-ltb, le-ltb, ltb-true, ltb-false}
use Rattle.base.specs.Pick.{pick}
use Rattle.base.specs.PickLaws.{either_way}
use Rattle.queue.specs.declared.Character.{Character}
use Rattle.queue.specs.declared.Queue.{Queue}
use Rattle.queue.specs.Queue.{accepted}
use Rattle.queue.proofs.QueueLaws.{holding}
use Rattle.queue.proofs.MarkLaws.{data_of}
use Rattle.queue.proofs.RunLaws.{accepted_all, found_full, first_16_held, told_past_16, last_held, told_past_1}
use Rattle.receiver.specs.declared.Receiver.{Receiver}
use Rattle.receiver.specs.declared.Got.{Got}
use Rattle.receiver.specs.Receiver.{received, got}
use Rattle.receiver.specs.CallLaws.{read_oldest, read_none}

-- the receive side after these have arrived
abbrev pub arrivals : Bool → Receiver → List Character → Receiver
arrivals fifo r [] = r
arrivals fifo r (ch ∷ l) = arrivals fifo (received fifo r ch) l

-- what so many RBR reads give
abbrev pub reads : ℕ → Receiver → List ℕ
reads zero r = []
reads (suc n) r = (got r).byte ∷ reads n (got r).receiver

-- ---- what is queued in the end

queue_after : (fifo : Bool) (r : Receiver) (l : List Character) → (arrivals fifo r l).queue ≡ accepted_all fifo r.queue l
unfolding received
queue_after fifo r [] = refl
queue_after fifo r (ch ∷ l) = queue_after fifo (received fifo r ch) l

more_than : (m n : ℕ) → ltb 0 (n - m) ≡ ltb m n
more_than m n =
    ⊎_elim
    (λ (e : ltb m n ≡ true). let less : m < n = ltb-true _ _ e in lt-ltb 0 (n - m) (omega arith) ∙ sym e)
    (λ (e : ltb m n ≡ false). let more : n ≤ m = ltb-false _ _ e in le-ltb 0 (n - m) (omega arith) ∙ sym e)
    (either_way (ltb m n))

one_more : (a full : Bool) (n : ℕ) → ((a || full) || ltb 0 n) ≡ (a || ltb 0 (pick full 1 0 + n))
unfolding pick
one_more true full n = refl
one_more false true n = sym (lt-ltb 0 (1 + n) (omega arith))
one_more false false n = let same : n ≡ 0 + n = omega arith in ap (ltb 0) same

overrun_after : (fifo : Bool) (r : Receiver) (l : List Character) → (arrivals fifo r l).overrun ≡ (r.overrun || ltb 0 (found_full fifo r.queue l))
unfolding received
overrun_after fifo r [] = sym (or-false r.overrun)
overrun_after fifo r (ch ∷ l) =
    overrun_after fifo (received fifo r ch) l
    ∙ one_more r.overrun (accepted fifo r.queue ch).full (found_full fifo (accepted fifo r.queue ch).queue l)

module _ (r : Receiver) (held : r.queue ≡ holding []) (l : List Character) where
  -- FIFO mode: the first 16 are queued, and overrun is set by any past them
  pub first_16_queued : (arrivals true r l).queue ≡ holding (take 16 l)
  first_16_queued = queue_after true r l ∙ ap (λ (q : Queue). accepted_all true q l) held ∙ first_16_held l

  pub overrun_past_16 : (arrivals true r l).overrun ≡ (r.overrun || ltb 16 (length l))
  overrun_past_16 =
      overrun_after true r l
      ∙ ap (λ (n : ℕ). r.overrun || ltb 0 n) (ap (λ (q : Queue). found_full true q l) held ∙ told_past_16 l)
      ∙ ap (λ (b : Bool). r.overrun || b) (more_than 16 (length l))

  -- 16450 mode: the last is queued, and overrun is set by any past the first
  pub last_queued : (ch : Character) → (arrivals false r (l ++ (ch ∷ []))).queue ≡ holding (ch ∷ [])
  last_queued ch = queue_after false r (l ++ (ch ∷ [])) ∙ ap (λ (q : Queue). accepted_all false q (l ++ (ch ∷ []))) held ∙ last_held l ch

  pub overrun_past_1 : (arrivals false r l).overrun ≡ (r.overrun || ltb 1 (length l))
  overrun_past_1 =
      overrun_after false r l
      ∙ ap (λ (n : ℕ). r.overrun || ltb 0 n) (ap (λ (q : Queue). found_full false q l) held ∙ told_past_1 l)
      ∙ ap (λ (b : Bool). r.overrun || b) (more_than 1 (length l))

-- ---- what is read

-- the last of these bytes, or this one where there is none
abbrev pub last_of : ℕ → List ℕ → ℕ
last_of n [] = n
last_of n (m ∷ l) = last_of m l

stays : (k : ℕ) (r : Receiver) → r.queue ≡ holding [] → reads k r ≡ replicate k r.last
stays zero r held = refl
stays (suc k) r held =
    let e = read_none r held in
    ap (λ (g : Got). g.byte ∷ reads k g.receiver) e ∙ ap (λ (t : List ℕ). r.last ∷ t) (stays k r held)

-- each byte once, the oldest first; and then "the last byte read", as often as one reads
pub reads_in_order : (l : List Character) (r : Receiver) (k : ℕ) → r.queue ≡ holding l → length l ≤ 16
    → reads (length l + k) r ≡ data_of l ++ replicate k (last_of r.last (data_of l))
reads_in_order [] r k held fits =
    let n : 0 + k ≡ k = omega arith in
    ap (λ (m : ℕ). reads m r) n ∙ stays k r held
reads_in_order (ch ∷ l) r k held fits =
    let n : suc (length l) + k ≡ suc (length l + k) = omega arith in
    let e = read_oldest r ch l held (omega arith) in
    ap (λ (m : ℕ). reads m r) n
    ∙ ap (λ (b : ℕ). b ∷ reads (length l + k) (got r).receiver) (ap (λ (g : Got). g.byte) e)
    ∙ ap (λ (t : List ℕ). ch.«data» ∷ t)
    (reads_in_order l (got r).receiver k (ap (λ (g : Got). g.receiver.queue) e) (omega arith)
    ∙ ap (λ (m : ℕ). data_of l ++ replicate k (last_of m (data_of l))) (ap (λ (g : Got). g.receiver.last) e))
