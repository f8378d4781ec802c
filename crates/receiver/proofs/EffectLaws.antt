-- What a call leaves, told by what is seen after it: the next LSR read, the next RBR read, and the character times that follow.
use Rattle.std.specs.Prelude.{ℕ, zero, suc, ◌<◌, ◌≤◌, Bool, true, false, ◌&&◌, List, [], ◌∷◌, ◌++◌, ◌≡◌, refl, ltb, length}
use Rattle.std.proofs.Math.Bool.{not, and-false}
use Rattle.std.proofs.Common.{⊎_elim, ◌∙◌, arith}
use Rattle.std.proofs.Math.Path.{ap}
use Rattle.std.proofs.Math.Dec.{leb, eqb}
use borrow.Author.Tests.{ltb-true, ltb-false, lt-leb, eq-eqb, ne_eqb}
use Rattle.base.specs.Pick.{pick}
use Rattle.base.specs.Answers.{no_figures}
use Rattle.base.specs.PickLaws.{pick_true, pick_false, either_way}
use Rattle.queue.specs.declared.Character.{Character}
use Rattle.queue.specs.declared.Queue.{Queue}
use Rattle.queue.specs.Queue.{capacity, any_marked, marked}
use Rattle.queue.proofs.QueueLaws.{holding, oldest_none, marked_is}
use Rattle.queue.proofs.MarkLaws.{unmark_clears}
use Rattle.queue.proofs.CanonicalLaws.{holds}
use Rattle.receiver.specs.declared.Receiver.{Receiver}
use Rattle.receiver.specs.declared.Got.{Got}
use Rattle.receiver.specs.Receiver.{quiet, none_queued, received, got, shown_marks, some_marked, lsr_seen, waited, cleared, after_mode_change, restarted}
use Rattle.receiver.specs.Receiver.{data_stands, timeout_stands}
use Rattle.receiver.specs.CallLaws.{none_queued_lem, arrive_fifo, arrive_fifo_full, read_oldest, read_none}
use Rattle.receiver.specs.Waiting.{waits}
use Rattle.receiver.proofs.WaitingLaws.{wait_none, times_out}
use Rattle.receiver.specs.Sound.{sound_receiver}
use Rattle.receiver.proofs.SoundLaws.{parts}

-- ---- LSR read

-- "A read clears overrun, and the marks it showed, after answering." Of any receive side, in both modes: a second read shows neither
pub lsr_read_again : (fifo : Bool) (r : Receiver) → (shown_marks fifo (lsr_seen fifo r) ≡ 0) × ((lsr_seen fifo r).overrun ≡ false)
unfolding shown_marks lsr_seen pick
lsr_read_again true r = (unmark_clears r.queue, refl)
lsr_read_again false r = (refl, refl)

-- ---- emptied, a changed mode, a master reset: nothing is queued and nothing is counted

-- character times over an empty queue
waits_none : (fifo : Bool) (n : ℕ) (r : Receiver) → r.queue ≡ holding [] → waits fifo n r ≡ r
unfolding waits
waits_none fifo zero r held = refl
waits_none fifo (suc n) r held = ap (waited fifo) (waits_none fifo n r held) ∙ wait_none fifo r held

-- a receive side that holds nothing, as far as it can be asked, in whichever mode: no character, no mark, no data, no time-out however long one waits;
-- RBR shows the last byte read, with no marks and none behind it
pub record Bare (r : Receiver) : Type 0 where
  pub none : none_queued r ≡ true
  pub no_mark : (fifo : Bool) → some_marked fifo r ≡ false
  pub no_data : (trigger : ℕ) → data_stands false trigger r ≡ false
  pub no_trigger : (trigger : ℕ) → data_stands true (suc trigger) r ≡ false
  pub no_timeout : (fifo : Bool) (n : ℕ) → timeout_stands (waits fifo n r) ≡ false
  pub last_again : got r ≡ record { receiver = r; byte = r.last; figures = no_figures }

module _ (r : Receiver) (held : r.queue ≡ holding []) (zero-count : r.timeout ≡ 0) where
  bare : Bare r
  unfolding any_marked some_marked data_stands timeout_stands pick
  bare =
      let none = none_queued_lem r held in
      record {
        none = none;
        no_mark = λ fifo. ap (λ (b : Bool). fifo && b) (ap marked held ∙ marked_is []) ∙ and-false fifo;
        no_data = λ trigger. ap not none;
        no_trigger = λ trigger. ap (λ (q : Queue). leb (suc trigger) q.count) held ∙ lt-leb (suc trigger) 0 (omega arith);
        no_timeout = λ fifo n. ap timeout_stands (waits_none fifo n r held) ∙ ap (λ (k : ℕ). eqb k 4) zero-count;
        last_again = read_none r held;
      }

-- "Emptying the receive queue sets the time-out count to 0."
pub clear_bare : (r : Receiver) → Bare (cleared r)
unfolding cleared
clear_bare r = bare (cleared r) refl refl

-- "A changed bit 0 empties both and clears kept marks."
pub mode_change_bare : (r : Receiver) → Bare (after_mode_change r)
unfolding after_mode_change
mode_change_bare r = bare (after_mode_change r) refl refl

pub mode_change_shows_none : (fifo : Bool) (r : Receiver) → shown_marks fifo (after_mode_change r) ≡ 0
unfolding shown_marks after_mode_change pick
mode_change_shows_none true r = ap (λ (c : Character). c.marks) oldest_none
mode_change_shows_none false r = refl

-- "queues, shift register, overrun, marks, holding-empty flag and time-out count cleared"
pub restart_bare : (r : Receiver) → Bare (restarted r)
unfolding restarted
restart_bare r = bare (restarted r) refl refl

pub restart_shows_none : (fifo : Bool) (r : Receiver) → (shown_marks fifo (restarted r) ≡ 0) × ((restarted r).overrun ≡ false)
unfolding shown_marks restarted pick
restart_shows_none true r = (ap (λ (c : Character). c.marks) oldest_none, refl)
restart_shows_none false r = (refl, refl)

-- "flags, marks and counts 0, queues and shift register empty"
pub power_up_bare : Bare quiet
power_up_bare = bare quiet refl refl

pub power_up_shows_none : (fifo : Bool) → (shown_marks fifo quiet ≡ 0) × (quiet.overrun ≡ false)
unfolding shown_marks pick
power_up_shows_none true = (ap (λ (c : Character). c.marks) oldest_none, refl)
power_up_shows_none false = (refl, refl)

-- "the last byte read (0 at first)"
pub first_read : (got quiet).byte ≡ 0
first_read = ap (λ (g : Got). g.byte) (read_none quiet refl)

-- ---- four character times must pass anew

-- "RBR read takes the oldest character and sets the time-out count to 0."
pub read_counts_anew : (r : Receiver) (ch next : Character) (l : List Character) (n : ℕ) → r.queue ≡ holding (ch ∷ next ∷ l) → length l < 15
    → timeout_stands (waits true n (got r).receiver) ≡ leb 4 n
read_counts_anew r ch next l n held fits =
    let e = read_oldest r ch (next ∷ l) held (omega arith) in
    times_out (got r).receiver next l (ap (λ (g : Got). g.receiver.queue) e) (ap (λ (g : Got). g.receiver.timeout) e) n

-- ---- an arrival, and the time-out count

-- ticket 5: "an arrival leaves a count of 4 at 4", in both modes, whether it found room or not
pub arrival_leaves_four : (fifo : Bool) (r : Receiver) (ch : Character) → r.timeout ≡ 4 → (received fifo r ch).timeout ≡ 4
unfolding received timeout_stands
arrival_leaves_four fifo r ch four = pick_true _ _ _ (eq-eqb _ _ four) ∙ four

-- ticket 5: it "sets a smaller one to 0"; so also a greater one, to which nothing leads
pub arrival_sets_back : (fifo : Bool) (r : Receiver) (ch : Character) → (r.timeout ≡ 4 → ⊥) → (received fifo r ch).timeout ≡ 0
unfolding received timeout_stands
arrival_sets_back fifo r ch other = pick_false _ _ _ (ne_eqb _ _ other)

-- from a count of 0 after an arrival in FIFO mode, whether it found room or not, a time-out stands from the fourth character time on
arrival_held : (r : Receiver) (l : List Character) (ch : Character) (n : ℕ) → r.queue ≡ holding l → length l ≤ 16
    → (received true r ch).timeout ≡ 0 → timeout_stands (waits true n (received true r ch)) ≡ leb 4 n
arrival_held r [] ch n held fits anew =
    times_out (received true r ch) ch [] (ap (λ (s : Receiver). s.queue) (arrive_fifo r [] ch held (omega arith))) anew n
arrival_held r (first ∷ l) ch n held fits anew =
    ⊎_elim
    (λ (less : ltb (length (first ∷ l)) 16 ≡ true).
    let e = arrive_fifo r (first ∷ l) ch held (ltb-true _ _ less) in
    times_out (received true r ch) first (l ++ (ch ∷ [])) (ap (λ (s : Receiver). s.queue) e) anew n)
    (λ (more : ltb (length (first ∷ l)) 16 ≡ false).
    let full : 16 ≤ length (first ∷ l) = ltb-false _ _ more in
    let e = arrive_fifo_full r (first ∷ l) ch held (omega arith) in
    times_out (received true r ch) first l (ap (λ (s : Receiver). s.queue) e) anew n)
    (either_way (ltb (length (first ∷ l)) 16))

-- so where no time-out had happened, four character times must pass anew
pub arrival_counts_anew : (r : Receiver) (ch : Character) (n : ℕ) → sound_receiver true r ≡ true → r.timeout < 4
    → timeout_stands (waits true n (received true r ch)) ≡ leb 4 n
arrival_counts_anew r ch n sound less =
    let h = holds (capacity true) r.queue (parts true r sound).tidy in
    arrival_held r h.list ch n h.same h.fits (arrival_sets_back true r ch (λ (four : r.timeout ≡ 4). omega arith))
