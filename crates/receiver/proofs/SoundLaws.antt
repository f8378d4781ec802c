-- Power-up is sound, and every call keeps a receive side sound in its mode; a mode change makes it sound in the other.
use Rattle.std.specs.Prelude.{ℕ, ◌+◌, ◌<◌, ◌≤◌, Bool, true, false, not, ◌&&◌, ◌||◌, List, [], ◌∷◌, ◌++◌, ◌≡◌, refl, ltb, leb, eqb, length}
use Rattle.std.proofs.Math.Bool.{or-true}
use Rattle.std.proofs.Common.{ap, ap₂, sym, ◌∙◌, ⊎_elim, arith, lt-ltb, le-leb, eq-eqb, ne_eqb, ltb-true, leb-true, eqb-true}
use Rattle.std.specs.Int.Bits.{bit_or}
use Rattle.std.proofs.lemmas.Nat.{or_lt}
use Rattle.std.proofs.lemmas.Bool.{not-true}
use Rattle.base.specs.Pick.{pick}
use Rattle.base.specs.PickLaws.{pick_true, pick_false, pick_through, pick_same, pick_le, both_hold, either_way}
use Rattle.queue.specs.declared.Character.{Character}
use Rattle.queue.specs.declared.Queue.{Queue}
use Rattle.queue.specs.declared.Put.{Put}
use Rattle.queue.specs.declared.Taken.{Taken}
use Rattle.queue.specs.Queue.{empty_queue, contents, capacity, canonical, accepted, taken, unmarked, plain}
use Rattle.queue.proofs.QueueLaws.{holding, contents_of, take_oldest, take_none, unmark_oldest, unmark_none}
use Rattle.queue.proofs.CanonicalLaws.{Holds, holds}
use Rattle.queue.proofs.AcceptLaws.{facts_of, accept_cases, accept_some, kept_accepting}
use Rattle.receiver.specs.declared.Receiver.{Receiver}
use Rattle.receiver.specs.declared.Got.{Got}
use Rattle.receiver.specs.Receiver.{quiet, none_queued, received, got, lsr_seen, waited, cleared, after_mode_change, restarted, timeout_stands}
use Rattle.receiver.specs.Sound.{marks_within, count_allowed, sound_receiver}

-- the five parts of soundness, each as a fact
pub record Sound (fifo : Bool) (r : Receiver) : Type 0 where
  pub tidy : canonical (capacity fifo) r.queue ≡ true
  pub marks : marks_within (contents r.queue) ≡ true
  pub kept : r.kept < 8
  pub counted : r.timeout ≤ 4
  pub allowed : count_allowed fifo r ≡ true

pub parts : (fifo : Bool) (r : Receiver) → sound_receiver fifo r ≡ true → Sound fifo r
unfolding sound_receiver
parts fifo r sound =
    let a = canonical (capacity fifo) r.queue in
    let b = marks_within (contents r.queue) in
    let four = both_hold (a && b && ltb r.kept 8 && leb r.timeout 4) (count_allowed fifo r) sound in
    let three = both_hold (a && b && ltb r.kept 8) (leb r.timeout 4) four.0 in
    let two = both_hold (a && b) (ltb r.kept 8) three.0 in
    let one = both_hold a b two.0 in
    record { tidy = one.0; marks = one.1; kept = ltb-true _ _ two.1; counted = leb-true _ _ three.1; allowed = four.1 }

pub whole : (fifo : Bool) (r : Receiver) → Sound fifo r → sound_receiver fifo r ≡ true
unfolding sound_receiver
whole fifo r s = rw (s.tidy, s.marks, lt-ltb _ _ s.kept, le-leb _ _ s.counted, s.allowed)

-- a time-out stands only in FIFO mode with a character in the queue
pub timeout_waits : (fifo : Bool) (r : Receiver) → sound_receiver fifo r ≡ true → timeout_stands r ≡ true → (fifo ≡ true) × (none_queued r ≡ false)
unfolding timeout_stands count_allowed
timeout_waits fifo r sound stands =
    let four : r.timeout ≡ 4 = eqb-true _ _ stands in
    let some : eqb r.timeout 0 ≡ false = ne_eqb _ _ (λ (e : r.timeout ≡ 0). omega arith) in
    let waits = both_hold fifo (not (none_queued r)) (rw some at (parts fifo r sound).allowed) in
    (waits.0, not-true _ waits.1)

-- ---- nothing queued, nothing counted

none_counted : (fifo : Bool) (r : Receiver) → r.timeout ≡ 0 → count_allowed fifo r ≡ true
unfolding count_allowed
none_counted fifo r e = rw (eq-eqb _ _ e)

empty_sound : (fifo : Bool) (r : Receiver) → r.queue ≡ empty_queue → r.timeout ≡ 0 → r.kept < 8 → sound_receiver fifo r ≡ true
unfolding marks_within
empty_sound fifo r none zero-count small =
    whole fifo r
    (record {
      tidy = ap (canonical (capacity fifo)) none ∙ (facts_of fifo).none_queued_lem;
      marks = ap (λ (q : Queue). marks_within (contents q)) none;
      kept = small;
      counted = omega arith;
      allowed = none_counted fifo r zero-count;
    })

pub power_up_sound : (fifo : Bool) → sound_receiver fifo quiet ≡ true
power_up_sound fifo = empty_sound fifo quiet refl refl (omega arith)

-- emptied, it is sound in both modes, whichever it was in
pub clear_sound : (before after : Bool) (r : Receiver) → sound_receiver before r ≡ true → sound_receiver after (cleared r) ≡ true
unfolding cleared
clear_sound before after r sound = empty_sound after (cleared r) refl refl (parts before r sound).kept

-- a changed mode and a master reset make any receive side sound, in both modes
pub mode_change_sound : (fifo : Bool) (r : Receiver) → sound_receiver fifo (after_mode_change r) ≡ true
unfolding after_mode_change
mode_change_sound fifo r = empty_sound fifo (after_mode_change r) refl refl (omega arith)

pub restart_sound : (fifo : Bool) (r : Receiver) → sound_receiver fifo (restarted r) ≡ true
unfolding restarted
restart_sound fifo r = empty_sound fifo (restarted r) refl refl (omega arith)

-- ---- marks

marks_behind : (l : List Character) (ch : Character) → marks_within l ≡ true → ch.marks < 8 → marks_within (l ++ (ch ∷ [])) ≡ true
unfolding marks_within
marks_behind [] ch all small = rw (lt-ltb ch.marks 8 small)
marks_behind (first ∷ l) ch all small =
    let each = both_hold (ltb first.marks 8) (marks_within l) all in
    rw each.0 (marks_behind l ch each.1 small)

-- each of them is below 8
pub marks_each : (before : List Character) (ch : Character) (after : List Character) → marks_within (before ++ (ch ∷ after)) ≡ true → ch.marks < 8
unfolding marks_within
marks_each [] ch after all = ltb-true _ _ (both_hold (ltb ch.marks 8) (marks_within after) all).0
marks_each (first ∷ before) ch after all =
    marks_each before ch after (both_hold (ltb first.marks 8) (marks_within (before ++ (ch ∷ after))) all).1

-- what a canonical queue holds
marks_held : (fifo : Bool) (q : Queue) (h : Holds (capacity fifo) q) → marks_within (contents q) ≡ true → marks_within h.list ≡ true
marks_held fifo q h all = ap marks_within (sym (contents_of h.list) ∙ ap contents (sym h.same)) ∙ all

marks_accepted : (fifo : Bool) (q : Queue) (ch : Character) → canonical (capacity fifo) q ≡ true → marks_within (contents q) ≡ true → ch.marks < 8
    → marks_within (contents (accepted fifo q ch).queue) ≡ true
unfolding marks_within
marks_accepted fifo q ch tidy all small =
    let h = holds (capacity fifo) q tidy in
    let l = h.list in
    let held : marks_within l ≡ true = marks_held fifo q h all in
    ap (λ (p : Queue). marks_within (contents (accepted fifo p ch).queue)) h.same
    ∙ accept_cases fifo l ch (λ (p : Put). marks_within (contents p.queue) ≡ true) h.within
    (λ less. ap marks_within (contents_of (l ++ (ch ∷ []))) ∙ marks_behind l ch held small)
    (λ more mode. ap marks_within (contents_of l) ∙ held)
    (λ old more mode one. ap marks_within (contents_of (ch ∷ [])) ∙ marks_behind [] ch refl small)

marks_taking : (l : List Character) → length l ≤ 16 → marks_within l ≡ true → marks_within (contents (taken (holding l)).queue) ≡ true
unfolding marks_within
marks_taking [] fits all = ap (λ (t : Taken). marks_within (contents t.queue)) take_none
marks_taking (ch ∷ l) fits all =
    ap (λ (t : Taken). marks_within (contents t.queue)) (take_oldest ch l fits) ∙ ap marks_within (contents_of l)
    ∙ (both_hold (ltb ch.marks 8) (marks_within l) all).1

marks_unmarking : (l : List Character) → marks_within l ≡ true → marks_within (contents (unmarked (holding l))) ≡ true
unfolding marks_within
marks_unmarking [] all = ap (λ (q : Queue). marks_within (contents q)) unmark_none
marks_unmarking (ch ∷ l) all =
    ap (λ (q : Queue). marks_within (contents q)) (unmark_oldest ch l) ∙ ap marks_within (contents_of (plain ch ∷ l))
    ∙ (both_hold (ltb ch.marks 8) (marks_within l) all).1

-- ---- every other call keeps soundness in its mode

-- what an arrival leaves is not empty
arrival_waits : (fifo : Bool) (r : Receiver) (ch : Character) → canonical (capacity fifo) r.queue ≡ true → none_queued (received fifo r ch) ≡ false
unfolding received none_queued
arrival_waits fifo r ch tidy =
    let h = holds (capacity fifo) r.queue tidy in
    ap (λ (q : Queue). eqb (accepted fifo q ch).queue.count 0) h.same ∙ accept_some fifo h.list ch h.within

-- so a count that an arrival leaves stands where it may
count_after_arrival_lem : (fifo : Bool) (r : Receiver) (ch : Character) → sound_receiver fifo r ≡ true → count_allowed fifo (received fifo r ch) ≡ true
unfolding count_allowed received
count_after_arrival_lem fifo r ch sound =
    ⊎_elim
    (λ (stands : timeout_stands r ≡ true).
    let mode = (timeout_waits fifo r sound stands).0 in
    rw (mode, arrival_waits true r ch (rw mode at (parts fifo r sound).tidy)) (or-true (eqb (received true r ch).timeout 0)))
    (λ (none : timeout_stands r ≡ false). none_counted fifo (received fifo r ch) (pick_false _ _ _ none))
    (either_way (timeout_stands r))

pub receive_sound : (fifo : Bool) (r : Receiver) (ch : Character) → sound_receiver fifo r ≡ true → ch.marks < 8
    → sound_receiver fifo (received fifo r ch) ≡ true
unfolding received
receive_sound fifo r ch sound small =
    let s = parts fifo r sound in
    let k : r.kept ≤ 7 = omega (arith, s.kept) in
    let both : bit_or r.kept ch.marks ≤ 7 = omega (arith, or_lt 3 r.kept ch.marks s.kept small) in
    whole fifo (received fifo r ch)
    (record {
      tidy = kept_accepting fifo r.queue ch s.tidy;
      marks = marks_accepted fifo r.queue ch s.tidy s.marks small;
      kept = omega (arith, pick_le fifo r.kept (bit_or r.kept ch.marks) 7 k both);
      counted = pick_le (timeout_stands r) r.timeout 0 4 s.counted (omega arith);
      allowed = count_after_arrival_lem fifo r ch sound;
    })

pub get_sound : (fifo : Bool) (r : Receiver) → sound_receiver fifo r ≡ true → sound_receiver fifo (got r).receiver ≡ true
unfolding got
get_sound fifo r sound =
    let s = parts fifo r sound in
    let h = holds (capacity fifo) r.queue s.tidy in
    let rest = (taken r.queue).queue in
    let less : marks_within (contents rest) ≡ true
    = ap (λ (q : Queue). marks_within (contents (taken q).queue)) h.same ∙ marks_taking h.list h.fits (marks_held fifo r.queue h s.marks) in
    pick_through (λ (g : Got). sound_receiver fifo g.receiver) (none_queued r) _ _
    ∙ ap₂ (pick (none_queued r)) sound
    (whole fifo _
    (record { tidy = (facts_of fifo).kept_taking r.queue s.tidy; marks = less; kept = s.kept; counted = omega arith; allowed = none_counted fifo _ refl }))
    ∙ pick_same (none_queued r) true

count_unmarked : (q : Queue) → (unmarked q).count ≡ q.count
unfolding unmarked
count_unmarked q = pick_through (λ (p : Queue). p.count) (eqb q.count 0) _ _ ∙ pick_same (eqb q.count 0) q.count

pub lsr_seen_sound : (fifo : Bool) (r : Receiver) → sound_receiver fifo r ≡ true → sound_receiver fifo (lsr_seen fifo r) ≡ true
unfolding lsr_seen pick count_allowed none_queued
lsr_seen_sound true r sound =
    let s = parts true r sound in
    let h = holds (capacity true) r.queue s.tidy in
    let clean : marks_within (contents (unmarked r.queue)) ≡ true
    = ap (λ (q : Queue). marks_within (contents (unmarked q))) h.same ∙ marks_unmarking h.list (marks_held true r.queue h s.marks) in
    whole true (lsr_seen true r)
    (record {
      tidy = (facts_of true).kept_unmarking r.queue s.tidy;
      marks = clean;
      kept = s.kept;
      counted = s.counted;
      allowed = ap (λ (n : ℕ). eqb r.timeout 0 || (true && not (eqb n 0))) (count_unmarked r.queue) ∙ s.allowed;
    })
lsr_seen_sound false r sound =
    let s = parts false r sound in
    whole false (lsr_seen false r) (record { tidy = s.tidy; marks = s.marks; kept = omega arith; counted = s.counted; allowed = s.allowed })

-- the same receive side at another time-out count
abbrev at_count : Receiver → ℕ → Receiver
at_count r n = record { queue = r.queue; overrun = r.overrun; kept = r.kept; timeout = n; last = r.last }

pub wait_sound : (fifo : Bool) (r : Receiver) → sound_receiver fifo r ≡ true → sound_receiver fifo (waited fifo r) ≡ true
unfolding waited pick count_allowed none_queued
wait_sound false r sound = sound
wait_sound true r sound =
    let s = parts true r sound in
    let counts = not (none_queued r) && ltb r.timeout 4 in
    ⊎_elim
    (λ (e : counts ≡ true).
    let two = both_hold (not (none_queued r)) (ltb r.timeout 4) e in
    let less : r.timeout < 4 = ltb-true _ _ two.1 in
    let some : eqb (r.timeout + 1) 0 ≡ false = ne_eqb _ _ (λ (e : r.timeout + 1 ≡ 0). omega arith) in
    ap (λ (n : ℕ). sound_receiver true (at_count r n)) (pick_true counts (r.timeout + 1) r.timeout e)
    ∙ whole true (at_count r (r.timeout + 1))
    (record { tidy = s.tidy; marks = s.marks; kept = s.kept; counted = omega arith; allowed = rw some two.0 }))
    (λ (e : counts ≡ false). ap (λ (n : ℕ). sound_receiver true (at_count r n)) (pick_false counts (r.timeout + 1) r.timeout e) ∙ sound)
    (either_way counts)
