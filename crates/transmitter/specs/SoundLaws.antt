-- Power-up is sound, and every call keeps a send side sound in its mode; emptied, it is sound in both.
use Rattle.std.specs.Prelude.{ℕ, ◌≤◌, Bool, true, false, not, ◌&&◌, ◌||◌, List, [], ◌∷◌, ◌++◌, ◌≡◌, refl, eqb, length}
use Rattle.std.proofs.Common.{ap, ap₂, sym, ◌∙◌, arith, eqb-true}
use Rattle.std.proofs.lemmas.Bool.{not-true}
use Rattle.base.specs.Pick.{pick}
use Rattle.base.specs.PickLaws.{pick_through, pick_same, both_hold, neither}
use Rattle.queue.specs.declared.Character.{Character}
use Rattle.queue.specs.declared.Queue.{Queue}
use Rattle.queue.specs.declared.Put.{Put}
use Rattle.queue.specs.declared.Taken.{Taken}
use Rattle.queue.specs.Queue.{capacity, canonical, accepted, taken, any_marked, marked}
use Rattle.queue.proofs.QueueLaws.{holding, marked_is, take_oldest, take_none}
use Rattle.queue.proofs.CanonicalLaws.{holds}
use Rattle.queue.proofs.AcceptLaws.{facts_of, accept_cases, kept_accepting}
use Rattle.transmitter.specs.declared.Transmitter.{Transmitter}
use Rattle.transmitter.specs.Transmitter.{still, none_waiting, all_sent, flag_set_if, flag_cleared, written, emptied, left, loaded, next, shifted, enabled}
use Rattle.transmitter.specs.Sending.{to_send}
use Rattle.transmitter.specs.Sound.{sound_transmitter}

-- the three parts of soundness, each as a fact
pub record Sound (fifo : Bool) (t : Transmitter) : Type 0 where
  pub tidy : canonical (capacity fifo) t.queue ≡ true
  pub unmarked : marked t.queue ≡ false
  pub nothing_left : (t.busy || eqb t.shift 0) ≡ true

pub parts : (fifo : Bool) (t : Transmitter) → sound_transmitter fifo t ≡ true → Sound fifo t
unfolding sound_transmitter
parts fifo t sound =
    let a = canonical (capacity fifo) t.queue in
    let two = both_hold (a && not (marked t.queue)) (t.busy || eqb t.shift 0) sound in
    let one = both_hold a (not (marked t.queue)) two.0 in
    record { tidy = one.0; unmarked = not-true _ one.1; nothing_left = two.1 }

pub whole : (fifo : Bool) (t : Transmitter) → Sound fifo t → sound_transmitter fifo t ≡ true
unfolding sound_transmitter
whole fifo t s = rw (s.tidy, s.unmarked, s.nothing_left)

-- what all is sent means of a sound send side
pub idle_holds : (fifo : Bool) (t : Transmitter) → sound_transmitter fifo t ≡ true → all_sent t ≡ true
    → (t.queue ≡ holding []) × (t.busy ≡ false) × (t.shift ≡ 0)
unfolding all_sent none_waiting
idle_holds fifo t sound sent =
    let s = parts fifo t sound in
    let h = holds (capacity fifo) t.queue s.tidy in
    let two = both_hold (eqb t.queue.count 0) (not t.busy) sent in
    let count : length h.list ≡ 0 = sym (ap (λ (q : Queue). q.count) h.same) ∙ eqb-true _ _ two.0 in
    let idle : t.busy ≡ false = not-true _ two.1 in
    (h.same ∙ ap holding (none h.list count), idle, eqb-true _ _ (rw idle at s.nothing_left))
  where
    none : (l : List Character) → length l ≡ 0 → l ≡ []
    none [] e = refl
    none (ch ∷ l) e = absurd (omega arith)

-- the flag is no part of it
flag_apart : (fifo test : Bool) (t : Transmitter) → sound_transmitter fifo (flag_set_if test t) ≡ sound_transmitter fifo t
unfolding flag_set_if sound_transmitter
flag_apart fifo test t = pick_through (sound_transmitter fifo) test _ t ∙ pick_same test (sound_transmitter fifo t)

-- ---- marks

none_marked : (l : List Character) (byte : ℕ) → any_marked l ≡ false → any_marked (l ++ (to_send byte ∷ [])) ≡ false
unfolding any_marked
none_marked [] byte none = refl
none_marked (ch ∷ l) byte none =
    let each = neither (not (eqb ch.marks 0)) (any_marked l) none in
    rw each.0 (none_marked l byte each.1)

marked_accepted : (fifo : Bool) (q : Queue) (byte : ℕ) → canonical (capacity fifo) q ≡ true → marked q ≡ false
    → marked (accepted fifo q (to_send byte)).queue ≡ false
unfolding any_marked
marked_accepted fifo q byte tidy none =
    let h = holds (capacity fifo) q tidy in
    let l = h.list in
    let held : any_marked l ≡ false = sym (marked_is l) ∙ ap marked (sym h.same) ∙ none in
    ap (λ (p : Queue). marked (accepted fifo p (to_send byte)).queue) h.same
    ∙ accept_cases fifo l (to_send byte) (λ (p : Put). marked p.queue ≡ false) h.within
    (λ less. marked_is (l ++ (to_send byte ∷ [])) ∙ none_marked l byte held)
    (λ more mode. marked_is l ∙ held)
    (λ old more mode one. marked_is (to_send byte ∷ []))

taking : (l : List Character) → length l ≤ 16 → any_marked l ≡ false → marked (taken (holding l)).queue ≡ false
unfolding any_marked
taking [] fits none = ap (λ (k : Taken). marked k.queue) take_none ∙ marked_is []
taking (ch ∷ l) fits none = ap (λ (k : Taken). marked k.queue) (take_oldest ch l fits) ∙ marked_is l ∙ (neither (not (eqb ch.marks 0)) (any_marked l) none).1

marked_taken : (fifo : Bool) (q : Queue) → canonical (capacity fifo) q ≡ true → marked q ≡ false → marked (taken q).queue ≡ false
marked_taken fifo q tidy none =
    let h = holds (capacity fifo) q tidy in
    ap (λ (p : Queue). marked (taken p).queue) h.same
    ∙ taking h.list h.fits (sym (marked_is h.list) ∙ ap marked (sym h.same) ∙ none)

-- ---- the calls

pub power_up_sound : (fifo : Bool) → sound_transmitter fifo still ≡ true
unfolding any_marked
power_up_sound fifo = whole fifo still (record { tidy = (facts_of fifo).none_queued_lem; unmarked = marked_is []; nothing_left = refl })

pub write_sound : (fifo : Bool) (t : Transmitter) (byte : ℕ) → sound_transmitter fifo t ≡ true → sound_transmitter fifo (written fifo t byte) ≡ true
unfolding written
write_sound fifo t byte sound =
    let s = parts fifo t sound in
    whole fifo (written fifo t byte)
    (record {
      tidy = kept_accepting fifo t.queue (to_send byte) s.tidy;
      unmarked = marked_accepted fifo t.queue byte s.tidy s.unmarked;
      nothing_left = s.nothing_left;
    })

-- emptied, it is sound in both modes, whichever it was in
pub clear_sound : (before after : Bool) (t : Transmitter) → sound_transmitter before t ≡ true → sound_transmitter after (emptied t) ≡ true
unfolding emptied any_marked
clear_sound before after t sound =
    flag_apart after (not (none_waiting t)) _
    ∙ whole after _ (record { tidy = (facts_of after).none_queued_lem; unmarked = marked_is []; nothing_left = (parts before t sound).nothing_left })

pub shift_sound : (fifo : Bool) (t : Transmitter) → sound_transmitter fifo t ≡ true → sound_transmitter fifo (shifted t) ≡ true
unfolding shifted next
shift_sound fifo t sound =
    let s = parts fifo t sound in
    pick_through (sound_transmitter fifo) (none_waiting (left t)) _ _
    ∙ ap₂ (pick (none_waiting (left t)))
    (whole fifo (left t) (record { tidy = s.tidy; unmarked = s.unmarked; nothing_left = refl }))
    (flag_apart fifo (none_waiting (loaded (left t))) (loaded (left t))
    ∙ whole fifo (loaded (left t))
    (record {
      tidy = (facts_of fifo).kept_taking t.queue s.tidy;
      unmarked = marked_taken fifo t.queue s.tidy s.unmarked;
      nothing_left = refl;
    }))
    ∙ pick_same (none_waiting (left t)) true

pub enable_sound : (fifo : Bool) (t : Transmitter) → sound_transmitter fifo t ≡ true → sound_transmitter fifo (enabled t) ≡ true
unfolding enabled
enable_sound fifo t sound = flag_apart fifo (none_waiting t) t ∙ sound

pub flag_cleared_sound : (fifo : Bool) (t : Transmitter) → sound_transmitter fifo t ≡ true → sound_transmitter fifo (flag_cleared t) ≡ true
unfolding sound_transmitter
flag_cleared_sound fifo t sound = sound
