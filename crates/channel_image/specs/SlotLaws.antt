-- The sixteen slots of a queue, as a record tells them.
use Prim.Native.Nat.{ℕ, zero, suc, ◌-◌, ◌<◌, ◌≤◌}
use Rattle.std.specs.Prelude.{true, false, not, ◌&&◌, ◌||◌, ◌⊎◌, ◌≡◌, refl, eqb, ltb, length, get_or, take, drop, replicate}
use mathlib.Core.List.{List, [], ◌∷◌, ◌++◌}
use Rattle.std.proofs.Common.{inl, inr, ap₂, sym, ◌∙◌, le_of_suc-le-suc, not-suc-le-zero, arith}
use Rattle.std.proofs.Math.Path.{ap}
use Rattle.std.proofs.Math.Dec.{leb}
use borrow.Author.Tests.{eqb-true, le-leb, ltb-true, ltb-false, not-false}
use Rattle.base.specs.Every.{every}
use Rattle.base.specs.EveryLaws.{every_from}
use Rattle.base.specs.ListLaws.{listed, listed_same, written_out}
use Rattle.base.specs.PickLaws.{pick_true, pick_false, both_hold, either_way, neither}
use Rattle.queue.specs.declared.Character.{Character}
use Rattle.queue.specs.declared.Queue.{Queue}
use Rattle.queue.specs.Queue.{no_character, contents, canonical, any_marked, clear, marked}
use Rattle.queue.proofs.QueueLaws.{contents_of, marked_is}
use Rattle.queue.proofs.CanonicalLaws.{holds}
use Rattle.receiver.specs.Sound.{marks_within}
use Rattle.channel_image.specs.Written.{queued_byte}

-- ---- the list that a queue holds, and its slots

free_slot : (m k : ℕ) → get_or (replicate m no_character) k no_character ≡ no_character
free_slot zero k = refl
free_slot (suc m) zero = refl
free_slot (suc m) (suc k) = free_slot m k

zero_of : (n : ℕ) → not (eqb n 0) ≡ false → n ≡ 0
zero_of n e = eqb-true n 0 (not-false (eqb n 0) e)

module _ (m : ℕ) where
  past_free : (l : List Character) (k : ℕ) → length l ≤ k → get_or (l ++ replicate m no_character) k no_character ≡ no_character
  past_free [] k past = free_slot m k
  past_free (ch ∷ l) zero past = absurd (not-suc-le-zero past)
  past_free (ch ∷ l) (suc k) past = past_free l k (le_of_suc-le-suc past)

  slot_unmarked : (l : List Character) (k : ℕ) → any_marked l ≡ false → (get_or (l ++ replicate m no_character) k no_character).marks ≡ 0
  unfolding any_marked
  slot_unmarked [] k none = ap (λ (ch : Character). ch.marks) (free_slot m k)
  slot_unmarked (ch ∷ l) zero none = zero_of ch.marks (neither (not (eqb ch.marks 0)) (any_marked l) none).0
  slot_unmarked (ch ∷ l) (suc k) none = slot_unmarked l k (neither (not (eqb ch.marks 0)) (any_marked l) none).1

  slot_marks : (l : List Character) (k : ℕ) → marks_within l ≡ true → (get_or (l ++ replicate m no_character) k no_character).marks < 8
  unfolding marks_within
  slot_marks [] k within = subst_small (sym (ap (λ (ch : Character). ch.marks) (free_slot m k)))
    where
      subst_small : {n : ℕ} → 0 ≡ n → n < 8
      subst_small e = omega (arith, e)
  slot_marks (ch ∷ l) zero within = ltb-true _ _ (both_hold (ltb ch.marks 8) (marks_within l) within).0
  slot_marks (ch ∷ l) (suc k) within = slot_marks l k (both_hold (ltb ch.marks 8) (marks_within l) within).1

-- ---- what a record tells of a queue

-- of a queue as the bench keeps it, each slot as it is: what is not told is 0
module _ (most : ℕ) (q : Queue) (tidy : canonical most q ≡ true) where
  slots_long : length q.slots ≡ 16
  unfolding canonical
  slots_long =
      let three = both_hold (eqb (length q.slots) 16 && leb q.count 16 && leb q.count most) _ tidy in
      let two = both_hold (eqb (length q.slots) 16 && leb q.count 16) (leb q.count most) three.0 in
      eqb-true _ _ (both_hold (eqb (length q.slots) 16) (leb q.count 16) two.0).0

  pub count_within : leb q.count most ≡ true
  unfolding canonical
  count_within =
      (both_hold (eqb (length q.slots) 16 && leb q.count 16) (leb q.count most)
      (both_hold (eqb (length q.slots) 16 && leb q.count 16 && leb q.count most) _ tidy).0).1

  free_behind : (k : ℕ) → q.count ≤ k → get_or q.slots k no_character ≡ no_character
  free_behind k past =
      let h = holds most q tidy in
      ap (λ (p : Queue). get_or p.slots k no_character) h.same
      ∙ past_free (16 - length h.list) h.list k (omega (arith, ap (λ (p : Queue). p.count) h.same))

  pub slot_told : (field : Character → ℕ) → field no_character ≡ 0 → (k : ℕ) → queued_byte field q k ≡ field (get_or q.slots k no_character)
  slot_told field none k = by (either_way (ltb k q.count))
    where
      by : (ltb k q.count ≡ true) ⊎ (ltb k q.count ≡ false) → queued_byte field q k ≡ field (get_or q.slots k no_character)
      by (inl used) = pick_true _ _ _ used
      by (inr past) = pick_false _ _ _ past ∙ sym (ap field (free_behind k (ltb-false _ _ past)) ∙ none)

  pub slots_told : listed 16 (λ k. record { «data» = queued_byte (λ ch. ch.«data») q k; marks = queued_byte (λ ch. ch.marks) q k }) ≡ q.slots
  slots_told =
      listed_same 16 _ (λ k. get_or q.slots k no_character)
      (λ k below i. record { «data» = slot_told (λ ch. ch.«data») refl k i; marks = slot_told (λ ch. ch.marks) refl k i })
      ∙ written_out 16 q.slots no_character slots_long

  -- where none has a mark, from the data alone
  pub unmarked_told : marked q ≡ false → listed 16 (λ k. record { «data» = queued_byte (λ ch. ch.«data») q k; marks = 0 }) ≡ q.slots
  unmarked_told none =
      let h = holds most q tidy in
      let clean : any_marked h.list ≡ false = sym (marked_is h.list) ∙ ap marked (sym h.same) ∙ none in
      let zeros : (k : ℕ) → (get_or q.slots k no_character).marks ≡ 0
      = λ k. ap (λ (p : Queue). (get_or p.slots k no_character).marks) h.same ∙ slot_unmarked (16 - length h.list) h.list k clean in
      listed_same 16 _ (λ k. get_or q.slots k no_character)
      (λ k below i. record { «data» = slot_told (λ ch. ch.«data») refl k i; marks = sym (zeros k) i })
      ∙ written_out 16 q.slots no_character slots_long

  pub marks_small : marks_within (contents q) ≡ true → (k : ℕ) → queued_byte (λ ch. ch.marks) q k < 8
  marks_small within k =
      let h = holds most q tidy in
      let held : marks_within h.list ≡ true
      = ap marks_within (sym (contents_of h.list)) ∙ ap (λ (p : Queue). marks_within (contents p)) (sym h.same) ∙ within in
      omega (
        arith,
        slot_told (λ ch. ch.marks) refl k,
        ap (λ (p : Queue). (get_or p.slots k no_character).marks) h.same,
        slot_marks (16 - length h.list) h.list k held,
      )

-- of any queue, what is not a character's is 0
pub unused_told : (field : Character → ℕ) (q : Queue) → every 16 (λ k. ltb k q.count || leb (queued_byte field q k) 0) ≡ true
unused_told field q = every_from 16 _ (λ k below. by k (either_way (ltb k q.count)))
  where
    by : (k : ℕ) → (ltb k q.count ≡ true) ⊎ (ltb k q.count ≡ false) → (ltb k q.count || leb (queued_byte field q k) 0) ≡ true
    by k (inl used) = rw used
    by k (inr past) = ap₂ ◌||◌ past (ap (λ (n : ℕ). leb n 0) (pick_false _ _ _ past))

-- ---- from slots to a queue

pub clear_from : (m n : ℕ) (f : ℕ → Character) → ((k : ℕ) → k < m → n ≤ k → f k ≡ no_character) → clear (drop n (listed m f)) ≡ true
unfolding clear
clear_from zero zero f free = refl
clear_from zero (suc n) f free = refl
clear_from (suc m) zero f free =
    rw (free zero (omega arith) (omega arith)) (clear_from m zero (λ k. f (suc k)) (λ k below past. free (suc k) (omega arith) (omega arith)))
clear_from (suc m) (suc n) f free = clear_from m n (λ k. f (suc k)) (λ k below past. free (suc k) (omega arith) (omega arith))

pub marks_within_lem : (m n : ℕ) (f : ℕ → Character) → ((k : ℕ) → k < m → ltb (f k).marks 8 ≡ true) → marks_within (take n (listed m f)) ≡ true
unfolding marks_within
marks_within_lem zero zero f small = refl
marks_within_lem zero (suc n) f small = refl
marks_within_lem (suc m) zero f small = refl
marks_within_lem (suc m) (suc n) f small =
    rw (small zero (omega arith)) (marks_within_lem m n (λ k. f (suc k)) (λ k below. small (suc k) (omega arith)))

pub none_marked : (m n : ℕ) (f : ℕ → Character) → ((k : ℕ) → (f k).marks ≡ 0) → any_marked (take n (listed m f)) ≡ false
unfolding any_marked
none_marked zero zero f none = refl
none_marked zero (suc n) f none = refl
none_marked (suc m) zero f none = refl
none_marked (suc m) (suc n) f none = rw (none zero) (none_marked m n (λ k. f (suc k)) (λ k. none (suc k)))

-- a queue of sixteen slots that are free from its number on
pub tidy_of : (most n : ℕ) (f : ℕ → Character) → most ≤ 16 → n ≤ most → ((k : ℕ) → k < 16 → n ≤ k → f k ≡ no_character)
    → canonical most (record { slots = listed 16 f; count = n }) ≡ true
unfolding canonical
tidy_of most n f small within free =
    let fits : n ≤ 16 = omega arith in
    simp (le-leb _ _ fits, le-leb _ _ within, clear_from 16 n f free)
