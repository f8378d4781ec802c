-- A record is good exactly if it has each row of its fields.
use Rattle.std.specs.Prelude.{ℕ, zero, suc, ◌+◌, ◌<◌, ◌≤◌, Bool, List, [], ◌∷◌, ◌⊎◌, ◌≡◌, ltb}
use Rattle.std.proofs.Math.Bool.{true, false, not, ◌&&◌, ◌||◌, and-false, or-true}
use Rattle.std.proofs.Common.{inl, inr, sym, subst, ◌∙◌, arith}
use Rattle.std.proofs.Math.Logic.{⊎_elim}
use Rattle.std.proofs.Math.Path.{refl, ap, ap₂}
use Rattle.std.proofs.Math.Dec.{eqb, leb}
use borrow.Author.Tests.{eqb-true, eq-eqb, le-leb, leb-true, le-ltb, ltb-false}
use Rattle.base.specs.Bits.{bit, digit, bits}
use Rattle.base.specs.EveryLaws.{every_each, every_from}
use Rattle.base.specs.Pick.{pick}
use Rattle.base.specs.PickLaws.{pick_true, pick_false, both_hold, either_way, never}
use Rattle.queue.specs.Queue.{capacity}
use Rattle.registers.specs.Registers.{fcr_kept}
use Rattle.channel_image.specs.Allowed.{small_from, sixteen_small, fifo_at, registers_in_range, flags_in_range, marks_in_range, queues_within, count_allowed, unused_zero, channel_good}
use Rattle.channel_image.specs.Fields.{among, fcr_values, Fields, Exactly}
use Rattle.channel_image.specs.Places.{at}

-- ---- the FCR

-- what the FCR keeps of any byte is one of its values
values : (on stored low high : Bool)
    → among (pick on (bits (true ∷ false ∷ false ∷ stored ∷ false ∷ false ∷ low ∷ high ∷ [])) 0) fcr_values ≡ true
unfolding pick bits digit
values false stored low high = refl
values true false false false = refl
values true false false true = refl
values true false true false = refl
values true false true true = refl
values true true false false = refl
values true true false true = refl
values true true true false = refl
values true true true true = refl

kept_value : (x : ℕ) → fcr_kept x ≡ x → among x fcr_values ≡ true
unfolding fcr_kept
kept_value x kept = subst (λ (n : ℕ). among n fcr_values ≡ true) kept (values (bit 0 x) (bit 3 x) (bit 6 x) (bit 7 x))

-- and each of its values is kept
all : (ℕ → Bool) → List ℕ → Bool
all test [] = true
all test (m ∷ ms) = test m && all test ms

one_of : (test : ℕ → Bool) (ms : List ℕ) (n : ℕ) → all test ms ≡ true → among n ms ≡ true → test n ≡ true
unfolding all
one_of test [] n each e = absurd (never e)
one_of test (m ∷ ms) n each e =
    let two = both_hold (test m) (all test ms) each in
    ⊎_elim (λ (h : eqb n m ≡ true). ap test (eqb-true n m h) ∙ two.0)
    (λ (h : eqb n m ≡ false). one_of test ms n two.1 (sym (ap (λ (b : Bool). b || among n ms) h) ∙ e))
    (either_way (eqb n m))

all_kept : all (λ x. eqb (fcr_kept x) x) fcr_values ≡ true
unfolding all fcr_kept pick bits digit bit
all_kept = refl

value_kept : (x : ℕ) → among x fcr_values ≡ true → fcr_kept x ≡ x
value_kept x e = eqb-true _ _ (one_of (λ x. eqb (fcr_kept x) x) fcr_values x all_kept e)

-- 16450 mode is the value 0
plain_zero : (x : ℕ) → fcr_kept x ≡ x → bit 0 x ≡ false → x ≡ 0
unfolding fcr_kept
plain_zero x kept clear = sym kept ∙ pick_false _ _ _ clear

zero_plain : (x : ℕ) → x ≡ 0 → bit 0 x ≡ false
unfolding bit
zero_plain x e = rw e

capacity_fifo : (on : Bool) → on ≡ true → capacity on ≡ 16
unfolding capacity
capacity_fifo on set = pick_true _ _ _ set

capacity_16450 : (on : Bool) → on ≡ false → capacity on ≡ 1
unfolding capacity
capacity_16450 on clear = pick_false _ _ _ clear

-- ---- sixteen bytes

module _ (l : List ℕ) (place n most : ℕ) where
  pub small_at : sixteen_small l place n most ≡ true → (k : ℕ) → n ≤ k → k < 16 → at l (place + k) ≤ most
  unfolding sixteen_small
  small_at each k past below =
      leb-true _ _ (sym (ap (λ (b : Bool). b || leb (at l (place + k)) most) (le-ltb k n past)) ∙ every_each 16 (small_from l place n most) each k below)

  pub small_from_lem : ((k : ℕ) → n ≤ k → k < 16 → at l (place + k) ≤ most) → sixteen_small l place n most ≡ true
  unfolding sixteen_small
  small_from_lem each = every_from 16 (small_from l place n most) (λ k below. by k below (either_way (ltb k n)))
    where
      by : (k : ℕ) → k < 16 → (ltb k n ≡ true) ⊎ (ltb k n ≡ false) → small_from l place n most k ≡ true
      by k below (inl used) = ap (λ (b : Bool). b || leb (at l (place + k)) most) used
      by k below (inr past) = ap₂ ◌||◌ past (le-leb _ _ (each k (ltb-false _ _ past) below))

-- ---- a good record has each row

module _ (l : List ℕ) (good : channel_good l ≡ true) where
  pub groups : (registers_in_range l ≡ true)
      × ((flags_in_range l ≡ true) × ((marks_in_range l ≡ true) × ((queues_within l ≡ true) × ((count_allowed l ≡ true) × (unused_zero l ≡ true)))))
  unfolding channel_good
  groups =
      let five = both_hold (registers_in_range l && flags_in_range l && marks_in_range l && queues_within l && count_allowed l) (unused_zero l) good in
      let four = both_hold (registers_in_range l && flags_in_range l && marks_in_range l && queues_within l) (count_allowed l) five.0 in
      let three = both_hold (registers_in_range l && flags_in_range l && marks_in_range l) (queues_within l) four.0 in
      let two = both_hold (registers_in_range l && flags_in_range l) (marks_in_range l) three.0 in
      let one = both_hold (registers_in_range l) (flags_in_range l) two.0 in
      (one.0, (one.1, (two.1, (three.1, (four.1, five.1)))))

  pub registers : (at l 0 ≤ 15) × ((fcr_kept (at l 1) ≡ at l 1) × ((at l 3 ≤ 31) × ((at l 4 ≤ 15) × (at l 6 ≤ 15))))
  unfolding registers_in_range
  registers =
      let a = leb (at l 0) 15 in
      let b = eqb (fcr_kept (at l 1)) (at l 1) in
      let four = both_hold (a && b && leb (at l 3) 31 && leb (at l 4) 15) (leb (at l 6) 15) groups.0 in
      let three = both_hold (a && b && leb (at l 3) 31) (leb (at l 4) 15) four.0 in
      let two = both_hold (a && b) (leb (at l 3) 31) three.0 in
      let one = both_hold a b two.0 in
      (leb-true _ _ one.0, (eqb-true _ _ one.1, (leb-true _ _ two.1, (leb-true _ _ three.1, leb-true _ _ four.1))))

  flags : (at l 10 ≤ 1) × ((at l 11 ≤ 7) × ((at l 12 ≤ 1) × ((at l 13 ≤ 4) × (at l 14 ≤ 1))))
  unfolding flags_in_range
  flags =
      let a = leb (at l 10) 1 in
      let b = leb (at l 11) 7 in
      let four = both_hold (a && b && leb (at l 12) 1 && leb (at l 13) 4) (leb (at l 14) 1) groups.1.0 in
      let three = both_hold (a && b && leb (at l 12) 1) (leb (at l 13) 4) four.0 in
      let two = both_hold (a && b) (leb (at l 12) 1) three.0 in
      let one = both_hold a b two.0 in
      (leb-true _ _ one.0, (leb-true _ _ one.1, (leb-true _ _ two.1, (leb-true _ _ three.1, leb-true _ _ four.1))))

  pub unused : ((eqb (at l 14) 1 || eqb (at l 15) 0) ≡ true)
      × ((sixteen_small l 17 (at l 16) 0 ≡ true) × ((sixteen_small l 34 (at l 33) 0 ≡ true) × (sixteen_small l 50 (at l 33) 0 ≡ true)))
  unfolding unused_zero
  unused =
      let a = eqb (at l 14) 1 || eqb (at l 15) 0 in
      let b = sixteen_small l 17 (at l 16) 0 in
      let three = both_hold (a && b && sixteen_small l 34 (at l 33) 0) (sixteen_small l 50 (at l 33) 0) groups.1.1.1.1.1 in
      let two = both_hold (a && b) (sixteen_small l 34 (at l 33) 0) three.0 in
      let one = both_hold a b two.0 in
      (one.0, (one.1, (two.1, three.1)))

  pub within : (at l 16 ≤ capacity (fifo_at l)) × (at l 33 ≤ capacity (fifo_at l))
  unfolding queues_within
  within =
      let two = both_hold (leb (at l 16) (capacity (fifo_at l))) (leb (at l 33) (capacity (fifo_at l))) groups.1.1.1.0 in
      (leb-true _ _ two.0, leb-true _ _ two.1)

  room_of : (n : ℕ) → n ≤ capacity (fifo_at l) → (at l 1 ≡ 0 → n ≤ 1) × (n ≤ 16)
  room_of n fits = (
    λ (e : at l 1 ≡ 0). omega (arith, capacity_16450 (fifo_at l) (zero_plain (at l 1) e)),
    ⊎_elim (λ (h : fifo_at l ≡ true). omega (arith, capacity_fifo (fifo_at l) h)) (λ (h : fifo_at l ≡ false). omega (arith, capacity_16450 (fifo_at l) h))
        (either_way (fifo_at l)),
  )

  -- where the count may not stand, it is 0
  uncounted : (fifo_at l && not (eqb (at l 33) 0)) ≡ false → at l 13 ≡ 0
  unfolding count_allowed
  uncounted fails =
      ⊎_elim (λ (h : eqb (at l 13) 0 ≡ true). eqb-true _ _ h)
      (λ (h : eqb (at l 13) 0 ≡ false). absurd (never (sym (ap₂ ◌||◌ h fails) ∙ groups.1.1.1.1.0)))
      (either_way (eqb (at l 13) 0))

  empty_shift : at l 14 ≡ 0 → at l 15 ≡ 0
  empty_shift none = eqb-true _ _ (sym (ap (λ (n : ℕ). eqb n 1 || eqb (at l 15) 0) none) ∙ unused.0)

  pub good_fields : Fields l
  unfolding marks_in_range
  good_fields =
      let r = registers in
      let f = flags in
      let u = unused in
      let waiting = room_of (at l 16) within.0 in
      let received = room_of (at l 33) within.1 in
      record {
        ier = r.0;
        fcr = kept_value (at l 1) r.1.0;
        mcr = r.1.1.0;
        changes = r.1.1.1.0;
        levels = r.1.1.1.1;
        overrun = f.0;
        kept = f.1.0;
        flag = f.1.1.0;
        timeout = f.1.1.1.0;
        busy = f.1.1.1.1;
        marks = λ k below. small_at l 50 0 7 groups.1.1.0 k (omega arith) below;
        waiting_one = waiting.0;
        waiting = waiting.1;
        received_one = received.0;
        received = received.1;
        counted_fifo = λ e. uncounted (ap (λ (b : Bool). b && not (eqb (at l 33) 0)) (zero_plain (at l 1) e));
        counted_queued = λ e. uncounted (ap (λ (n : ℕ). fifo_at l && not (eqb n 0)) e ∙ and-false (fifo_at l));
        shift = empty_shift;
        outgoing_unused = λ k past below. omega (arith, small_at l 17 (at l 16) 0 u.1.0 k past below);
        arrived_unused = λ k past below. omega (arith, small_at l 34 (at l 33) 0 u.1.1.0 k past below);
        marks_unused = λ k past below. omega (arith, small_at l 50 (at l 33) 0 u.1.1.1 k past below);
      }

-- ---- and a record that has them is good

module _ (l : List ℕ) (f : Fields l) where
  fcr_kept_lem : fcr_kept (at l 1) ≡ at l 1
  fcr_kept_lem = value_kept (at l 1) f.fcr

  registers_good : registers_in_range l ≡ true
  unfolding registers_in_range
  registers_good =
      rw (le-leb _ _ f.ier, eq-eqb _ _ fcr_kept_lem, le-leb _ _ f.mcr, le-leb _ _ f.changes, le-leb _ _ f.levels)

  flags_good : flags_in_range l ≡ true
  unfolding flags_in_range
  flags_good = rw (le-leb _ _ f.overrun, le-leb _ _ f.kept, le-leb _ _ f.flag, le-leb _ _ f.timeout, le-leb _ _ f.busy)

  fits : (n : ℕ) → (at l 1 ≡ 0 → n ≤ 1) → n ≤ 16 → leb n (capacity (fifo_at l)) ≡ true
  fits n one sixteen =
      ⊎_elim (λ (h : fifo_at l ≡ true). le-leb n (capacity (fifo_at l)) (omega (arith, capacity_fifo (fifo_at l) h)))
      (λ (h : fifo_at l ≡ false). le-leb n (capacity (fifo_at l)) (omega (arith, capacity_16450 (fifo_at l) h, one (plain_zero (at l 1) fcr_kept_lem h))))
      (either_way (fifo_at l))

  queues_good : queues_within l ≡ true
  unfolding queues_within
  queues_good = ap₂ ◌&&◌ (fits (at l 16) f.waiting_one f.waiting) (fits (at l 33) f.received_one f.received)

  count_good : count_allowed l ≡ true
  unfolding count_allowed
  count_good =
      ⊎_elim
      (λ (h : (fifo_at l && not (eqb (at l 33) 0)) ≡ true). ap (λ (b : Bool). eqb (at l 13) 0 || b) h ∙ or-true (eqb (at l 13) 0))
      (λ (h : (fifo_at l && not (eqb (at l 33) 0)) ≡ false).
      ap (λ (b : Bool). b || (fifo_at l && not (eqb (at l 33) 0))) (eq-eqb _ 0 (none (fifo_at l) refl (eqb (at l 33) 0) refl h)))
      (either_way (fifo_at l && not (eqb (at l 33) 0)))
    where
      none : (on : Bool) → fifo_at l ≡ on → (empty : Bool) → eqb (at l 33) 0 ≡ empty → (on && not empty) ≡ false → at l 13 ≡ 0
      none false mode empty queued fails = f.counted_fifo (plain_zero (at l 1) fcr_kept_lem mode)
      none true mode true queued fails = f.counted_queued (eqb-true _ _ queued)
      none true mode false queued fails = absurd (never (sym fails))

  shift_good : (eqb (at l 14) 1 || eqb (at l 15) 0) ≡ true
  shift_good =
      ⊎_elim (λ (h : eqb (at l 14) 1 ≡ true). ap (λ (b : Bool). b || eqb (at l 15) 0) h)
      (λ (h : eqb (at l 14) 1 ≡ false).
      ap (λ (b : Bool). eqb (at l 14) 1 || b) (eq-eqb _ 0 (f.shift (empty (at l 14) f.busy h))) ∙ or-true (eqb (at l 14) 1))
      (either_way (eqb (at l 14) 1))
    where
      empty : (n : ℕ) → n ≤ 1 → eqb n 1 ≡ false → n ≡ 0
      empty zero small other = refl
      empty (suc zero) small other = absurd (never (sym other))
      empty (suc (suc n)) small other = absurd (omega arith)

  unused_good : unused_zero l ≡ true
  unfolding unused_zero
  unused_good =
      ap₂ ◌&&◌
      (ap₂ ◌&&◌
      (ap₂ ◌&&◌ shift_good (small_from_lem l 17 (at l 16) 0 (λ k past below. omega (arith, f.outgoing_unused k past below))))
      (small_from_lem l 34 (at l 33) 0 (λ k past below. omega (arith, f.arrived_unused k past below))))
      (small_from_lem l 50 (at l 33) 0 (λ k past below. omega (arith, f.marks_unused k past below)))

  pub fields_good : channel_good l ≡ true
  unfolding channel_good marks_in_range
  fields_good =
      rw (registers_good, flags_good, small_from_lem l 50 0 7 (λ k past below. f.marks k below), queues_good, count_good, unused_good)

pub exactly : Exactly
exactly = record { needed = good_fields; enough = fields_good }
