-- The run's loop, one record at a time: what holds after k records, and how the run ends.
use Prim.Native.Nat.{ℕ, suc, ◌+◌, ◌-◌, ◌*◌, ◌≤◌, ◌<◌, min}
use mathlib.Core.Path.{◌≡◌, refl, sym, ap, ◌∙◌}
use mathlib.Core.Bool.{Bool, true, false, and-false}
use mathlib.Core.List.{List, [], ◌∷◌, ◌++◌, append-nil}
use mathlib.Core.Logic.{⊎_elim}
use native.Mathlib.Omega.{arith}
use native.Mathlib.Numerals.{add-one}
use native.Mathlib.Nat.{add-zero, zero-add, sub-zero, eq-or-lt_of_le}
use lib.Dec.{ltb}
use lib.ListN.{length, take, drop, get_or, length-append, drop_of_length-le}
use lib.Seq.{sets, length-sets, take-suc, drop-cons, length-take-le}
use borrow.Author.Tests.{le-ltb, lt-ltb, le-leb, lt-leb, leb-true, leb-false}
use Rattle.base.specs.declared.Answer.{Answer}
use Rattle.base.specs.declared.Answer.TheVariants.{Done}
use Rattle.base.specs.Pick.{pick}
use Rattle.base.specs.PickLaws.{pick_true, pick_false}
use Rattle.records.specs.Events.{Record, short}
use Rattle.bench.specs.Runs.{after_all}
use Rattle.bench.specs.RunLaws.{after_parts}
use Rattle.bench.specs.Steps.{outcome}
use Rattle.bench.specs.declared.Bench.{Bench}
use Rattle.text.specs.Front.{front, line_after, rest}
use Rattle.text.specs.Line.{longest, Put, Puts}
use Rattle.text.specs.LineLaws.{line_some, puts_after}
use Rattle.base.specs.StoreLaws.{sets_append}
use Rattle.listing.specs.Run.{line_of, listing, answered, fits, last_answer, number_end, records_of, Runs}
use Rattle.listing.specs.RunLaws.{listing_parts, last_answer_lem, record_count_lem, record_inside}
use Rattle.listing.specs.Places.{room_at, record_count}

-- a place that did not move tells that there was no room, and one that moved that there was
pub no_room : (x : Bool) (place size : ℕ) → 0 < size → pick x (place + size) place ≡ place → x ≡ false
unfolding pick
no_room true place size some e = absurd (omega arith)
no_room false place size some e = refl

pub some_room : (x : Bool) (place size : ℕ) → (pick x (place + size) place ≡ place → ⊥) → x ≡ true
unfolding pick
some_room true place size ne = refl
some_room false place size ne = absurd (ne refl)

-- a line put behind the digits before its last is the record's, where answer and output are its own
pub told_put : (b : Bench) (r : Record) (l : List ℕ) (n : ℕ) (a : Answer) (o : Bool) (d d' : List ℕ) (w next : ℕ) → l ≡ front n → n < number_end
    → (a ≡ (outcome b r).answer) × (o ≡ (outcome b r).output) → Put (line_after l n a o) (length l + rest) d d' w next
    → Puts n (outcome b r).answer (outcome b r).output d d' w next
told_put b r l n a o d d' w next is small told p = rw (← told.0, ← told.1) (puts_after l n a o d d' w next is (omega arith) p)

-- what holds after k of the records rs, of which the first has number n, from the bench b₀ and the buffer d₀
pub record Turn (b₀ : Bench) (n : ℕ) (rs : List Record) (d₀ : List ℕ) (b : Bench) (d : List ℕ) (w k : ℕ) (a : Answer) : Type 0 where
  pub bench : b ≡ after_all b₀ (take k rs)
  pub answer : a ≡ last_answer b₀ Done (take k rs)
  pub written : w ≡ length (listing b₀ n (take k rs))
  pub bytes : d ≡ sets d₀ 0 (listing b₀ n (take k rs))
  pub left : answered b₀ n rs (length d₀) ≡ k + answered b (n + k) (drop k rs) (length d₀ - w)
  pub same : length d ≡ length d₀
  pub inside : w ≤ length d₀
  pub short : w ≤ longest * k

pub start : (b : Bench) (n : ℕ) (rs : List Record) (d : List ℕ) → Turn b n rs d b d 0 0 Done
unfolding listing
start b n rs d = record {
  bench = refl;
  answer = refl;
  written = refl;
  bytes = refl;
  left = rw (zero-add, add-zero, sub-zero);
  same = refl;
  inside = omega arith;
  short = omega arith;
}

-- the next line finds no room: so many are answered, and there was less room than the longest lines take
pub record Full (b₀ : Bench) (n : ℕ) (rs : List Record) (d₀ : List ℕ) (k : ℕ) : Type 0 where
  pub told : answered b₀ n rs (length d₀) ≡ k
  pub narrow : longest * length rs ≤ length d₀ → ⊥

module _ (b₀ : Bench) (n : ℕ) (rs : List Record) (d₀ : List ℕ) (b : Bench) (d d' : List ℕ) (w k : ℕ) (r : Record) (next : ℕ) (a : Answer) (t : Turn b₀ n rs d₀ b d w k a)
    (p : Puts (n + k) (outcome b r).answer (outcome b r).output d d' w next) (more : k < length rs) (is : get_or rs k short ≡ r) where
  abbrev size : ℕ
  size = length (line_of b (n + k) r)

  one_more : take (k + 1) rs ≡ take k rs ++ (r ∷ [])
  one_more = rw (add-one k, ← is) (take-suc rs k short more)

  next_up : drop k rs ≡ r ∷ drop (suc k) rs
  next_up = rw (← is) (drop-cons rs k short more)

  listing_more : listing b₀ n (take (k + 1) rs) ≡ listing b₀ n (take k rs) ++ line_of b (n + k) r
  unfolding listing
  listing_more =
      let l : length (take k rs) ≡ k = length-take-le k rs (omega arith) in
      rw (one_more, listing_parts, l, ← t.bench, append-nil)

  bench_more : after_all b₀ (take (k + 1) rs) ≡ (outcome b r).bench
  bench_more = rw (one_more, after_parts, ← t.bench)

  answer_more : last_answer b₀ Done (take (k + 1) rs) ≡ (outcome b r).answer
  answer_more = rw (one_more, last_answer_lem, ← t.bench)

  module _ (moved : next ≡ w → ⊥) (small : n + k < number_end) where
    yes : room_at b (n + k) r d w ≡ true
    yes = some_room (room_at b (n + k) r d w) w size (λ e. moved (p.next ∙ e))

    ends : w + size ≤ length d
    ends = leb-true (w + size) (length d) yes

    next_is : next ≡ w + size
    next_is = p.next ∙ pick_true _ _ _ yes

    bytes_is : d' ≡ sets d w (line_of b (n + k) r)
    bytes_is = p.bytes ∙ pick_true _ _ _ yes

    goes_on : answered b (n + k) (r ∷ drop (suc k) rs) (length d₀ - w)
        ≡ suc (answered (outcome b r).bench (suc (n + k)) (drop (suc k) rs) (length d₀ - w - size))
    unfolding answered
    goes_on =
        let e : length d ≡ length d₀ = t.same in
        let f : w + size ≤ length d = ends in
        let it-fits : fits b (n + k) r (length d₀ - w) ≡ true =
        rw (lt-ltb (n + k) number_end small) (le-leb size (length d₀ - w) (omega arith)) in
        pick_true _ _ _ it-fits

    pub turn : Turn b₀ n rs d₀ (outcome b r).bench d' next (k + 1) (outcome b r).answer
    turn = record {
      bench = sym bench_more;
      answer = sym answer_more;
      written = rw (listing_more, length-append, ← t.written) next_is;
      bytes = rw (listing_more, sets_append (listing b₀ n (take k rs)), zero-add, ← t.bytes, ← t.written) bytes_is;
      left =
          let e1 : n + (k + 1) ≡ suc (n + k) = omega arith in
          let e2 : length d₀ - (w + size) ≡ length d₀ - w - size = omega arith in
          let e3 : (x : ℕ) → k + suc x ≡ suc k + x = λ x. omega arith in
          t.left
          ∙ ap (λ (x : ℕ). k + x) (ap (λ (l : List Record). answered b (n + k) l (length d₀ - w)) next_up ∙ goes_on)
          ∙ e3 _
          ∙ rw (next_is, e1, e2, add-one k);
      same = rw (bytes_is, length-sets) t.same;
      inside = let f : w + size ≤ length d = ends in rw next_is (omega (arith, t.same));
      short = let f : size ≤ longest = p.short in rw next_is (omega (arith, t.short));
    }

  -- where the place did not move, the run ends with this record left
  module _ (still : next ≡ w) where
    no : room_at b (n + k) r d w ≡ false
    no = no_room (room_at b (n + k) r d w) w size (line_some (n + k) _ _) (sym p.next ∙ still)

    kept : d' ≡ d
    kept = p.bytes ∙ pick_false _ _ _ no

    left_out : answered b₀ n rs (length d₀) ≡ k
    unfolding answered
    left_out =
        let e : length d ≡ length d₀ = t.same in
        let f : length d < w + size = leb-false (w + size) (length d) no in
        let i : w ≤ length d₀ = t.inside in
        let it-does-not : fits b (n + k) r (length d₀ - w) ≡ false =
        rw (lt-leb size (length d₀ - w) (omega arith)) (and-false (ltb (n + k) number_end)) in
        t.left ∙ rw (next_up, pick_false _ _ _ it-does-not) (add-zero k)

    pub full : Turn b₀ n rs d₀ b d' w k a × Full b₀ n rs d₀ k
    full =
        let e : length d ≡ length d₀ = t.same in
        let f : length d < w + size = leb-false (w + size) (length d) no in
        let g : size ≤ longest = p.short in (
          rw kept t,
          record { told = left_out; narrow = λ long. omega (arith, t.short) },
        )

-- ---- how far a run goes: to the last record or the last number, or no further than it came, for want of room

pub end_is : (last : Bool) (s : List ℕ) (n count end : ℕ) → count ≡ record_count last (length s) → end ≡ min count (number_end - n)
    → end ≡ min (length (records_of last s)) (number_end - n)
end_is last s n count end counted is = omega (arith, record_count_lem last s)

-- before the end the next record is there, it begins inside the input, and its number fits 64 bits
pub ahead : (last : Bool) (s : List ℕ) (n end k : ℕ) → end ≡ min (length (records_of last s)) (number_end - n) → k < end
    → (k < length (records_of last s)) × (4 * k < length s) × (n + k < number_end)
ahead last s n end k e less =
    let there : k < record_count last (length s) = omega (arith, record_count_lem last s) in
    (omega arith, record_inside last (length s) k there, omega arith)

-- at the end of the records, or of the numbers, all are answered that could be
over : (b₀ : Bench) (n : ℕ) (rs : List Record) (d₀ : List ℕ) (b : Bench) (d : List ℕ) (w k : ℕ) (a : Answer)
    → Turn b₀ n rs d₀ b d w k a → k ≡ min (length rs) (number_end - n) → answered b₀ n rs (length d₀) ≡ k
unfolding answered
over b₀ n rs d₀ b d w k a t at_end =
    let within : k ≤ length rs = omega arith in
    ⊎_elim
    (λ (e : k ≡ length rs).
    let none : length rs ≤ k = omega arith in
    t.left ∙ rw (drop_of_length-le rs none) (add-zero k))
    (λ (less : k < length rs).
    let it-does-not : ltb (n + k) number_end ≡ false = le-ltb (n + k) number_end (omega arith) in
    t.left ∙ rw (drop-cons rs k short less, it-does-not, pick_false) (add-zero k))
    (eq-or-lt_of_le within)

module _ (b₀ : Bench) (n : ℕ) (s : List ℕ) (last : Bool) (d₀ : List ℕ) (b : Bench) (d : List ℕ) (w k : ℕ) (a : Answer) (t : Turn b₀ n (records_of last s) d₀ b d w k a) where
  -- the answer of a run that ends after k records
  finished : answered b₀ n (records_of last s) (length d₀) ≡ k
      → (longest * length (records_of last s) ≤ length d₀ → n + length (records_of last s) ≤ number_end → k ≡ length (records_of last s))
      → Runs b₀ n s last d₀ d (record { bench = b; answer = a; records = k; used = min (4 * k) (length s); written = w })
  finished e enough = record {
    records = sym e;
    used = refl;
    bench = rw e t.bench;
    answer = rw e t.answer;
    written = rw e t.written;
    bytes = rw e t.bytes;
    inside = t.inside;
    enough = enough;
  }

  -- at the end of the records, or of the numbers
  pub ended : k ≡ min (length (records_of last s)) (number_end - n)
      → Runs b₀ n s last d₀ d (record { bench = b; answer = a; records = k; used = min (4 * k) (length s); written = w })
  ended at_end = finished (over b₀ n (records_of last s) d₀ b d w k a t at_end) (λ long fit. at_end ∙ omega arith)

  -- or where the next line found no room
  pub stopped : Full b₀ n (records_of last s) d₀ k
      → Runs b₀ n s last d₀ d (record { bench = b; answer = a; records = k; used = min (4 * k) (length s); written = w })
  stopped f = finished f.told (λ long fit. absurd (f.narrow long))
