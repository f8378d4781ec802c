-- How much finds room: a run answers as many records as fit, no fewer and no more.
use Rattle.std.specs.Prelude.{ℕ, zero, suc, ◌+◌, ◌-◌, ◌*◌, ◌≤◌, ◌<◌, Bool, true, false, List, [], ◌∷◌, ◌++◌, ◌≡◌, refl, ltb, leb, length, take, drop}
use Rattle.std.proofs.Common.{sym, ap, subst, ◌∙◌, ⊎_elim, arith, length-append, drop_of_length-le, lt-ltb, le-leb, leb-true, ltb-true, ltb-false}
use Rattle.base.specs.PickLaws.{pick_true, pick_cases, both_hold, either_way}
use Rattle.base.specs.declared.Answer.TheVariants.{Done}
use Rattle.records.specs.Events.{Record, whole}
use Rattle.bench.specs.Runs.{after_all}
use Rattle.bench.specs.Steps.{outcome}
use Rattle.bench.specs.declared.Bench.{Bench}
use Rattle.text.specs.Line.{longest}
use Rattle.listing.specs.Run.{records_of, line_of, listing, fits, answered, last_answer, number_end, Runs}
use Rattle.listing.specs.RunLaws.{record_count_lem, record_inside}
use Rattle.listing.specs.PartLaws.{records_left}
use Rattle.listing.specs.declared.Ran.{Ran}

-- so many records whose lines have room, and whose numbers fit 64 bits, are answered: no fewer
pub answered_most : (k : ℕ) (b : Bench) (n : ℕ) (rs : List Record) (room : ℕ) → k ≤ length rs → n + k ≤ number_end
    → length (listing b n (take k rs)) ≤ room → k ≤ answered b n rs room
unfolding listing answered
answered_most zero b n rs room some small enough = omega arith
answered_most (suc k) b n [] room some small enough = absurd (omega arith)
answered_most (suc k) b n (r ∷ rs) room some small enough =
    let sum : length (line_of b n r ++ listing (outcome b r).bench (suc n) (take k rs))
    ≡ length (line_of b n r) + length (listing (outcome b r).bench (suc n) (take k rs)) = length-append (line_of b n r) _ in
    let it-fits : fits b n r room ≡ true = rw (lt-ltb n number_end (omega arith)) (le-leb (length (line_of b n r)) room (omega arith)) in
    let rest : k ≤ answered (outcome b r).bench (suc n) rs (room - length (line_of b n r)) =
    answered_most k (outcome b r).bench (suc n) rs (room - length (line_of b n r)) (omega arith) (omega arith) (omega arith) in
    rw (pick_true _ _ _ it-fits) (omega arith)

-- and no more
pub answered_fits : (b : Bench) (n : ℕ) (rs : List Record) (room : ℕ) → length (listing b n (take (answered b n rs room) rs)) ≤ room
unfolding listing answered
answered_fits b n [] room = omega arith
answered_fits b n (r ∷ rs) room =
    pick_cases (λ (k : ℕ). length (listing b n (take k (r ∷ rs))) ≤ room) (fits b n r room) _ 0
    (λ yes.
    let less : length (line_of b n r) ≤ room = leb-true _ _ (both_hold (ltb n number_end) (leb (length (line_of b n r)) room) yes).1 in
    let rest : _ = answered_fits (outcome b r).bench (suc n) rs (room - length (line_of b n r)) in
    rw (length-append (line_of b n r)) (omega (arith, less, rest)))
    (λ no. omega arith)

-- so many records as the bytes are all of them
all_of : (last : Bool) (s : List ℕ) (k : ℕ) → length s ≤ 4 * k → length (records_of last s) ≤ k
all_of last s k all =
    ⊎_elim
    (λ (less : ltb k (length (records_of last s)) ≡ true).
    let inside : 4 * k < length s =
    record_inside last (length s) k (subst (λ (m : ℕ). k < m) (record_count_lem last s) (ltb-true k (length (records_of last s)) less)) in
    absurd (omega arith))
    (λ (more : ltb k (length (records_of last s)) ≡ false). ltb-false k (length (records_of last s)) more)
    (either_way (ltb k (length (records_of last s))))

none_of : (last : Bool) → records_of last [] ≡ []
unfolding records_of
none_of last = refl

-- a run uses no byte that is not there; and the bytes that it has not used are those of the records that it has not answered, so that the
-- next run goes on there
pub rest_left : (b : Bench) (n : ℕ) (s : List ℕ) (last : Bool) (d d' : List ℕ) (r : Ran) → Runs b n s last d d' r
    → (r.used ≤ length s) × (records_of last (drop r.used s) ≡ drop r.records (records_of last s))
rest_left b n s last d d' r p = (
  omega (arith, p.used),
  ⊎_elim
      (λ (before : ltb (4 * r.records) (length s) ≡ true).
      let less : 4 * r.records < length s = ltb-true _ _ before in
      let used : r.used ≡ 4 * r.records = omega (arith, p.used) in
      ap (λ (m : ℕ). records_of last (drop m s)) used ∙ sym (records_left last r.records s (omega arith)).1)
      (λ (over : ltb (4 * r.records) (length s) ≡ false).
      let all : length s ≤ 4 * r.records = ltb-false _ _ over in
      let used : length s ≤ r.used = omega (arith, p.used) in
      ap (records_of last) (drop_of_length-le s used) ∙ none_of last
      ∙ sym (drop_of_length-le (records_of last s) (all_of last s r.records all)))
      (either_way (ltb (4 * r.records) (length s))),
)

-- one record of four bytes, with room for the longest line: it is answered, by the bench as it was
pub one_answered : (b : Bench) (n : ℕ) (kind seat number value : ℕ) (last : Bool) (d d' : List ℕ) (r : Ran) → n < number_end → longest ≤ length d
    → Runs b n (kind ∷ seat ∷ number ∷ value ∷ []) last d d' r
    → (r.bench ≡ (outcome b (whole kind seat number value)).bench) × (r.answer ≡ (outcome b (whole kind seat number value)).answer)
unfolding records_of
one_answered b n kind seat number value last d d' r small wide p =
    let rs = whole kind seat number value ∷ [] in
    let one : answered b n rs (length d) ≡ 1 = sym p.records ∙ p.enough (omega arith) (omega arith) in (
      p.bench ∙ ap (λ (k : ℕ). after_all b (take k rs)) one,
      p.answer ∙ ap (λ (k : ℕ). last_answer b Done (take k rs)) one,
    )
