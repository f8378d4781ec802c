-- Running in two parts is running whole; the records by their places.
use Rattle.std.specs.Prelude.{ℕ, zero, suc, ◌+◌, ◌-◌, ◌*◌, ◌/◌, ◌%◌, ◌<◌, ◌≡◌, refl, Bool, true, false, eqb, List, [], ◌∷◌, ◌++◌, length, get_or}
use Rattle.std.proofs.Common.{sym, ap, ◌∙◌, append_assoc, arith, add-zero, suc-add, not-suc-le-zero, le-ltb, ⊎_elim}
use Rattle.std.proofs.lemmas.Bool.{eqb-false}
use Rattle.base.specs.Pick.{pick}
use Rattle.base.specs.PickLaws.{pick_false, pick_through, either_way}
use Rattle.base.specs.declared.Answer.{Answer}
use Rattle.records.specs.Events.{Record, short}
use Rattle.bench.specs.Runs.{after_all}
use Rattle.bench.specs.Steps.{outcome}
use Rattle.bench.specs.declared.Bench.{Bench}
use Rattle.listing.specs.Run.{records_of, listing, line_of, last_answer}
use Rattle.listing.specs.Places.{record_at, record_count}

pub listing_parts : (b : Bench) (n : ℕ) (xs ys : List Record)
    → listing b n (xs ++ ys) ≡ listing b n xs ++ listing (after_all b xs) (n + length xs) ys
unfolding listing
listing_parts b n [] ys = rw (add-zero n)
listing_parts b n (r ∷ xs) ys =
    let e : suc n + length xs ≡ n + suc (length xs) = omega arith in
    ap (λ (l : List ℕ). line_of b n r ++ l) (listing_parts (outcome b r).bench (suc n) xs ys)
    ∙ sym (append_assoc (line_of b n r) _ _)
    ∙ ap (λ (m : ℕ). listing b n (r ∷ xs) ++ listing (after_all (outcome b r).bench xs) m ys) e

-- the last record is answered by the bench behind those before it
pub last_answer_lem : (b : Bench) (a : Answer) (rs : List Record) (r : Record) → last_answer b a (rs ++ (r ∷ [])) ≡ (outcome (after_all b rs) r).answer
last_answer_lem b a [] r = refl
last_answer_lem b a (s ∷ rs) r = last_answer_lem (outcome b s).bench (outcome b s).answer rs r

-- ---- the record at a place

four_on : (kind seat number value : ℕ) (s : List ℕ) (k : ℕ)
    → record_at (kind ∷ seat ∷ number ∷ value ∷ s) (4 * suc k) ≡ record_at s (4 * k)
unfolding record_at
four_on kind seat number value s k =
    let e0 : 4 * suc k ≡ suc (suc (suc (suc (4 * k)))) = omega arith in
    let e1 : 4 * suc k + 1 ≡ suc (suc (suc (suc (4 * k + 1)))) = omega arith in
    let e2 : 4 * suc k + 2 ≡ suc (suc (suc (suc (4 * k + 2)))) = omega arith in
    let e3 : 4 * suc k + 3 ≡ suc (suc (suc (suc (4 * k + 3)))) = omega arith in
    let l : suc (suc (suc (suc (length s)))) - 4 * suc k ≡ length s - 4 * k = omega arith in
    rw (l, e1, e2, e3, e0)

pub record_place_lem : (last : Bool) (s : List ℕ) (k : ℕ) → k < length (records_of last s)
    → get_or (records_of last s) k short ≡ record_at s (4 * k)
unfolding records_of record_at pick
record_place_lem last [] k h = absurd (not-suc-le-zero h)
record_place_lem false (a ∷ []) k h = absurd (not-suc-le-zero h)
record_place_lem false (a ∷ b ∷ []) k h = absurd (not-suc-le-zero h)
record_place_lem false (a ∷ b ∷ c ∷ []) k h = absurd (not-suc-le-zero h)
record_place_lem true (a ∷ []) zero h = refl
record_place_lem true (a ∷ b ∷ []) zero h = refl
record_place_lem true (a ∷ b ∷ c ∷ []) zero h = refl
record_place_lem true (a ∷ []) (suc k) h = absurd (omega arith)
record_place_lem true (a ∷ b ∷ []) (suc k) h = absurd (omega arith)
record_place_lem true (a ∷ b ∷ c ∷ []) (suc k) h = absurd (omega arith)
record_place_lem last (a ∷ b ∷ c ∷ d ∷ s) zero h = sym (pick_false _ _ _ (le-ltb (suc (suc (suc (suc (length s)))) - 0) 4 (omega arith)))
record_place_lem last (a ∷ b ∷ c ∷ d ∷ s) (suc k) h =
    record_place_lem last s k (omega arith) ∙ sym (four_on a b c d s k)

four_more : (last : Bool) (n : ℕ) → suc (record_count last n) ≡ record_count last (suc (suc (suc (suc n))))
unfolding record_count
four_more last n =
    let m : suc (suc (suc (suc n))) % 4 ≡ n % 4 = omega arith in
    let q : suc (suc (suc (suc n))) / 4 ≡ suc (n / 4) = omega arith in
    pick_through suc _ _ _ ∙ rw (m, q, suc-add)

pub record_count_lem : (last : Bool) (s : List ℕ) → length (records_of last s) ≡ record_count last (length s)
unfolding records_of record_count pick
record_count_lem true [] = refl
record_count_lem false [] = refl
record_count_lem true (a ∷ []) = refl
record_count_lem true (a ∷ b ∷ []) = refl
record_count_lem true (a ∷ b ∷ c ∷ []) = refl
record_count_lem false (a ∷ []) = refl
record_count_lem false (a ∷ b ∷ []) = refl
record_count_lem false (a ∷ b ∷ c ∷ []) = refl
record_count_lem last (a ∷ b ∷ c ∷ d ∷ s) = ap suc (record_count_lem last s) ∙ four_more last (length s)

-- each record counted begins inside the input
pub record_inside : (last : Bool) (bytes k : ℕ) → k < record_count last bytes → 4 * k < bytes
unfolding record_count pick
record_inside false bytes k h = omega arith
record_inside true bytes k h =
    ⊎_elim
    (λ (even : eqb (bytes % 4) 0 ≡ true).
    let less : k < bytes / 4 = rw (even) at h in omega arith)
    (λ (odd : eqb (bytes % 4) 0 ≡ false).
    let less : k < bytes / 4 + 1 = rw (odd) at h in omega (arith, eqb-false (bytes % 4) 0 odd))
    (either_way (eqb (bytes % 4) 0))

-- where the input goes on, only whole records count
pub whole_count : (bytes : ℕ) → record_count false bytes ≡ bytes / 4
unfolding record_count pick
whole_count bytes = refl
