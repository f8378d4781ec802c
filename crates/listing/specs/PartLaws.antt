-- Running in parts is running whole, and a run has no second outcome.
use Rattle.std.specs.Prelude.{ℕ, zero, suc, ◌+◌, ◌*◌, ◌≤◌, min, ◌≡◌, refl, Bool, true, false, List, [], ◌∷◌, ◌++◌, length, take, drop}
use Rattle.std.proofs.Common.{sym, ap, ◌∙◌, arith, take-append-drop, length-take-le}
use Rattle.records.specs.Events.{Record, whole, short}
use Rattle.bench.specs.Runs.{after_all}
use Rattle.bench.specs.declared.Bench.{Bench}
use Rattle.listing.specs.Run.{records_of, listing, Runs}
use Rattle.listing.specs.RunLaws.{listing_parts}
use Rattle.listing.specs.declared.Ran.{Ran}

-- input cut at a record is the records of both parts
pub records_parts : (last : Bool) (k : ℕ) (s t : List ℕ) → length s ≡ 4 * k
    → records_of last (s ++ t) ≡ records_of false s ++ records_of last t
unfolding records_of
records_parts last k [] t h = refl
records_parts last zero (a ∷ s) t h = absurd (omega arith)
records_parts last (suc k) (a ∷ []) t h = absurd (omega arith)
records_parts last (suc k) (a ∷ b ∷ []) t h = absurd (omega arith)
records_parts last (suc k) (a ∷ b ∷ c ∷ []) t h = absurd (omega arith)
records_parts last (suc k) (a ∷ b ∷ c ∷ d ∷ s) t h = ap (λ (l : List Record). whole a b c d ∷ l) (records_parts last k s t (omega arith))

records_count : (k : ℕ) (s : List ℕ) → length s ≡ 4 * k → length (records_of false s) ≡ k
unfolding records_of
records_count zero [] h = refl
records_count (suc k) [] h = absurd (omega arith)
records_count zero (a ∷ s) h = absurd (omega arith)
records_count (suc k) (a ∷ []) h = absurd (omega arith)
records_count (suc k) (a ∷ b ∷ []) h = absurd (omega arith)
records_count (suc k) (a ∷ b ∷ c ∷ []) h = absurd (omega arith)
records_count (suc k) (a ∷ b ∷ c ∷ d ∷ s) h = ap suc (records_count k s (omega arith))

-- the listing of a whole input is that of k records and that of the rest, from the bench after them and the number after theirs
pub listing_whole : (b : Bench) (n : ℕ) (last : Bool) (k : ℕ) (s t : List ℕ) → length s ≡ 4 * k
    → listing b n (records_of last (s ++ t))
    ≡ listing b n (records_of false s) ++ listing (after_all b (records_of false s)) (n + k) (records_of last t)
listing_whole b n last k s t h = rw (records_parts last k s t h, listing_parts, records_count k s h)

-- what a run that stopped early has left gives the rest of the listing
pub listing_left : (b : Bench) (n k : ℕ) (rs : List Record) → k ≤ length rs
    → listing b n (take k rs) ++ listing (after_all b (take k rs)) (n + k) (drop k rs) ≡ listing b n rs
listing_left b n k rs h =
    let l : length (take k rs) ≡ k = length-take-le k rs h in
    ap (λ (m : ℕ). listing b n (take k rs) ++ listing (after_all b (take k rs)) (n + m) (drop k rs)) (sym l)
    ∙ sym (listing_parts b n (take k rs) (drop k rs))
    ∙ ap (listing b n) (take-append-drop k rs)

-- the records from the k-th on are those of the bytes from 4 * k on
pub records_left : (last : Bool) (k : ℕ) (s : List ℕ) → 4 * k ≤ length s
    → (k ≤ length (records_of last s)) × (drop k (records_of last s) ≡ records_of last (drop (4 * k) s))
unfolding records_of
records_left last zero s h = (omega arith, refl)
records_left last (suc k) [] h = absurd (omega arith)
records_left last (suc k) (a ∷ []) h = absurd (omega arith)
records_left last (suc k) (a ∷ b ∷ []) h = absurd (omega arith)
records_left last (suc k) (a ∷ b ∷ c ∷ []) h = absurd (omega arith)
records_left last (suc k) (a ∷ b ∷ c ∷ d ∷ s) h =
    let on : 4 * suc k ≡ suc (suc (suc (suc (4 * k)))) = omega arith in
    let rest : _ = records_left last k s (omega arith) in
    (omega arith, rw on rest.1)

-- so a run that stopped after k whole records goes on at the bytes that it did not use
pub listing_on : (b : Bench) (n : ℕ) (last : Bool) (k : ℕ) (s : List ℕ) → 4 * k ≤ length s
    → listing b n (take k (records_of last s)) ++ listing (after_all b (take k (records_of last s))) (n + k) (records_of last (drop (4 * k) s))
    ≡ listing b n (records_of last s)
listing_on b n last k s h =
    rw (← (records_left last k s h).1) (listing_left b n k (records_of last s) (records_left last k s h).0)

-- "record of 1 to 3 bytes at the end of input": it is the last record, and there is no other way to one
pub short_last : (k : ℕ) (s : List ℕ) (a b c : ℕ) → length s ≡ 4 * k
    → (records_of true (s ++ (a ∷ [])) ≡ records_of false s ++ (short ∷ []))
    × (records_of true (s ++ (a ∷ b ∷ [])) ≡ records_of false s ++ (short ∷ []))
    × (records_of true (s ++ (a ∷ b ∷ c ∷ [])) ≡ records_of false s ++ (short ∷ []))
unfolding records_of
short_last k s a b c h = (records_parts true k s _ h, records_parts true k s _ h, records_parts true k s _ h)

pub runs_one : (b : Bench) (n : ℕ) (s : List ℕ) (last : Bool) (d d₁ d₂ : List ℕ) (r₁ r₂ : Ran)
    → Runs b n s last d d₁ r₁ → Runs b n s last d d₂ r₂ → (r₁ ≡ r₂) × (d₁ ≡ d₂)
runs_one b n s last d d₁ d₂ r₁ r₂ p q =
    let e : r₁.records ≡ r₂.records = p.records ∙ sym q.records in
    let u : r₁.used ≡ r₂.used = p.used ∙ ap (λ (k : ℕ). min (4 * k) (length s)) e ∙ sym q.used in (
      λ i. record {
        bench = (p.bench ∙ sym q.bench) i;
        answer = (p.answer ∙ sym q.answer) i;
        records = e i;
        used = u i;
        written = (p.written ∙ sym q.written) i;
      },
      p.bytes ∙ sym q.bytes,
    )
