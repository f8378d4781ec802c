-- What a run leaves to the next: its lines in the buffer, the bench, the number and the bytes that are left. Two runs are one.
use Rattle.std.specs.Prelude.{ℕ, zero, suc, ◌+◌, ◌-◌, ◌≤◌, Bool, List, [], ◌∷◌, ◌++◌, ◌≡◌, length, take, drop}
use Rattle.std.proofs.Common.{sym, ap, ap₂, ◌∙◌, arith, zero-add, suc-add, length-take-le}
use Rattle.std.proofs.Math.Seq.{take-nil}
use Rattle.base.specs.PickLaws.{pick_cases}
use Rattle.base.specs.StoreLaws.{stored_first}
use Rattle.records.specs.Events.{Record}
use Rattle.bench.specs.Runs.{after_all}
use Rattle.bench.specs.Steps.{outcome}
use Rattle.bench.specs.declared.Bench.{Bench}
use Rattle.listing.specs.Run.{records_of, line_of, listing, fits, answered, answered_of, Runs}
use Rattle.listing.specs.RunLaws.{listing_parts}
use Rattle.listing.proofs.RoomLaws.{rest_left}
use Rattle.listing.specs.declared.Ran.{Ran}

-- no record is answered that is not there
answered_there : (b : Bench) (n : ℕ) (rs : List Record) (room : ℕ) → answered b n rs room ≤ length rs
unfolding answered
answered_there b n [] room = omega arith
answered_there b n (r ∷ rs) room =
    let rest : _ = answered_there (outcome b r).bench (suc n) rs (room - length (line_of b n r)) in
    pick_cases (λ (k : ℕ). k ≤ suc (length rs)) (fits b n r room) _ 0 (λ yes. omega (arith, rest)) (λ no. omega arith)

take_both : {A : Type 0} (k m : ℕ) (l : List A) → take k l ++ take m (drop k l) ≡ take (k + m) l
take_both zero m l = ap (λ (n : ℕ). take n l) (sym (zero-add m))
take_both (suc k) m [] = take-nil m ∙ sym (take-nil (suc k + m))
take_both (suc k) m (x ∷ l) = ap (λ r. x ∷ r) (take_both k m l) ∙ ap (λ (n : ℕ). take n (x ∷ l)) (sym (suc-add k m))

module _ (b : Bench) (n : ℕ) (s : List ℕ) (last : Bool) (d d' : List ℕ) (r : Ran) (p : Runs b n s last d d' r) where
  -- as many bytes as it tells are the lines of the records that it tells, and behind them the buffer is as it was
  pub run_shown : (take r.written d' ≡ listing b n (take r.records (records_of last s))) × (drop r.written d' ≡ drop r.written d)
  run_shown =
      let ls : List ℕ = listing b n (answered_of b n (records_of last s) (length d)) in
      let shown : _ = stored_first r.written ls d d' (sym p.written) p.inside p.bytes in
      (shown.0 ∙ ap (λ (k : ℕ). listing b n (take k (records_of last s))) (sym p.records), shown.1)

-- a run from the bench, the number and the bytes that another left goes on where that stopped, whatever the buffers hold
pub run_on : (b : Bench) (n : ℕ) (s : List ℕ) (last : Bool) (d d' : List ℕ) (r : Ran) → Runs b n s last d d' r
    → (e e' : List ℕ) (q : Ran) → Runs r.bench (n + r.records) (drop r.used s) last e e' q
    → take r.written d' ++ take q.written e' ≡ listing b n (take (r.records + q.records) (records_of last s))
run_on b n s last d d' r p e e' q p' =
    let rs : List Record = records_of last s in
    let some : r.records ≤ length rs = omega (arith, p.records, answered_there b n rs (length d)) in
    let size : length (take r.records rs) ≡ r.records = length-take-le r.records rs some in
    let left : r.bench ≡ after_all b (take r.records rs) = p.bench ∙ ap (λ (k : ℕ). after_all b (take k rs)) (sym p.records) in
    ap₂ (λ (x y : List ℕ). x ++ y) (run_shown b n s last d d' r p).0
    ((run_shown r.bench (n + r.records) (drop r.used s) last e e' q p').0
    ∙ ap₂ (λ (c : Bench) (l : List Record). listing c (n + r.records) (take q.records l)) left (rest_left b n s last d d' r p).1)
    ∙ ap (λ (k : ℕ). listing b n (take r.records rs) ++ listing (after_all b (take r.records rs)) (n + k) (take q.records (drop r.records rs))) (sym size)
    ∙ sym (listing_parts b n (take r.records rs) (take q.records (drop r.records rs)))
    ∙ ap (listing b n) (take_both r.records q.records rs)
