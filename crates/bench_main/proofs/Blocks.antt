-- The program's loops: what stands in the block between two reads, and how far a run has come.
use Prim.Native.Nat.{ℕ, zero, suc, ◌+◌, ◌*◌, ◌%◌, ◌≤◌, ◌<◌}
use mathlib.Core.Path.{◌≡◌, refl}
use mathlib.Core.Bool.{Bool}
use mathlib.Core.List.{List}
use native.Mathlib.Omega.{arith}
use lib.ListN.{length}
use Rattle.bench.specs.declared.Bench.{Bench}
use Rattle.listing.specs.Run.{Runs, records_of}
use Rattle.listing.specs.Places.{record_count}
use Rattle.listing.specs.RunLaws.{record_count_lem, record_inside}
use Rattle.listing.specs.declared.Ran.{Ran}

-- no run has more records
abbrev pub many : ℕ
many = 1152921504606846976

-- ---- between two reads

-- at most three bytes wait, at a place where a record may stand; the numbers suffice for the reads that are left
pub record Between (input out : List ℕ) (number start end reads : ℕ) : Type 0 where
  pub block : length input ≡ 65536
  pub room : length out ≡ 524288
  pub numbers : number + 65536 * reads ≤ many
  pub even : start % 4 ≡ 0
  pub order : start ≤ end
  pub few : end < start + 4
  pub below : end < 65536

-- ---- within a run

-- so many records were played from number `first` on, of so many bytes
pub record Played (records out : List ℕ) (first all number at : ℕ) : Type 0 where
  pub room : length out ≡ 524288
  pub few : first + length records ≤ many
  pub inside : all ≤ length records
  pub order : at ≤ all
  pub numbers : number ≤ first + at

count_few : (last : Bool) (bytes count : ℕ) → record_count last bytes ≡ count → 4 * count < bytes + 4
count_few last bytes zero e = omega arith
count_few last bytes (suc k) e = let inside : 4 * k < bytes = record_inside last bytes k (omega arith) in omega arith

-- records that have room for all their lines are answered whole, and they are no more than their bytes
pub block_few : (b : Bench) (n : ℕ) (l : List ℕ) (last : Bool) (d d' : List ℕ) (r : Ran) → Runs b n l last d d' r → length l ≤ 65536
    → length d ≡ 524288 → n ≤ many → r.records ≤ length l
block_few b n l last d d' r h block room numbers =
    let count : length (records_of last l) ≡ record_count last (length l) = record_count_lem last l in
    let few : 4 * record_count last (length l) < length l + 4 = count_few last (length l) _ refl in
    let all : r.records ≡ length (records_of last l) = h.enough (omega arith) (omega arith) in
    omega arith
