-- From the bytes of the input to the listing; and how much of it a run gives into a buffer.
use Rattle.std.specs.Prelude.{ℕ, suc, ◌+◌, ◌-◌, ◌*◌, ◌≤◌, min, Bool, true, false, ◌&&◌, List, [], ◌∷◌, ◌++◌, ◌≡◌, ltb, leb, length, take}
use Rattle.std.proofs.lemmas.List.Edits.{sets}
use Rattle.base.specs.Pick.{pick}
use Rattle.base.specs.declared.Answer.{Answer}
use Rattle.base.specs.declared.Answer.TheVariants.{Done}
use Rattle.records.specs.Events.{Record, whole, short}
use Rattle.bench.specs.Runs.{after_all}
use Rattle.bench.specs.Seats.{power_up}
use Rattle.bench.specs.Steps.{outcome}
use Rattle.bench.specs.declared.Bench.{Bench}
use Rattle.text.specs.Line.{line, longest}
use Rattle.listing.specs.declared.Ran.{Ran}

-- "record of 1 to 3 bytes at the end of input": it is the last, since "It stops after refusal 4."; where the input goes on, its other
-- bytes are still to come
abbrev pub unfinished : Bool → List Record
unfinished true = short ∷ []
unfinished false = []

-- "A bench program reads records from standard input."; "An event is a four-byte record: kind, seat, number, value."
unfoldable pub records_of : Bool → List ℕ → List Record
records_of last [] = []
records_of last (kind ∷ []) = unfinished last
records_of last (kind ∷ seat ∷ []) = unfinished last
records_of last (kind ∷ seat ∷ number ∷ []) = unfinished last
records_of last (kind ∷ seat ∷ number ∷ value ∷ rest) = whole kind seat number value ∷ records_of last rest

-- the line of record n
abbrev pub line_of : Bench → ℕ → Record → List ℕ
line_of b n r = line n (outcome b r).answer (outcome b r).output

-- "A line each": the listing of some records, of which the first has number n
unfoldable pub listing : Bench → ℕ → List Record → List ℕ
listing b n [] = []
listing b n (r ∷ rest) = line_of b n r ++ listing (outcome b r).bench (suc n) rest

-- the whole listing of the whole input: "record number in decimal from 0"
abbrev pub listed : List ℕ → List ℕ
listed s = listing power_up 0 (records_of true s)

-- ---- a run into a buffer, which may be too short

-- the first number that does not fit 64 bits
abbrev pub number_end : ℕ
number_end = 18446744073709551616

-- record n is answered where its number fits 64 bits and there is room for its line
abbrev pub fits : Bench → ℕ → Record → ℕ → Bool
fits b n r room = ltb n number_end && leb (length (line_of b n r)) room

-- how many records are answered, in order: a run stops before the first that does not fit
unfoldable pub answered : Bench → ℕ → List Record → ℕ → ℕ
answered b n [] room = 0
answered b n (r ∷ rest) room =
    pick (fits b n r room) (suc (answered (outcome b r).bench (suc n) rest (room - length (line_of b n r)))) 0

-- the records that a run answers
abbrev pub answered_of : Bench → ℕ → List Record → ℕ → List Record
answered_of b n rs room = take (answered b n rs room) rs

-- what the last of some records is answered with; where there is none, what was answered before them
abbrev pub last_answer : Bench → Answer → List Record → Answer
last_answer b before [] = before
last_answer b before (r ∷ rest) = last_answer (outcome b r).bench (outcome b r).answer rest

-- a run over the bytes s into a buffer that was d and is d' then: the bytes that are not written stay
pub record Runs (b : Bench) (n : ℕ) (s : List ℕ) (last : Bool) (d d' : List ℕ) (r : Ran) : Type 0 where
  pub records : r.records ≡ answered b n (records_of last s) (length d)
  pub used : r.used ≡ min (4 * r.records) (length s)
  pub bench : r.bench ≡ after_all b (answered_of b n (records_of last s) (length d))
  pub answer : r.answer ≡ last_answer b Done (answered_of b n (records_of last s) (length d))
  pub written : r.written ≡ length (listing b n (answered_of b n (records_of last s) (length d)))
  pub bytes : d' ≡ sets d 0 (listing b n (answered_of b n (records_of last s) (length d)))
  pub inside : r.written ≤ length d
  -- room for the longest line of each record is room enough
  pub enough : longest * length (records_of last s) ≤ length d → n + length (records_of last s) ≤ number_end
      → r.records ≡ length (records_of last s)
