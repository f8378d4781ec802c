-- What a listing must show: each record's own line, in order, under its number; and no byte of the input is passed over.
use Rattle.std.specs.Prelude.{ℕ, zero, suc, ◌+◌, ◌*◌, ◌^◌, Bool, List, [], ◌∷◌, ◌++◌, ◌≡◌, refl, length}
use Rattle.std.proofs.Common.{append-nil, ap, subst, ◌∙◌, arith}
use Rattle.controller.specs.Turns.{output_of}
use Rattle.records.specs.Events.{Record, whole, short}
use Rattle.bench.specs.Runs.{after_all}
use Rattle.bench.specs.Steps.{outcome}
use Rattle.bench.specs.OutcomeLaws.{outcome_output}
use Rattle.bench.specs.declared.Bench.{Bench}
use Rattle.text.proofs.FormLaws.{Form, line_form, line_ends, none_ends, ends_append, form_ends}
use Rattle.listing.specs.Run.{records_of, line_of, listing, number_end}
use Rattle.listing.specs.RunLaws.{listing_parts}

-- "output after the event": the line of a record shows its answer on the bench before it, and the controller's output after it
pub line_shown : (b : Bench) (n : ℕ) (r : Record) → Form n (outcome b r).answer (output_of (outcome b r).bench.controller) (line_of b n r)
line_shown b n r = subst (λ (high : Bool). Form n (outcome b r).answer high (line_of b n r)) (outcome_output b r) (line_form n _ _)

-- "A line each: record number in decimal from 0": one record more is one line more, of the bench after the others, under the next number
pub listing_last : (b : Bench) (n : ℕ) (rs : List Record) (r : Record)
    → listing b n (rs ++ (r ∷ [])) ≡ listing b n rs ++ line_of (after_all b rs) (n + length rs) r
unfolding listing
listing_last b n rs r =
    listing_parts b n rs (r ∷ []) ∙ ap (λ (l : List ℕ). listing b n rs ++ l) (append-nil (line_of (after_all b rs) (n + length rs) r))

-- and no line is missing, or too many
pub line_each : (b : Bench) (n : ℕ) (rs : List Record) → line_ends (listing b n rs) ≡ length rs
unfolding listing
line_each b n [] = none_ends
line_each b n (r ∷ rs) =
    ends_append (line_of b n r) _
    ∙ rw (form_ends n _ _ (line_of b n r) (line_form n _ _), line_each (outcome b r).bench (suc n) rs) (omega arith)

-- the bytes of some records, one after the other
abbrev pub bytes_of : List Record → List ℕ
bytes_of [] = []
bytes_of (whole kind seat number value ∷ rest) = kind ∷ seat ∷ number ∷ value ∷ bytes_of rest
bytes_of (short ∷ rest) = bytes_of rest

-- "An event is a four-byte record: kind, seat, number, value.": the records of an input are its bytes, all of them and in their order
pub bytes_back : (last : Bool) (k : ℕ) (s : List ℕ) → length s ≡ 4 * k → bytes_of (records_of last s) ≡ s
unfolding records_of
bytes_back last k [] h = refl
bytes_back last zero (a ∷ s) h = absurd (omega arith)
bytes_back last (suc k) (a ∷ []) h = absurd (omega arith)
bytes_back last (suc k) (a ∷ b ∷ []) h = absurd (omega arith)
bytes_back last (suc k) (a ∷ b ∷ c ∷ []) h = absurd (omega arith)
bytes_back last (suc k) (a ∷ b ∷ c ∷ d ∷ s) h = ap (λ (l : List ℕ). a ∷ b ∷ c ∷ d ∷ l) (bytes_back last k s (omega arith))

-- a record is numbered as long as its number fits 64 bits
pub number_end_lem : number_end ≡ 2 ^ 64
number_end_lem = refl
