-- Demand 1 for saved benches. What an image is refused for is said of its bytes, and not by the reader's tests.
use Rattle.std.specs.Prelude.{ℕ, ◌+◌, ◌*◌, ◌<◌, List, [], ◌∷◌, ◌⊎◌, ◌≡◌, length, take, drop}
use Rattle.base.specs.declared.Answer.{Answer}
use Rattle.base.specs.Answers.{refusal_of}
use Rattle.bench.specs.declared.Bench.{Bench}
use Rattle.text.specs.Quoted.{quoted}
use Rattle.channel_image.specs.Fields.{byte_at}
use Rattle.image.specs.Fields.{ImageFields}
use Rattle.image.specs.Refusals.{restored}
use Rattle.image.specs.Written.{Saves}
use Rattle.demands.specs.Reasons.{Reason, AnsweredBy}

-- ticket 2: "12 no room"
abbrev pub save_reasons : ℕ → List ℕ → List Reason
save_reasons at l = record { number = 12; holds = length l < at + 704 } ∷ []

-- ticket 2: "each leaves buffer and bench untouched"
abbrev pub Savings : ℕ → Type 0
Savings value =
    (b : Bench) (at : ℕ) (l l' : List ℕ) (r : Answer) → Saves b at l l' r
    → AnsweredBy value (save_reasons at l) r × ((refusal_of r ≡ 0 → ⊥) → l' ≡ l)

-- ticket 2: "the three letters `BEN`": they are not there
abbrev pub NoMark : List ℕ → Type 0
NoMark p = take 3 p ≡ quoted "BEN" → ⊥

-- ticket 2: "a 16-bit version (1, low byte first)"; ticket 8: "the saved bench becomes version 2, and version 1 reads": another stands there
abbrev pub version_in : List ℕ → ℕ
version_in p = byte_at p 3 + 256 * byte_at p 4

abbrev pub NoVersion : List ℕ → Type 0
NoVersion p = (version_in p ≡ 1) ⊎ (version_in p ≡ 2) → ⊥

-- ticket 2: "shorter than its version": 544 bytes of version 1, 704 of version 2
abbrev pub TooShort : List ℕ → Type 0
TooShort p = ((version_in p ≡ 1) × (length p < 544)) ⊎ ((version_in p ≡ 2) × (length p < 704))

-- ticket 2: "Refusals, in order: 12 no room or below 5 bytes, 13 wrong mark, 14 unknown version, 12 shorter than its version, 15 exactly for"
abbrev pub restore_reasons : List ℕ → List Reason
restore_reasons p =
    record { number = 12; holds = length p < 5 }
    ∷ record { number = 13; holds = NoMark p }
    ∷ record { number = 14; holds = NoVersion p }
    ∷ record { number = 12; holds = TooShort p }
    ∷ record { number = 15; holds = ImageFields p → ⊥ }
    ∷ []

abbrev pub Restorings : ℕ → Type 0
Restorings value =
    (b : Bench) (l : List ℕ) (at : ℕ)
    → AnsweredBy value (restore_reasons (drop at l)) (restored b (drop at l)).answer
    × ((refusal_of (restored b (drop at l)).answer ≡ 0 → ⊥) → (restored b (drop at l)).bench ≡ b)
