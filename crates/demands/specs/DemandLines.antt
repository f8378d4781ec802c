-- Demand 1 for settings lines. What they are refused for is said of all settings, and is no test that is computed.
use Rattle.std.specs.Prelude.{ℕ, ◌<◌, List, [], ◌∷◌, ◌≡◌, length, Result}
use Rattle.base.specs.Answers.{refusal_of}
use Rattle.base.specs.declared.Refusal.{Refusal}
use Rattle.rates.specs.Answering.{answer_in}
use Rattle.setting_lines.specs.Reading.{NoLine, Reads}
use Rattle.setting_lines.specs.Writing.{NoShape, Writes}
use Rattle.setting_lines.specs.SettingRefusals.{RateMissing, DivisorMissing, Lined, line_with}
use Rattle.setting_lines.specs.declared.Setting.{Setting}
use Rattle.demands.specs.Reasons.{Reason, AnsweredBy}

-- ticket 1: "Refusals: 11 for any other line", "then 10"
abbrev pub read_reasons : List ℕ → ℕ → List Reason
read_reasons line clock = record { number = 11; holds = NoLine line } ∷ record { number = 10; holds = RateMissing line clock } ∷ []

abbrev pub Readings : ℕ → Type 0
Readings value = (line : List ℕ) (clock : ℕ) (r : Result Setting Refusal) → Reads line clock r → AnsweredBy value (read_reasons line clock) (answer_in r)

-- ticket 1: "or an LCR byte that no line gives, then 10 (also for a divisor not listed at the clock), then 12 for a lent buffer too short"
abbrev pub write_reasons : ℕ → ℕ → ℕ → List ℕ → List Reason
write_reasons clock divisor lcr d =
    record { number = 11; holds = NoShape lcr }
    ∷ record { number = 10; holds = DivisorMissing clock divisor lcr }
    ∷ record { number = 12; holds = (l : Lined clock divisor lcr) × (length d < length (line_with l)) }
    ∷ []

-- ticket 1: "bytes not written stay"
abbrev pub Writings : ℕ → Type 0
Writings value =
    (clock divisor lcr : ℕ) (d d' : List ℕ) (w : Result ℕ Refusal) → Writes clock divisor lcr d d' w
    → AnsweredBy value (write_reasons clock divisor lcr d) (answer_in w) × ((refusal_of (answer_in w) ≡ 0 → ⊥) → d' ≡ d)
