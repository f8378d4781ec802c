-- Ticket 1: each refusal exactly in its own case, and what of the buffer stays.
use Rattle.std.specs.Prelude.{ℕ, ◌≤◌, ◌<◌, List, ◌≡◌, length, drop, Result}
use Rattle.base.specs.declared.Answer.TheVariants.{Done, Divisor, Refused}
use Rattle.base.specs.declared.Refusal.{Refusal}
use Rattle.rates.specs.Answering.{answer_in}
use Rattle.rates.specs.Rates.{divisor_of}
use Rattle.rates.proofs.RatesLaws.{Listed}
use Rattle.setting_lines.specs.Fields.{Shape, Sized, Rated, line_of, lcr_of}
use Rattle.setting_lines.specs.Reading.{divisor_in, lcr_in, NoLine, Reads}
use Rattle.setting_lines.specs.Writing.{left, length_in, NoShape, Writes}
use Rattle.setting_lines.specs.ThereAndBack.{begun_by}
use Rattle.setting_lines.specs.declared.Setting.{Setting}

-- ---- reading

-- the line of a rate and a shape, where the clock's list has not that rate, as 56000 at clock 1, or the clock is above 2
pub record RateMissing (line : List ℕ) (clock : ℕ) : Type 0 where
  pub rate : ℕ
  pub shape : Shape
  pub rated : Rated rate
  pub sized : Sized shape
  pub is : line ≡ line_of rate shape
  pub missing : Listed rate clock → ⊥

-- ticket 1: "Refusals: 11 for any other line", "then 10"
pub record ReadRefusals : Type 0 where
  pub gives_11 : (line : List ℕ) (clock : ℕ) (r : Result Setting Refusal) → Reads line clock r → NoLine line → answer_in r ≡ Refused 11
  pub only_11 : (line : List ℕ) (clock : ℕ) (r : Result Setting Refusal) → Reads line clock r → answer_in r ≡ Refused 11 → NoLine line
  pub gives_10 : (line : List ℕ) (clock : ℕ) (r : Result Setting Refusal) → Reads line clock r → RateMissing line clock → answer_in r ≡ Refused 10
  pub only_10 : (line : List ℕ) (clock : ℕ) (r : Result Setting Refusal) → Reads line clock r → answer_in r ≡ Refused 10 → RateMissing line clock

-- ---- writing

-- the LCR byte of a shape, and a divisor that the clock's list has for a rate: these have a line
pub record Lined (clock divisor lcr : ℕ) : Type 0 where
  pub rate : ℕ
  pub shape : Shape
  pub sized : Sized shape
  pub is : lcr ≡ lcr_of shape
  pub listed : divisor_of rate clock ≡ Divisor divisor

abbrev pub line_with : {clock divisor lcr : ℕ} → Lined clock divisor lcr → List ℕ
line_with l = line_of l.rate l.shape

-- the LCR byte of a shape, and a divisor that the clock's list has for none
pub record DivisorMissing (clock divisor lcr : ℕ) : Type 0 where
  pub shape : Shape
  pub sized : Sized shape
  pub is : lcr ≡ lcr_of shape
  pub missing : (rate : ℕ) → divisor_of rate clock ≡ Divisor divisor → ⊥

-- ticket 1: "or an LCR byte that no line gives, then 10 (also for a divisor not listed at the clock), then 12 for a lent buffer too short"
pub record WriteRefusals : Type 0 where
  pub gives_11 : (clock divisor lcr : ℕ) (d d' : List ℕ) (w : Result ℕ Refusal) → Writes clock divisor lcr d d' w → NoShape lcr → answer_in w ≡ Refused 11
  pub only_11 : (clock divisor lcr : ℕ) (d d' : List ℕ) (w : Result ℕ Refusal) → Writes clock divisor lcr d d' w → answer_in w ≡ Refused 11 → NoShape lcr
  pub gives_10 : (clock divisor lcr : ℕ) (d d' : List ℕ) (w : Result ℕ Refusal) → Writes clock divisor lcr d d' w → DivisorMissing clock divisor lcr → answer_in w ≡ Refused 10
  pub only_10 : (clock divisor lcr : ℕ) (d d' : List ℕ) (w : Result ℕ Refusal) → Writes clock divisor lcr d d' w → answer_in w ≡ Refused 10 → DivisorMissing clock divisor lcr
  pub gives_12 : (clock divisor lcr : ℕ) (d d' : List ℕ) (w : Result ℕ Refusal) → Writes clock divisor lcr d d' w
      → (l : Lined clock divisor lcr) → length d < length (line_with l) → answer_in w ≡ Refused 12
  pub only_12 : (clock divisor lcr : ℕ) (d d' : List ℕ) (w : Result ℕ Refusal) → Writes clock divisor lcr d d' w → answer_in w ≡ Refused 12
      → (l : Lined clock divisor lcr) × (length d < length (line_with l))
  pub gives_line : (clock divisor lcr : ℕ) (d d' : List ℕ) (w : Result ℕ Refusal) → Writes clock divisor lcr d d' w
      → (l : Lined clock divisor lcr) → length (line_with l) ≤ length d → left w d' ≡ begun_by d (line_with l)

-- ---- the numbers beside a refusal are 0

pub record Nothing : Type 0 where
  pub read : (line : List ℕ) (clock : ℕ) (r : Result Setting Refusal) → Reads line clock r → (answer_in r ≡ Done → ⊥) → (divisor_in r ≡ 0) × (lcr_in r ≡ 0)
  pub written : (clock divisor lcr : ℕ) (d d' : List ℕ) (w : Result ℕ Refusal) → Writes clock divisor lcr d d' w → (answer_in w ≡ Done → ⊥) → length_in w ≡ 0

-- ---- the buffer

-- ticket 1: "bytes not written stay"
pub record Stays : Type 0 where
  -- in a refusal the whole buffer stays
  pub refused : (clock divisor lcr : ℕ) (d d' : List ℕ) (w : Result ℕ Refusal) → Writes clock divisor lcr d d' w → (answer_in w ≡ Done → ⊥) → d' ≡ d
  -- otherwise every byte behind the line
  pub behind : (clock divisor lcr : ℕ) (d d' : List ℕ) (w : Result ℕ Refusal) → Writes clock divisor lcr d d' w → answer_in w ≡ Done
      → drop (length_in w) d' ≡ drop (length_in w) d

-- no line is longer than 13 bytes, which 38400,N,5,1.5 has
pub record Longest : Type 0 where
  pub most : (rate : ℕ) (s : Shape) → Rated rate → Sized s → length (line_of rate s) ≤ 13
  pub reached : (rate : ℕ) × (s : Shape) × Rated rate × Sized s × (length (line_of rate s) ≡ 13)
