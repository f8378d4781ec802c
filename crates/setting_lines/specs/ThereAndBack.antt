-- Ticket 1: an answer for everything; from the two numbers to the line and back, and from the line to the two numbers and back.
use Rattle.std.specs.Prelude.{ℕ, ◌≤◌, List, ◌++◌, ◌≡◌, length, take, drop, Result, Ok}
use Rattle.base.specs.declared.Answer.TheVariants.{Done, Divisor}
use Rattle.base.specs.declared.Refusal.{Refusal}
use Rattle.rates.specs.Answering.{answer_in}
use Rattle.rates.specs.Rates.{divisor_of}
use Rattle.setting_lines.specs.Fields.{Shape, Sized, lcr_of}
use Rattle.setting_lines.specs.Reading.{divisor_in, lcr_in, Reads}
use Rattle.setting_lines.specs.Writing.{Left, left, length_in, Writes}
use Rattle.setting_lines.specs.declared.Setting.{Setting}

abbrev pub setting_of : ℕ → ℕ → Result Setting Refusal
setting_of divisor lcr = Ok (record { divisor = divisor; lcr = lcr })

-- a line written: its length, and a buffer that begins with it and is as before behind it
abbrev pub begun_by : List ℕ → List ℕ → Left
begun_by d line = left (Ok (length line)) (line ++ drop (length line) d)

-- Every line, every divisor and every LCR byte is answered, at every clock.
pub record Answered : Type 0 where
  pub read : (line : List ℕ) (clock : ℕ) → (r : Result Setting Refusal) × Reads line clock r
  pub written : (clock divisor lcr : ℕ) (d : List ℕ) → (d' : List ℕ) × (w : Result ℕ Refusal) × Writes clock divisor lcr d d' w

-- Reading what was written gives back divisor and LCR byte.
pub record ReadBack : Type 0 where
  -- every listed divisor is written at its clock with every LCR byte of a shape, where 13 bytes are lent
  pub written : (rate clock divisor : ℕ) (s : Shape) (d d' : List ℕ) (w : Result ℕ Refusal) → divisor_of rate clock ≡ Divisor divisor → Sized s → 13 ≤ length d
      → Writes clock divisor (lcr_of s) d d' w → answer_in w ≡ Done
  pub back : (clock divisor lcr : ℕ) (d d' : List ℕ) (w : Result ℕ Refusal) (r : Result Setting Refusal) → Writes clock divisor lcr d d' w → answer_in w ≡ Done
      → Reads (take (length_in w) d') clock r → r ≡ setting_of divisor lcr

-- Writing what was read gives back the line, to the letter, where there is room for it.
pub record WrittenBack : Type 0 where
  pub back : (line : List ℕ) (clock : ℕ) (r : Result Setting Refusal) (d d' : List ℕ) (w : Result ℕ Refusal) → Reads line clock r → answer_in r ≡ Done → length line ≤ length d
      → Writes clock (divisor_in r) (lcr_in r) d d' w
      → left w d' ≡ begun_by d line
