-- What reading a line at a clock answers: the setting whose line this is.
use Rattle.std.specs.Prelude.{ℕ, List, ◌⊎◌, ◌≡◌, eqb, Result, Ok, Err}
use Rattle.base.specs.Pick.{pick}
use Rattle.base.specs.Answers.{refusal_of, value_of}
use Rattle.base.specs.declared.Answer.{Answer}
use Rattle.base.specs.declared.Refusal.{Refusal}
use Rattle.base.specs.declared.Refusal.TheVariants.{NotListed, NoSetting}
use Rattle.rates.specs.Rates.{divisor_of}
use Rattle.setting_lines.specs.Fields.{Shape, Sized, Rated, line_of, lcr_of}
use Rattle.setting_lines.specs.declared.Setting.{Setting}

-- ticket 1: the divisor that the list answers for the rate, beside the LCR byte; "then 10" where it has none
abbrev pub setting_by : Answer → ℕ → Result Setting Refusal
setting_by a lcr = pick (eqb (refusal_of a) 0) (Ok (record { divisor = value_of a; lcr = lcr })) (Err NotListed)

-- the two numbers that are read, each 0 where the line is refused
abbrev pub divisor_in : Result Setting Refusal → ℕ
divisor_in (Ok s) = s.divisor
divisor_in (Err r) = 0

abbrev pub lcr_in : Result Setting Refusal → ℕ
lcr_in (Ok s) = s.lcr
lcr_in (Err r) = 0

-- ticket 1: "We want such a line read into a divisor (from the list, at a chosen clock) and an LCR byte": this is the line of a rate and a
-- shape, and the answer is theirs
pub record ReadAs (line : List ℕ) (clock : ℕ) (r : Result Setting Refusal) : Type 0 where
  pub rate : ℕ
  pub shape : Shape
  pub rated : Rated rate
  pub sized : Sized shape
  pub is : line ≡ line_of rate shape
  pub told : r ≡ setting_by (divisor_of rate clock) (lcr_of shape)

-- this is the line of none
abbrev pub NoLine : List ℕ → Type 0
NoLine line = (rate : ℕ) (shape : Shape) → Rated rate → Sized shape → line ≡ line_of rate shape → ⊥

-- ticket 1: "Refusals: 11 for any other line"
pub record OtherLine (line : List ℕ) (r : Result Setting Refusal) : Type 0 where
  pub other : NoLine line
  pub told : r ≡ Err NoSetting

-- a line is read at a clock
abbrev pub Reads : List ℕ → ℕ → Result Setting Refusal → Type 0
Reads line clock r = ReadAs line clock r ⊎ OtherLine line r
