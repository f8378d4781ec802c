-- Ticket 1 by examples: what lines are read as, and what is written; the lines that a careless reader would take among them.
use Rattle.std.specs.Prelude.{ℕ, ◌≤◌, List, [], ◌∷◌, ◌≡◌, length, take, Result, Err}
use Prim.Native.String.{String}
use Rattle.base.specs.declared.Answer.TheVariants.{Refused}
use Rattle.base.specs.declared.Refusal.{Refusal}
use Rattle.base.specs.declared.Refusal.TheVariants.{NotListed, NoSetting}
use Rattle.rates.specs.Answering.{answer_in}
use Rattle.text.specs.Quoted.{quoted}
use Rattle.setting_lines.specs.Reading.{Reads}
use Rattle.setting_lines.specs.Writing.{length_in, Writes}
use Rattle.setting_lines.specs.ThereAndBack.{setting_of}
use Rattle.setting_lines.specs.declared.Setting.{Setting}

-- a line at a clock has this answer and no other
abbrev pub Read : String → ℕ → Result Setting Refusal → Type 0
Read line clock setting = Reads (quoted line) clock setting × ((r : Result Setting Refusal) → Reads (quoted line) clock r → r ≡ setting)

-- a divisor and an LCR byte at a clock are written as this line, where 13 bytes are lent
abbrev pub Wrote : ℕ → ℕ → ℕ → String → Type 0
Wrote clock divisor lcr line = (d d' : List ℕ) (w : Result ℕ Refusal) → 13 ≤ length d → Writes clock divisor lcr d d' w → take (length_in w) d' ≡ quoted line

-- a byte that is not written at all
abbrev pub NotWritten : ℕ → Type 0
NotWritten lcr = (clock divisor : ℕ) (d d' : List ℕ) (w : Result ℕ Refusal) → Writes clock divisor lcr d d' w → answer_in w ≡ Refused 11

-- one example: a line, a clock and its answer
pub record Example : Type 0 where
  pub line : String
  pub clock : ℕ
  pub setting : Result Setting Refusal

abbrev pub example : String → ℕ → Result Setting Refusal → Example
example line clock setting = record { line = line; clock = clock; setting = setting }

abbrev pub examples : List Example
examples =
    -- ticket 1: "`9600,E,7,2`"
    example "9600,E,7,2" 0 (setting_of 12 0b011_110)
    -- the five letters
    ∷ example "300,N,8,1" 0 (setting_of 384 0b000_011)
    ∷ example "300,O,8,1" 0 (setting_of 384 0b001_011)
    ∷ example "300,E,8,1" 0 (setting_of 384 0b011_011)
    ∷ example "300,M,8,1" 0 (setting_of 384 0b101_011)
    ∷ example "300,S,8,1" 0 (setting_of 384 0b111_011)
    -- ticket 1: "five bits take 1 or 1.5", and no other takes 1.5
    ∷ example "300,N,5,1.5" 0 (setting_of 384 0b000_100)
    ∷ example "300,N,5,2" 0 (Err NoSetting)
    ∷ example "300,N,6,2" 0 (setting_of 384 0b000_101)
    ∷ example "300,N,6,1.5" 0 (Err NoSetting)
    ∷ example "300,N,7,2" 0 (setting_of 384 0b000_110)
    ∷ example "300,N,7,1.5" 0 (Err NoSetting)
    ∷ example "300,N,8,2" 0 (setting_of 384 0b000_111)
    ∷ example "300,N,8,1.5" 0 (Err NoSetting)
    -- ticket 1: "bits 5 to 8", each with the shorter stop
    ∷ example "300,N,4,1" 0 (Err NoSetting)
    ∷ example "300,N,5,1" 0 (setting_of 384 0b000_000)
    ∷ example "300,N,6,1" 0 (setting_of 384 0b000_001)
    ∷ example "300,N,7,1" 0 (setting_of 384 0b000_010)
    ∷ example "300,N,9,1" 0 (Err NoSetting)
    -- ticket 1: "or 134.5"
    ∷ example "134.5,N,8,1" 0 (setting_of 857 0b000_011)
    ∷ example "1345,N,8,1" 0 (Err NotListed)
    ∷ example "134,N,8,1" 0 (Err NotListed)
    ∷ example "300.0,N,8,1" 0 (Err NoSetting)
    -- ticket 1: "1 to 99999 without leading zeros"
    ∷ example "1,N,8,1" 0 (Err NotListed)
    ∷ example "99999,N,8,1" 0 (Err NotListed)
    ∷ example "100000,N,8,1" 0 (Err NoSetting)
    ∷ example "0,N,8,1" 0 (Err NoSetting)
    ∷ example "0300,N,8,1" 0 (Err NoSetting)
    -- the list of the clock; a clock that is none; a line that is none, whatever the clock
    ∷ example "56000,N,8,1" 0 (setting_of 2 0b000_011)
    ∷ example "56000,N,8,1" 1 (Err NotListed)
    ∷ example "300,N,8,1" 3 (Err NotListed)
    ∷ example "300,n,8,1" 3 (Err NoSetting)
    -- nothing before it, behind it or between
    ∷ example "300, N,8,1" 0 (Err NoSetting)
    ∷ example " 300,N,8,1" 0 (Err NoSetting)
    ∷ example "300,N,8,1\r" 0 (Err NoSetting)
    ∷ example "300,N,8,1\n" 0 (Err NoSetting)
    ∷ example "" 0 (Err NoSetting)
    ∷ []

abbrev pub AllRead : List Example → Type 0
AllRead [] = Unit
AllRead (e ∷ es) = Read e.line e.clock e.setting × AllRead es

pub record Examples : Type 0 where
  pub read : AllRead examples
  pub sheet : Wrote 0 12 0b011_110 "9600,E,7,2"
  pub five : Wrote 0 384 0b000_100 "300,N,5,1.5"
  pub half : Wrote 0 857 0b000_011 "134.5,N,8,1"
  -- at the other clocks
  pub second : Wrote 1 16 0b000_011 "9600,N,8,1"
  pub third : Wrote 2 20 0b000_011 "9600,N,8,1"
  -- a byte with the divisor bit, one with the break bit, and one with a parity that has no letter
  pub divisor_bit : NotWritten 0x83
  pub break_bit : NotWritten 0x43
  pub no_letter : NotWritten 0b010_011
