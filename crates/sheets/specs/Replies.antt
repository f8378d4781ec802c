-- What a settings line is answered with, and what four numbers are.
use Rattle.std.specs.Prelude.{ℕ, true, false, List, ◌≡◌, replicate, Option, Some, None, Result}
use Rattle.base.specs.declared.Refusal.{Refusal}
use Rattle.setting_lines.specs.Reading.{Reads}
use Rattle.setting_lines.specs.Writing.{Writes}
use Rattle.setting_lines.specs.declared.Setting.{Setting}
use Rattle.sheets.specs.Texts.{setting_text, written_text, AtStart}
use Rattle.sheets.specs.Numbers.{number, byte, room, four}
use Rattle.sheets.specs.declared.Numbers.{Numbers}

-- ticket 1: "We want such a line read into a divisor (from the list, at a chosen clock) and an LCR byte": the text of the setting that the line
-- is read as, put into the array d, which is d' then
pub record LineReply (line : List ℕ) (clock : ℕ) (d d' : List ℕ) (r : ℕ) : Type 0 where
  pub setting : Result Setting Refusal
  pub read : Reads line clock setting
  pub told : AtStart (setting_text setting) d d' r

-- ticket 1: "and written back from the two": the line is written at the clock, from the divisor and the LCR byte, into a buffer of as many bytes
-- as the room says; the text of what is written, or of the refusal, is put into the array d, which is d' then
pub record FourReply (s : Numbers) (d d' : List ℕ) (r : ℕ) : Type 0 where
  pub written : Result ℕ Refusal
  pub buffer : List ℕ
  pub writes : Writes (byte (number 0 s)) (number 1 s) (byte (number 2 s)) (replicate (room (number 3 s)) 0) buffer written
  pub told : AtStart (written_text written buffer) d d' r

-- a line that is not four numbers has no answer
pub record NumbersReply (s : Numbers) (d d' : List ℕ) (r : Option ℕ) : Type 0 where
  pub answer : four s ≡ true → (n : ℕ) × (r ≡ Some n) × FourReply s d d' n
  pub none : four s ≡ false → (d' ≡ d) × (r ≡ None)
