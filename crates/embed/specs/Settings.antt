-- Settings lines for C: read into a divisor and an LCR byte, and written from the two, as a word tells it.
use Rattle.std.specs.Prelude.{ℕ, false, List, ◌≡◌, Result}
use Rattle.base.specs.Answers.{refusal_of}
use Rattle.base.specs.Refusals.{joined}
use Rattle.base.specs.declared.Answer.{Answer}
use Rattle.base.specs.declared.Answer.TheVariants.{Byte, Divisor, Refused}
use Rattle.base.specs.declared.Refusal.{Refusal}
use Rattle.c_word.specs.Word.{Tells}
use Rattle.rates.specs.Answering.{answer_in}
use Rattle.setting_lines.specs.Reading.{divisor_in, lcr_in, Reads}
use Rattle.setting_lines.specs.Writing.{length_in, Writes}
use Rattle.setting_lines.specs.declared.Setting.{Setting}

-- what is given where nothing was refused, and the refusal where something was
abbrev pub given_unless : Answer → Answer → Answer
given_unless a given = joined (refusal_of a) given Refused

-- ticket 1: "such a line read into a divisor (from the list, at a chosen clock) and an LCR byte": the word tells the divisor, as that of a rate is told,
-- and the byte is stored where the caller asks
pub record ReadsTold (line : List ℕ) (clock lcr w : ℕ) : Type 0 where
  pub setting : Result Setting Refusal
  pub reads : Reads line clock setting
  pub stored : lcr ≡ lcr_in setting
  pub told : Tells w (given_unless (answer_in setting) (Divisor (divisor_in setting))) false

-- ticket 1: "and written back from the two": the word tells how long the line is that stands at the start of the buffer, which was `d` and is `d'` then
pub record WritesTold (clock divisor lcr : ℕ) (d d' : List ℕ) (w : ℕ) : Type 0 where
  pub written : Result ℕ Refusal
  pub writes : Writes clock divisor lcr d d' written
  pub told : Tells w (given_unless (answer_in written) (Byte (length_in written))) false
