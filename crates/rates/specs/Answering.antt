-- What an answer says of a call that gives a value or is refused.
use Rattle.std.specs.Prelude.{Result, Ok, Err}
use Rattle.base.specs.Refusals.{number_of}
use Rattle.base.specs.declared.Answer.{Answer}
use Rattle.base.specs.declared.Answer.TheVariants.{Done, Refused}
use Rattle.base.specs.declared.Refusal.{Refusal}

-- "refusal number (0 for none)": that it is done, or the refusal by its number
abbrev pub answer_in : {A : Type 0} → Result A Refusal → Answer
answer_in (Ok value) = Done
answer_in (Err refusal) = Refused (number_of refusal)
