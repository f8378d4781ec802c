-- Nothing that is told of an answer is cut.
use Rattle.std.specs.Prelude.{ℕ, ◌<◌, Bool}
use Rattle.base.specs.Answers.{refusal_of, figures_of}
use Rattle.base.specs.declared.Answer.{Answer}
use Rattle.names.specs.Fits.{Fits}
use Rattle.answers.specs.Came.{came_of}

-- "A piece has at most 68 characters, and none is cut": of a record's bytes, and an answer's numbers
abbrev pub NoneCut : Type 0
NoneCut =
    (kind number : ℕ) (divisor selected empty : Bool) (a : Answer) → number < 256 → refusal_of a < 256 → (figures_of a).behind < 256
    → Fits 68 (came_of kind number divisor selected empty a)
