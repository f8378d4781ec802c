-- What something came to on a whole bench, as the word tells it.
use Rattle.std.specs.Prelude.{ℕ, false, List, ◌≡◌}
use Rattle.base.specs.declared.Answer.{Answer}
use Rattle.bench.specs.declared.Bench.{Bench}
use Rattle.bench.specs.declared.Outcome.{Outcome}
use Rattle.image.specs.Written.{Saves}
use Rattle.c_word.specs.Word.{Tells}
use Rattle.c_bench.specs.declared.Played.{Played}

-- the word tells the answer, and the output after it
abbrev pub Told : ℕ → Outcome → Type 0
Told w o = Tells w o.answer o.output

-- what came back is the bench of an outcome, and the word that tells it
abbrev pub Plays : Played → Outcome → Type 0
Plays r o = (r.bench ≡ o.bench) × Told r.word o

-- ticket 2: "Write the whole bench into a lent buffer at a place the caller names": no event has passed, so the word has no output. The buffer was `l` and is
-- `l'` then
pub record SavesTold (b : Bench) (at : ℕ) (l l' : List ℕ) (w : ℕ) : Type 0 where
  pub answer : Answer
  pub saves : Saves b at l l' answer
  pub told : Tells w answer false
