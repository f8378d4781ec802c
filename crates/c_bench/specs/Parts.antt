-- What a record made of the parts that it can touch, as the word tells it.
use Rattle.std.specs.Prelude.{◌≡◌}
use Rattle.controller.specs.Turns.{output_of}
use Rattle.records.specs.declared.Touched.{Touched}
use Rattle.base.specs.declared.Whole.{Whole}
use Rattle.records.specs.Events.{Record, whole}
use Rattle.c_word.specs.Numbers.{as_byte}
use Rattle.c_word.specs.Word.{Tells}
use Rattle.c_bench.specs.declared.Asked.{Asked}
use Rattle.c_bench.specs.declared.PartsPlayed.{PartsPlayed}

-- the record that C asks for, in its own numbers
abbrev pub asked_for : Asked → Record
asked_for a = whole a.kind a.seat a.number a.value

-- and as the rooms take it
abbrev pub bytes_of : Asked → Whole
bytes_of a = record { kind = as_byte a.kind; seat = as_byte a.seat; number = as_byte a.number; value = a.value }

-- what came back is what a record made of its seat and the controller, and the word tells its answer and the output after it
pub record Parted (r : PartsPlayed) (t : Touched) : Type 0 where
  pub seat : r.seat ≡ t.seat
  pub controller : r.controller ≡ t.controller
  pub told : Tells r.word t.answer (output_of t.controller)
