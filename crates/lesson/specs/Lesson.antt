-- What reading a text answers, and what it leaves in the buffer.
use Rattle.std.specs.Prelude.{ℕ, List, ◌≡◌, ltb, length, take, Option, Some, None}
use Rattle.std.proofs.lemmas.List.Edits.{sets}
use Rattle.base.specs.Pick.{pick}
use Rattle.lesson.specs.Text.{bytes_of}
use Rattle.lesson.specs.Fault.{fault_of}
use Rattle.lesson.specs.Cause.{finding}
use Rattle.lesson.specs.Place.{place_behind}
use Rattle.lesson.specs.declared.causes.Finding.{Finding}
use Rattle.lesson.specs.declared.Lesson.{Lesson}
use Rattle.lesson.specs.declared.Lesson.TheVariants.{Bytes, Fault, TooLong, NoRoom}

-- no longer text is read, so that each line and column fits a number of 64 bits
abbrev pub longest : ℕ
longest = 4294967295

-- a fault is told by its line, its column and its cause
abbrev pub fault_by : Finding → List ℕ → Lesson
fault_by f text = Fault (place_behind (take f.at text)).line (place_behind (take f.at text)).column f.cause

-- a text with a fault is answered by that; one without is its bytes, where they fit
unfoldable pub answer_by : Option ℕ → List ℕ → ℕ → Lesson
answer_by (Some at) text room = fault_by (finding text at) text
answer_by None text room = pick (ltb room (length (bytes_of text))) NoRoom (Bytes (length (bytes_of text)))

unfoldable pub lesson_of : List ℕ → ℕ → Lesson
lesson_of text room = pick (ltb longest (length text)) TooLong (answer_by (fault_of text) text room)

-- what is handed out: the bytes, from the buffer's start on; where there is a fault or no room, nothing
unfoldable pub handed_out : Lesson → List ℕ → List ℕ → List ℕ
handed_out (Bytes n) text d = sets d 0 (bytes_of text)
handed_out (Fault line column cause) text d = d
handed_out TooLong text d = d
handed_out NoRoom text d = d

-- a text is read into the buffer d, which is d' then
pub record Reads (text d d' : List ℕ) (r : Lesson) : Type 0 where
  pub told : r ≡ lesson_of text (length d)
  pub bytes : d' ≡ handed_out r text d
