-- What is not read, and what is: every answer of the reader has its ground.
use Rattle.std.specs.Prelude.{ℕ, ◌≤◌, ◌<◌, List, ◌≡◌, length, Option, Some, None}
use Rattle.std.proofs.Math.Path.{ap}
use Rattle.std.proofs.Common.{◌∙◌, lt-ltb, le-ltb}
use Rattle.std.proofs.lemmas.List.Edits.{sets}
use Rattle.base.specs.PickLaws.{pick_true, pick_false}
use Rattle.lesson.specs.Text.{bytes_of}
use Rattle.lesson.specs.Fault.{fault_of}
use Rattle.lesson.specs.Cause.{finding}
use Rattle.lesson.specs.Lesson.{longest, fault_by, answer_by, lesson_of, handed_out, Reads}
use Rattle.lesson.specs.declared.Lesson.{Lesson}
use Rattle.lesson.specs.declared.Lesson.TheVariants.{Bytes, TooLong, NoRoom}

module _ (text d d' : List ℕ) (r : Lesson) (reads : Reads text d d' r) where
  -- a text that is too long is not read, whatever it holds
  pub too_long : longest < length text → (r ≡ TooLong) × (d' ≡ d)
  unfolding lesson_of handed_out
  too_long long =
      let is : r ≡ TooLong = reads.told ∙ pick_true _ _ _ (lt-ltb longest (length text) long) in
      (is, reads.bytes ∙ ap (λ (x : Lesson). handed_out x text d) is)

  module _ (limit : length text ≤ longest) where
    by_fault : (f : Option ℕ) → fault_of text ≡ f → r ≡ answer_by f text (length d)
    unfolding lesson_of
    by_fault f found =
        reads.told ∙ pick_false _ _ _ (le-ltb longest (length text) limit) ∙ ap (λ (x : Option ℕ). answer_by x text (length d)) found

    -- a fault is told by its cause, and by the line and column behind the characters before it, and nothing is handed out
    pub fault_told : (at : ℕ) → fault_of text ≡ Some at
        → (r ≡ fault_by (finding text at) text) × (d' ≡ d)
    unfolding answer_by handed_out
    fault_told at found = (by_fault (Some at) found, reads.bytes ∙ ap (λ (x : Lesson). handed_out x text d) (by_fault (Some at) found))

    -- without a fault, bytes that fit are handed out, all of them
    pub bytes_handed : fault_of text ≡ None → length (bytes_of text) ≤ length d → (r ≡ Bytes (length (bytes_of text))) × (d' ≡ sets d 0 (bytes_of text))
    unfolding answer_by handed_out
    bytes_handed good room =
        let is : r ≡ Bytes (length (bytes_of text)) = by_fault None good ∙ pick_false _ _ _ (le-ltb (length d) (length (bytes_of text)) room) in
        (is, reads.bytes ∙ ap (λ (x : Lesson). handed_out x text d) is)

    -- and bytes that do not fit are not, not one of them
    pub no_room : fault_of text ≡ None → length d < length (bytes_of text) → (r ≡ NoRoom) × (d' ≡ d)
    unfolding answer_by handed_out
    no_room good full =
        let is : r ≡ NoRoom = by_fault None good ∙ pick_true _ _ _ (lt-ltb (length d) (length (bytes_of text)) full) in
        (is, reads.bytes ∙ ap (λ (x : Lesson). handed_out x text d) is)
