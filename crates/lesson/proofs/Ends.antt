-- The four ends of a reading.
use Rattle.std.specs.Prelude.{Option, Some, None}
use Prim.Native.Nat.{ℕ, ◌/◌, ◌≤◌, ◌<◌}
use mathlib.Core.List.{List}
use mathlib.Core.Path.{◌≡◌, refl, subst}
use lib.ListN.{length}
use lib.Seq.{sets}
use borrow.Author.Tests.{lt-ltb, le-ltb}
use Rattle.base.specs.PickLaws.{pick_true, pick_false}
use Rattle.lesson.specs.Text.{bytes_of, digits_of}
use Rattle.lesson.specs.Fault.{fault_of}
use Rattle.lesson.specs.Cause.{finding}
use Rattle.lesson.specs.Lesson.{longest, fault_by, answer_by, lesson_of, handed_out, Reads}
use Rattle.lesson.specs.declared.Lesson.{Lesson}
use Rattle.lesson.specs.declared.Lesson.TheVariants.{Bytes, TooLong, NoRoom}
use Rattle.lesson.specs.TextLaws.{pair_count}
use Rattle.lesson.specs.FaultLaws.{Within, fault_within}

pub found_within : (text : List ℕ) (at : ℕ) → fault_of text ≡ Some at → at ≤ length text
found_within text at found = subst (λ (f : Option ℕ). Within f (length text)) found (fault_within text)

module _ (text d : List ℕ) where
  pub too_long : longest < length text → Reads text d d TooLong
  unfolding lesson_of handed_out
  too_long h = record { told = rw (pick_true _ _ _ (lt-ltb longest (length text) h)); bytes = refl }

  module _ (limit : length text ≤ longest) where
    answered : {r : Lesson} (f : Option ℕ) → fault_of text ≡ f → r ≡ answer_by f text (length d) → r ≡ lesson_of text (length d)
    unfolding lesson_of
    answered f e same = rw (pick_false _ _ _ (le-ltb longest (length text) limit), e) same

    pub faulted : (at : ℕ) → fault_of text ≡ Some at → Reads text d d (fault_by (finding text at) text)
    unfolding answer_by handed_out
    faulted at e = record { told = answered (Some at) e refl; bytes = refl }

    module _ (good : fault_of text ≡ None) where
      pub no_room : length d < length (bytes_of text) → Reads text d d NoRoom
      unfolding answer_by handed_out
      no_room h = record {
        told = answered None good (rw (pick_true _ _ _ (lt-ltb (length d) (length (bytes_of text)) h)));
        bytes = refl;
      }

      pub handed : length (bytes_of text) ≤ length d → Reads text d (sets d 0 (bytes_of text)) (Bytes (length (bytes_of text)))
      unfolding answer_by handed_out
      handed h = record {
        told = answered None good (rw (pick_false _ _ _ (le-ltb (length d) (length (bytes_of text)) h)));
        bytes = refl;
      }

pub byte_count : (text : List ℕ) → length (bytes_of text) ≡ length (digits_of text) / 2
unfolding bytes_of
byte_count text = pair_count (digits_of text)
