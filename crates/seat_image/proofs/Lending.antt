-- What a call leaves of the part that it is lent.
use mathlib.Core.Path.{◌∙◌}
use borrow.Author.Tests.{le-leb, lt-leb}
use Rattle.base.specs.PickLaws.{pick_true, pick_false}
use Rattle.base.specs.StoreLaws.{stored_first}
use Rattle.seat_image.proofs.BackLaws.{record_length_lem}
use Rattle.seat_image.specs.ReadLaws.{found_short}
use Rattle.seat_image.specs.ThereAndBack.{Lent}
use Rattle.seat_image.specs.Written.{record_length, record_of}

pub lent : Lent
lent =
    record {
      room = λ s l l' r p fits. (
        p.answer ∙ le-leb _ _ fits,
        stored_first record_length (record_of s) l l' (record_length_lem s) fits (p.bytes ∙ pick_true _ _ _ (le-leb _ _ fits)),
      );
      none = λ s l l' r p short. (p.answer ∙ lt-leb _ _ short, p.bytes ∙ pick_false _ _ _ (lt-leb _ _ short));
      short = found_short;
    }
