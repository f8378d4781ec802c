-- What a call leaves of the part that it is lent.
use mathlib.Core.Path.{◌∙◌}
use borrow.Author.Tests.{le-leb, lt-leb}
use Rattle.base.specs.PickLaws.{pick_true, pick_false}
use Rattle.base.specs.StoreLaws.{stored_first}
use Rattle.channel_image.specs.Places.{channel_length}
use Rattle.channel_image.specs.FoundLaws.{found_short}
use Rattle.channel_image.specs.ThereAndBack.{Lent}
use Rattle.channel_image.specs.Written.{channel_bytes}
use Rattle.channel_image.proofs.WrittenLaws.{channel_length_lem}

pub lent : Lent
lent =
    record {
      room = λ c l l' r p fits. (
        p.answer ∙ le-leb _ _ fits,
        stored_first channel_length (channel_bytes c) l l' (channel_length_lem c) fits (p.bytes ∙ pick_true _ _ _ (le-leb _ _ fits)),
      );
      none = λ c l l' r p short. (p.answer ∙ lt-leb _ _ short, p.bytes ∙ pick_false _ _ _ (lt-leb _ _ short));
      short = found_short;
    }
