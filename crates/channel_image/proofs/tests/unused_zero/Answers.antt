use Rattle.std.proofs.Common.{ap₂, refl, ◌∙◌, ◌&&◌}
use Rattle.channel_image.specs.Allowed.{unused_zero}
use Rattle.channel_image.specs.PartLaws.{small_part, at_part}
use Rattle.channel_image.proofs.tests.unused_zero.Goals as goal

pub returns : goal.returns
unfolding unused_zero
returns c =
    let b = c.args.b.now in
    ap₂ ◌&&◌
    (ap₂ ◌&&◌
    (ap₂ ◌&&◌ refl (c.sixteen_small.ensures ∙ small_part b _ 17 _ 0 (at_part b 17 16)))
    (c.sixteen_small-2.ensures ∙ small_part b _ 34 _ 0 (at_part b 34 16)))
    (c.sixteen_small-3.ensures ∙ small_part b _ 50 _ 0 (at_part b 50 16))
