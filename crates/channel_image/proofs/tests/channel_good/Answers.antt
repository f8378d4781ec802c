use Rattle.std.proofs.Common.{◌∙◌}
use Rattle.channel_image.specs.Allowed.{marks_in_range, channel_good}
use Rattle.channel_image.specs.PartLaws.{small_part, at_part}
use Rattle.channel_image.proofs.tests.channel_good.Goals as goal

pub returns : goal.returns
unfolding channel_good marks_in_range
returns c =
    let b = c.args.b.now in
    rw (
      c.unused_zero.ensures,
      c.count_allowed.ensures,
      c.queues_within.ensures,
      c.sixteen_small.ensures ∙ small_part b _ 50 0 7 (at_part b 50 16),
      c.flags_in_range.ensures,
      c.registers_in_range.ensures,
    )
