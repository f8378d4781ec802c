use Rattle.std.proofs.Common.{◌∙◌, arith}
use Rattle.channel_image.specs.PartLaws.{slots_part, at_part}
use Rattle.channel_image.specs.Read.{receiver_from}
use Rattle.channel_image.proofs.reading.receiver_from.Goals as goal

pub returns : goal.returns
unfolding receiver_from
returns c =
    let b = c.args.b.now in
    rw (c.slots_from.ensures ∙ slots_part b _ b _ 34 50 (λ k below. at_part b 34 32 k (omega (arith, below))) (at_part b 50 16))
