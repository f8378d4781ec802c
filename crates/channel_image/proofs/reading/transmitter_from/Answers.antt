use Rattle.std.proofs.Common.{◌+◌, sym, ◌∙◌, arith, replicate}
use Rattle.channel_image.specs.PartLaws.{slots_part, at_part, no_mark}
use Rattle.channel_image.specs.Read.{transmitter_from}
use Rattle.channel_image.proofs.reading.transmitter_from.Goals as goal

pub returns : goal.returns
unfolding transmitter_from
returns c =
    let b = c.args.b.now in
    rw (c.slots_from.ensures
    ∙ slots_part b _ (replicate 66 0) (replicate 16 0) 17 0 (λ k below. at_part b 17 49 k (omega (arith, below)))
    (λ k below. no_mark 16 (0 + k) ∙ sym (no_mark 66 (0 + k))))
