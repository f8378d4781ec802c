use Rattle.std.proofs.Common.{rules}
use Rattle.queue.specs.Queue.{no_character}
use Rattle.channel_image.proofs.FilledLaws.{filled}
use Rattle.channel_image.specs.Read.{character_at, slots_from}
use Rattle.channel_image.proofs.reading.slots_from.Goals as goal

pub returns : goal.returns
unfolding slots_from
returns c =
    filled _ _ c.from_fn.result (character_at c.args.bytes.now 0 c.args.marks.now 0) no_character (λ k y q called. search rules) 16 c.from_fn.ensures.items
