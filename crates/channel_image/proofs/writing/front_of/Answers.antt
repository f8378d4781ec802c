use Rattle.channel_image.proofs.FilledLaws.{byte_told}
use Rattle.channel_image.specs.Written.{front_bytes}
use Rattle.channel_image.proofs.writing.front_of.Goals as goal

pub returns : goal.returns
unfolding front_bytes
returns c = simp (c.from-3.ensures, c.from-2.ensures, c.from.ensures, c.pick_byte.ensures, byte_told)
