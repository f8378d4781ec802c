use Rattle.channel_image.proofs.FilledLaws.{byte_told}
use Rattle.image.specs.Written.{controller_bytes}
use Rattle.image.proofs.writing.front_of.Goals as goal

pub returns : goal.returns
unfolding controller_bytes
returns c =
    simp (c.to_le_bytes.ensures, c.from-5.ensures, c.from-4.ensures, c.from-3.ensures, c.from-2.ensures, c.from.ensures, byte_told)
