use Rattle.page.specs.PieceLaws.{with_append, with_none}
use Rattle.page.specs.Pieces.{with}
use Rattle.names.specs.Words.{bits_said, lsr_said}
use Rattle.names.proofs.bits.lsr.Goals as goal

pub returns : goal.returns
unfolding with lsr_said bits_said
returns c = simp (c.named_or_none.ensures, c.text-head.ensures, c.hex.ensures, c.text.ensures, c.empty.ensures, with_append, with_none)
