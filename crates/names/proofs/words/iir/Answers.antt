use Rattle.page.specs.PieceLaws.{with_append, with_none}
use Rattle.page.specs.Pieces.{with}
use Rattle.names.specs.Words.{iir_words}
use Rattle.names.proofs.words.iir.Goals as goal

pub returns : goal.returns
unfolding with iir_words
returns c = simp (c.cause.ensures, c.text-head.ensures, c.hex.ensures, c.text.ensures, c.empty.ensures, with_append, with_none)
