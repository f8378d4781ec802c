use Rattle.std.proofs.Common.{ap, ◌∙◌}
use Rattle.base.specs.Bits.{digit}
use Rattle.c_word.proofs.WordLaws.{as_digit}
use Rattle.embed.proofs.hailstoat_output.Goals as goal

pub returns : goal.returns
returns c = c.from.ensures ∙ as_digit _ ∙ ap digit c.output.ensures
