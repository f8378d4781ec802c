use Rattle.std.proofs.Common.{sym}
use Rattle.base.specs.Pick.{pick}
use Rattle.base.specs.PickLaws.{pick_false}
use Rattle.base.specs.Answers.{figures_of, is_letter}
use Rattle.base.proofs.Cases.{no_letter}
use Rattle.streams.proofs.digest.letter_mark.Goals as goal

pub returns-in_default : goal.returns-in_default
returns-in_default c = sym (pick_false _ _ _ (no_letter c.args.answer c.in_default.not-Letter))

pub returns : goal.returns
unfolding is_letter figures_of pick
returns c = simp c.in-Letter.is
