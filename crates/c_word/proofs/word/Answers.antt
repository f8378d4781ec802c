use mathlib.Core.Path.{sym}
use Rattle.base.proofs.Cases.{no_letter}
use Rattle.c_word.proofs.WordLaws.{put_together_plain, put_together_letter}
use borrow.Author.Rules.{rules}
use Rattle.c_word.proofs.word.Goals as goal

pub returns-in_default : goal.returns-in_default
returns-in_default c = put_together_plain _ _ _ _ _ c.value-value.ensures c.refusal-refusal.ensures c.from-high.ensures
    (no_letter c.args.answer c.in_default.not-Letter) (search rules) (search rules)

pub returns : goal.returns
returns c = put_together_letter _ _ _ _ _ (sym c.in-Letter.is) c.from-high.ensures
    (search rules) (search rules) (search rules)
