use mathlib.Core.Path.{refl, sym, ◌∙◌}
use lib.Pointwise.{bytes_decides}
use Rattle.base.specs.PickLaws.{not_true, not_both}
use Rattle.setting_lines.proofs.Ends.{small, read_listed, read_unlisted, read_none}
use Rattle.std.proofs.lemmas.Bool.{not-false}
use Rattle.setting_lines.proofs.read.Goals as goal

pub made_line-own-requires : goal.made_line-own-requires
made_line-own-requires c = small c.args.line.now c.guess_line-guess.result c.guess_line-guess.ensures

pub returns-then-ne : goal.returns-then-ne
returns-then-ne c =
    read_none c.args.line.now c.args.clock _ _ c.guess_line-guess.ensures
    (λ e. not_both ((bytes_decides _ _).1 (e ∙ sym c.made_line-own.ensures)) (not_true _ (sym c.ne.ensures ∙ c.if-ne.true))) refl

pub returns-in_default : goal.returns-in_default
returns-in_default c =
    read_unlisted c.args.line.now c.args.clock _ _ c.guess_line-guess.ensures
    ((bytes_decides _ _).0 (not-false _ (sym c.ne.ensures ∙ c.if-ne.false)) ∙ c.made_line-own.ensures)
    (λ d is. c.in_default.not-Divisor d (c.divisor.ensures ∙ is)) refl

pub returns : goal.returns
returns c =
    read_listed c.args.line.now c.args.clock _ _ c.guess_line-guess.ensures
    ((bytes_decides _ _).0 (not-false _ (sym c.ne.ensures ∙ c.if-ne.false)) ∙ c.made_line-own.ensures)
    c.in-Divisor.divisor (sym c.divisor.ensures ∙ c.in-Divisor.is) refl
