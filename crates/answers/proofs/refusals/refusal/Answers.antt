use mathlib.Core.Path.{sym, ap, ◌∙◌}
use Rattle.base.specs.Pick.{pick}
use Rattle.text.specs.Quoted.{quoted}
use Rattle.page.specs.Pieces.{with}
use Rattle.names.specs.Names.{refusals_first, refusals_later, no_refusal}
use Rattle.names.specs.Words.{later_words, refusal_words}
use Rattle.answers.proofs.Tables.{at_number, Lacks, holds_besides, none_by}
use Rattle.answers.proofs.refusals.refusal.Goals as goal

pub returns-in-1 : goal.returns-in-1
unfolding refusal_words pick
returns-in-1 c = at_number refusal_words _ _ c.in-1.is c.text.ensures

pub returns-in-2 : goal.returns-in-2
unfolding refusal_words pick
returns-in-2 c = at_number refusal_words _ _ c.in-2.is c.text-in-2.ensures

pub returns-in-3 : goal.returns-in-3
unfolding refusal_words pick
returns-in-3 c = at_number refusal_words _ _ c.in-3.is c.text-in-3.ensures

pub returns-in-4 : goal.returns-in-4
unfolding refusal_words pick
returns-in-4 c = at_number refusal_words _ _ c.in-4.is c.text-in-4.ensures

pub returns-in-5 : goal.returns-in-5
unfolding refusal_words pick
returns-in-5 c = at_number refusal_words _ _ c.in-5.is c.text-in-5.ensures

pub returns-in-6 : goal.returns-in-6
unfolding refusal_words pick
returns-in-6 c = at_number refusal_words _ _ c.in-6.is c.text-in-6.ensures

pub returns-in-7 : goal.returns-in-7
unfolding refusal_words pick
returns-in-7 c = at_number refusal_words _ _ c.in-7.is c.text-in-7.ensures

pub returns-in-8 : goal.returns-in-8
unfolding refusal_words pick
returns-in-8 c = at_number refusal_words _ _ c.in-8.is c.text-in-8.ensures

pub returns-in-9 : goal.returns-in-9
unfolding refusal_words pick
returns-in-9 c = at_number refusal_words _ _ c.in-9.is c.text-in-9.ensures

pub returns-in-10 : goal.returns-in-10
unfolding refusal_words pick
returns-in-10 c = at_number refusal_words _ _ c.in-10.is c.text-in-10.ensures

pub returns-in-11 : goal.returns-in-11
unfolding refusal_words later_words pick
returns-in-11 c = at_number refusal_words _ _ c.in-11.is c.text-in-11.ensures

pub returns-in-12 : goal.returns-in-12
unfolding refusal_words later_words pick
returns-in-12 c = at_number refusal_words _ _ c.in-12.is c.text-in-12.ensures

pub returns-in-13 : goal.returns-in-13
unfolding refusal_words later_words pick
returns-in-13 c = at_number refusal_words _ _ c.in-13.is c.text-in-13.ensures

pub returns-in-14 : goal.returns-in-14
unfolding refusal_words later_words pick
returns-in-14 c = at_number refusal_words _ _ c.in-14.is c.text-in-14.ensures

pub returns-in-15 : goal.returns-in-15
unfolding refusal_words later_words pick
returns-in-15 c = at_number refusal_words _ _ c.in-15.is c.text-in-15.ensures

pub returns-in-16 : goal.returns-in-16
unfolding refusal_words later_words pick
returns-in-16 c = at_number refusal_words _ _ c.in-16.is c.text-in-16.ensures

pub returns-in-17 : goal.returns-in-17
unfolding refusal_words later_words pick
returns-in-17 c = at_number refusal_words _ _ c.in-17.is c.text-in-17.ensures

pub returns-in-18 : goal.returns-in-18
unfolding refusal_words later_words pick
returns-in-18 c = at_number refusal_words _ _ c.in-18.is c.text-in-18.ensures

pub returns-in-19 : goal.returns-in-19
unfolding refusal_words later_words pick
returns-in-19 c = at_number refusal_words _ _ c.in-19.is c.text-in-19.ensures

pub returns-in_default : goal.returns-in_default
unfolding refusal_words later_words
returns-in_default c = let n : _ = c.args.number in
    let lacks : _ = c.in_default.in_default-own.rest in
    let first : Type 0 = Lacks (Unit {0}) n refusals_first in
    c.text-in_default.ensures
    ∙ ap (with _) (sym (none_by (Unit {0}) refusals_first n (later_words n) (holds_besides first n refusals_later lacks)
    ∙ none_by first refusals_later n (quoted no_refusal) lacks))
