use Rattle.base.specs.PickLaws.{pick_true, pick_false}
use borrow.Author.Tests.{le-ltb, lt-ltb}
use Rattle.records.specs.Events.{decoded, early, numbered}
use Rattle.base.specs.Refusals.{number_of, first_of, refusal_by}
use Rattle.records.proofs.events.EventTryFromWhole.try_from.Goals as goal

pub returns-then-whole-gt-ACKNOWLEDGE : goal.returns-then-whole-gt-ACKNOWLEDGE
unfolding numbered number_of decoded early refusal_by first_of
returns-then-whole-gt-ACKNOWLEDGE c = simp (lt-ltb _ _ c.if-whole-gt-ACKNOWLEDGE.true, pick_true, pick_false)

pub returns-then-whole : goal.returns-then-whole
unfolding numbered number_of decoded early refusal_by first_of
returns-then-whole c = simp (c.if-whole.true, le-ltb _ _ c.if-whole-gt-ACKNOWLEDGE.false, pick_true, pick_false)

pub returns : goal.returns
unfolding numbered number_of decoded early refusal_by first_of
returns c = simp (← c.event_of.ensures, c.if-whole.false, le-ltb _ _ c.if-whole-gt-ACKNOWLEDGE.false, pick_true, pick_false)
