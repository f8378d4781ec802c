use borrow.Author.Tests.{eq-eqb, ne_eqb}
use Rattle.base.specs.PickLaws.{pick_true, pick_false}
use Rattle.names.proofs.bits.named_or_none.Goals as goal

pub returns-then-byte-eq0 : goal.returns-then-byte-eq0
returns-then-byte-eq0 c = simp (c.text.ensures, eq-eqb _ _ c.if-byte-eq0.true, pick_true)

pub returns : goal.returns
returns c = simp (c.named.ensures, ne_eqb _ _ c.if-byte-eq0.false, pick_false)
