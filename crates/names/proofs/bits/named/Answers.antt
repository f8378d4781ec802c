use Rattle.std.proofs.Common.{arith, sym, ◌∙◌}
use Rattle.names.proofs.Named.{named_on, named_end}
use Rattle.names.proofs.bits.named.Goals as goal

pub loop-k-preserved : goal.loop-k-preserved
loop-k-preserved c = let l = c.loop-k in (
  omega arith,
  rw (c.word-said.ensures, c.bit.ensures) (sym (named_on l.said c.args.names.now l.k c.args.byte _ (omega arith)) ∙ l.invariant.1),
)

pub returns : goal.returns
returns c = let l = c.loop-k in sym (named_end l.said c.args.names.now l.k c.args.byte (omega arith)) ∙ l.invariant.1
