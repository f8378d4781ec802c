use Rattle.std.proofs.Common.{sym, ◌∙◌, refl, arith}
use Rattle.page.specs.Pages.{put, put_byte}
use Rattle.page.specs.ThroughLaws.{through_on, through_end}
use Rattle.page.proofs.Page.text.Goals as goal

pub loop-c-init : goal.loop-c-init
loop-c-init c = refl

pub loop-c-preserved : goal.loop-c-preserved
unfolding put
loop-c-preserved c = let l = c.loop-c in
    rw c.byte-self.ensures (sym (through_on put_byte l.self c.args.words.now l.c-index (omega arith)) ∙ l.invariant)

pub returns : goal.returns
unfolding put
returns c = let l = c.loop-c in
    sym (through_end put_byte l.self c.args.words.now l.c-index (omega arith)) ∙ l.invariant
