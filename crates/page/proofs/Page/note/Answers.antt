use Rattle.std.proofs.Common.{◌≡◌, ◌-◌, ◌+◌, length, take, drop, arith, sym, ◌∙◌, length-drop}
use lib.Seq.{take_all}
use Rattle.page.proofs.Words.{noted_on, noted_end}
use Rattle.page.proofs.Page.note.Goals as goal

pub loop-i-preserved : goal.loop-i-preserved
loop-i-preserved c = let l = c.loop-i in
    let t : _ = c.args.text.now in
    let whole : take (length t - (l.i + 1)) (drop (l.i + 1) t) ≡ drop (l.i + 1) t = take_all _ _ (rw length-drop (omega arith)) in (
      omega arith,
      rw (c.note_byte-page.ensures, c.word_length.ensures, whole) (sym (noted_on l.page t l.i (omega arith)) ∙ l.invariant.1),
    )

pub returns : goal.returns
returns c = let l = c.loop-i in
    sym (noted_end l.page c.args.text.now l.i (omega arith)) ∙ l.invariant.1
