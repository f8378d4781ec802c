use Rattle.std.proofs.Common.{arith, sym, ◌∙◌}
use Rattle.page.specs.PageLaws.{joined_piece}
use Rattle.seat_page.specs.SeatPages.{character_words}
use Rattle.seat_page.proofs.Characters.{told_on, told_over}
use Rattle.seat_page.proofs.queues.tell_characters.Goals as goal

pub loop-ch-preserved : goal.loop-ch-preserved
loop-ch-preserved c = let l = c.loop-ch in (
  omega arith,
  l.invariant.1 ∙ told_on (character_words c.args.marks) l.told c.args.characters.now l.ch-index (omega arith)
      ∙ sym (simp (c.join-told.ensures, c.character.ensures, joined_piece)),
)
