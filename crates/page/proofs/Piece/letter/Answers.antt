use Rattle.std.proofs.Common.{arith}
use borrow.Author.Tests.{le-ltb, lt-ltb}
use Rattle.base.specs.PickLaws.{pick_true, pick_false}
use Rattle.page.specs.Pieces.{with, letter}
use Rattle.page.specs.PieceLaws.{with_append, with_none}
use Rattle.page.specs.ThroughLaws.{through_append}
use Rattle.page.proofs.Piece.letter.Goals as goal

pub returns-in-33-to-126 : goal.returns-in-33-to-126
unfolding letter with
returns-in-33-to-126 c = simp (through_append, ← c.byte-in-33-to-126.ensures, ← c.byte.ensures, ← c.text.ensures, ← c.hex-front.ensures, le-ltb c.args.byte 33 (omega arith), le-ltb 126 c.args.byte (omega arith), pick_false)

pub returns-in_default : goal.returns-in_default
unfolding letter
returns-in_default c = simp (with_append, with_none, ← c.hex-front.ensures, lt-ltb c.args.byte 33 (omega arith), pick_true)

pub returns-in_default-2 : goal.returns-in_default-2
unfolding letter
returns-in_default-2 c = simp (with_append, with_none, ← c.hex-front.ensures, le-ltb c.args.byte 33 (omega arith), lt-ltb 126 c.args.byte (omega arith), pick_true, pick_false)
