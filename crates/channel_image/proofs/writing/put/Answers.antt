use mathlib.Core.Path.{sym, ◌∙◌}
use Rattle.base.specs.PickLaws.{pick_true, pick_false}
use borrow.Author.Tests.{lt-leb, le-leb}
use Rattle.channel_image.proofs.writing.put.Goals as goal

pub returns-then-out-lt-LENGTH : goal.returns-then-out-lt-LENGTH
returns-then-out-lt-LENGTH c = let none = lt-leb _ _ c.if-out-lt-LENGTH.true in
    record { answer = sym none; bytes = sym (pick_false _ _ _ none) }

pub returns : goal.returns
returns c = let room = le-leb _ _ c.if-out-lt-LENGTH.false in
    record { answer = sym room; bytes = c.put_channel.ensures ∙ sym (pick_true _ _ _ room) }
