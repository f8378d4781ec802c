use Rattle.timeline.proofs.Behind.{in_one, from_start}
use Rattle.page.specs.PieceLaws.{with_append, with_none}
use Rattle.page.specs.Pieces.{no_piece, with, piece}
use mathlib.Core.List.{List}
use mathlib.Core.Path.{sym, ap, ◌∙◌}
use Rattle.timeline.proofs.Bits.{told_seat}
use Rattle.timeline.proofs.Scopes.{in_use, not_in_use}
use Rattle.timeline.specs.Variables.{Variable}
use Rattle.timeline.specs.Dump.{told}
use Rattle.timeline.proofs.steps.Change+Sight.seat.Goals as goal

pub returns-then-bit : goal.returns-then-bit
returns-then-bit c = let a = c.args in
    let was = c.look_at-was.ensures in
    let is = c.look_at-is.ensures in
    let known = in_use a.used a.n c.bit.ensures
    c.if-bit.true in
    from_start with with_append c.empty-none.ensures
    (in_one with with_append (simp (c.of.ensures, was, is) at c.of_number-lsr.ensures) (simp (c.of-then-bit.ensures, was, is) at c.of_number.ensures))
    ∙ ap piece (sym (told_seat a.self.all a.self.was a.self.is a.n))
    ∙ ap (λ (vs : List Variable). piece (told a.self.all a.self.was a.self.is vs)) (sym known)

pub returns : goal.returns
unfolding told
returns c = let a = c.args in
    c.empty-none.ensures
    ∙ sym (with_none no_piece)
    ∙ ap (λ (vs : List Variable). piece (told a.self.all a.self.was a.self.is vs)) (sym (not_in_use a.used a.n c.bit.ensures c.if-bit.false))
