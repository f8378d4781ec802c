use Rattle.std.proofs.Common.{◌≡◌, ◌≤◌, length, drop}
use Rattle.page.specs.Notes.{noted}
use Rattle.page.proofs.Page.note.Given as goal

abbrev pub invariant-loop-i : goal.invariant-loop-i
invariant-loop-i l = (l.i ≤ length l.text) × (noted l.page (drop l.i l.text) ≡ noted l.initial.page l.text)
