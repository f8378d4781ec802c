use Rattle.base.specs.PickLaws.{pick_true, pick_false}
use Rattle.page.specs.Pages.{placed, fits}
use Rattle.page.proofs.Page.place.Goals as goal

pub returns-then-is_empty : goal.returns-then-is_empty
unfolding placed fits
returns-then-is_empty c = simp (← c.is_empty.ensures, c.if-is_empty.true, pick_true)

pub returns-then-fits : goal.returns-then-fits
unfolding placed fits
returns-then-fits c = simp (← c.text.ensures, ← c.separated.ensures, ← c.fits.ensures, c.if-fits.true, ← c.is_empty.ensures, c.if-is_empty.false, pick_true, pick_false)

pub returns : goal.returns
unfolding placed fits
returns c = simp (← c.text-2.ensures, ← c.new_line.ensures, ← c.fits.ensures, c.if-fits.false, ← c.is_empty.ensures, c.if-is_empty.false, pick_false)
