use Prim.Native.Nat.{◌+◌}
use mathlib.Core.Logic.{inl, inr}
use lib.ListN.{get_or}
use Rattle.setting_lines.specs.Guess.{guess_at}
use Rattle.setting_lines.proofs.Supposed.{is_longer}
use Rattle.setting_lines.proofs.guesses.guess_at.Goals as goal
use Rattle.setting_lines.proofs.guesses.guess_at.Goals.{then-behind-eq8, else-behind-eq8}

pub returns : goal.returns
unfolding guess_at
returns c =
    rw (← is_longer c.args.behind (get_or c.args.line.now (c.args.front + 5) 0) c.if-behind-eq8.longer (elim c.if-behind-eq8.branch [ then-behind-eq8 w ↦ inl (w.if-behind-eq8.true, w.longer-is) | else-behind-eq8 w ↦ inr (w.if-behind-eq8.false, w.longer-is) ]))
    (simp (← c.lcr.ensures, ← c.rate.ensures))
