-- The twelve starred cases, by computation over the definitions.
use mathlib.Core.Path.{refl}
use Rattle.demands.specs.Starred.{Tasted}
use Rattle.demands.specs.Starred as starred
use Rattle.demands.proofs.Opened.{laid_open}

pub tasted : Tasted
unfolding laid_open starred.holds starred.all starred.set_up_lem starred.set_up_fifo starred.arrivals starred.reads_of starred.initialised starred.rises starred.served_3
tasted = (refl, refl)
