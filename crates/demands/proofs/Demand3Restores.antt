-- Demand 3 holds after a restore.
use Prim.Native.Nat.{ℕ}
use mathlib.Core.List.{List}
use mathlib.Core.Path.{◌≡◌}
use Rattle.bench.specs.declared.Bench.{Bench}
use Rattle.bench.specs.Seats.{power_up}
use Rattle.bench.proofs.ValidLaws.{parts}
use Rattle.bench.specs.Wired.{Wired}
use Rattle.image.proofs.ItemLaws.{reached_valid}
use Rattle.image.specs.Items.{after_items}
use Rattle.image.specs.Refusals.{refusal, restored}
use Rattle.image.proofs.Statements as image
use Rattle.demands.specs.Demand3.{Demand3}
use Rattle.demands.specs.Demand3Restores.{StartsAnew, Demand3FromItems}
use Rattle.demands.proofs.Demand3.{demand_3_bench}

wired : (b : Bench) (p : List ℕ) → refusal p ≡ 0 → Wired (restored b p).bench
wired b p none = (parts (restored b p).bench ((image.statements).reached.taken b p none)).wired

pub starts_anew : StartsAnew
unfolding Demand3
starts_anew = record { wired = wired; in_turn = λ b p n rs none start kept. demand_3_bench (restored b p).bench n rs (wired b p none) start kept }

pub demand_3_from_items : Demand3FromItems
unfolding Demand3
demand_3_from_items is n rs start kept =
    demand_3_bench (after_items power_up is) n rs (parts (after_items power_up is) (reached_valid is)).wired start kept
