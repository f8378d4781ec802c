-- Demand 3 after a restore: a restored bench that meets the start is a start.
use Rattle.std.specs.Prelude.{ℕ, false, List, ◌≡◌}
use Rattle.turn.specs.Demand3.{InTurn}
use Rattle.turn.specs.Waiting.{Start}
use Rattle.records.specs.Events.{Record}
use Rattle.bench.specs.declared.Bench.{Bench}
use Rattle.bench.specs.Seats.{power_up}
use Rattle.bench.specs.Wired.{Wired}
use Rattle.image.specs.Items.{Item, after_items}
use Rattle.image.specs.Refusals.{refusal, restored}
use Rattle.demands.specs.Demand3.{KeptWaiting, told}

-- ticket 2: "Demand 3 starts anew at a restore.": whatever bench the image is read over, and though no event led to what it says
pub record StartsAnew : Type 0 where
  -- what is restored is wired
  pub wired : (b : Bench) (p : List ℕ) → refusal p ≡ 0 → Wired (restored b p).bench
  -- so that the demand holds from there
  pub in_turn : (b : Bench) (p : List ℕ) (n : ℕ) (rs : List Record) → refusal p ≡ 0 → Start (restored b p).bench.controller n
      → KeptWaiting n false (restored b p).bench rs → InTurn (restored b p).bench.controller n (told (restored b p).bench rs)

-- and from every bench that power-up, records and restores can make
abbrev pub Demand3FromItems : Type 0
Demand3FromItems =
    (is : List Item) (n : ℕ) (rs : List Record) → Start (after_items power_up is).controller n → KeptWaiting n false (after_items power_up is) rs
    → InTurn (after_items power_up is).controller n (told (after_items power_up is) rs)
