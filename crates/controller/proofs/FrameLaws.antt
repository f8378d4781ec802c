-- What moves the mask, the modes, the levels and the setup: nothing else does.
use Rattle.std.specs.Prelude.{ℕ, ◌*◌, ◌/◌, ◌%◌, Bool, true, false, ◌≡◌, refl}
use Rattle.base.specs.Pick.{pick}
use Rattle.base.specs.Bits.{bit}
use Rattle.controller.specs.State.{ready, awaits_icw2, awaits_icw4}
use Rattle.controller.specs.Signals.{Signal, levels, write, acknowledge}
use Rattle.controller.specs.Turns.{settled, taken, grant}
use Rattle.controller.specs.Words.{is_icw1, is_ocw3, icw1, icw2, icw4, ended, made_last, ocw3}
use Rattle.controller.proofs.OutcomeLaws.{Operates, nothing, ends, ends_last, ends_line, ends_line_last, makes_last, rotates_on, rotates_off, selects, Outcome, unchanged, shows, begins, bases, readies, masks, operates, grants, outcome}
use Rattle.controller.specs.Steps.{step}
use Rattle.controller.specs.declared.Controller.{Controller}
use Rattle.controller.specs.declared.Setup.{Setup}
use Rattle.controller.specs.declared.Operation.{Operation}

-- new levels are kept as they are shown, and touch nothing but the lines
pub settled_levels : (c : Controller) (high : ℕ)
    → ((settled c high).lines.levels ≡ high) × ((settled c high).setup ≡ c.setup) × ((settled c high).operation ≡ c.operation)
unfolding settled
settled_levels c high = (refl, refl, refl)

-- ---- the mask

pub data MaskMoves (c : Controller) : Signal → ℕ → Type 0 where
  stays : (signal : Signal) → MaskMoves c signal c.operation.mask
  by_icw1 : (p b : ℕ) → p ≡ 0 → is_icw1 b ≡ true → MaskMoves c (write p b) 0
  by_port_1 : (p b : ℕ) → p ≡ 1 → ready c.setup ≡ true → MaskMoves c (write p b) b

-- ---- automatic rotation, special mask, the selection

pub data ModeMoves (c : Controller) : Signal → Bool → Bool → Bool → Type 0 where
  stays : (signal : Signal) → ModeMoves c signal c.operation.rotation c.operation.special c.operation.selected
  by_icw1 : (p b : ℕ) → p ≡ 0 → is_icw1 b ≡ true → ModeMoves c (write p b) false false false
  by_100 : (p b : ℕ) → p ≡ 0 → b / 32 % 8 ≡ 0b100 → ModeMoves c (write p b) true c.operation.special c.operation.selected
  by_000 : (p b : ℕ) → p ≡ 0 → b / 32 % 8 ≡ 0b000 → ModeMoves c (write p b) false c.operation.special c.operation.selected
  by_ocw3 : (p b : ℕ) → p ≡ 0 → is_ocw3 b ≡ true
      → ModeMoves c (write p b) c.operation.rotation (pick (bit 6 b) (bit 5 b) c.operation.special) (pick (bit 1 b) (bit 0 b) c.operation.selected)

-- ---- levels and the setup

pub data LevelMoves (c : Controller) : Signal → ℕ → Type 0 where
  stays : (signal : Signal) → LevelMoves c signal c.lines.levels
  by_levels : (high : ℕ) → LevelMoves c (levels high) high

pub data SetupMoves (c : Controller) : Signal → Setup → Type 0 where
  stays : (signal : Signal) → SetupMoves c signal c.setup
  by_icw1 : (p b : ℕ) → p ≡ 0 → is_icw1 b ≡ true → SetupMoves c (write p b) (record { stage = 1; level = bit 3 b; base = c.setup.base; automatic = false })
  by_icw2 : (p b : ℕ) → p ≡ 1 → awaits_icw2 c.setup ≡ true
      → SetupMoves c (write p b) (record { stage = 2; level = c.setup.level; base = b / 8 * 8; automatic = c.setup.automatic })
  by_icw4 : (p b : ℕ) → p ≡ 1 → awaits_icw4 c.setup ≡ true
      → SetupMoves c (write p b) (record { stage = 3; level = c.setup.level; base = c.setup.base; automatic = bit 1 b })

module _ (c : Controller) where
  mask_operated : (p b : ℕ) (o : Operation) → Operates c.operation b o → MaskMoves c (write p b) o.mask
  unfolding ended made_last ocw3
  mask_operated p b o nothing = stays (write p b)
  mask_operated p b o (ends n k e) = stays (write p b)
  mask_operated p b o (ends_last n k e) = stays (write p b)
  mask_operated p b o (ends_line k) = stays (write p b)
  mask_operated p b o (ends_line_last k) = stays (write p b)
  mask_operated p b o (makes_last k) = stays (write p b)
  mask_operated p b o (rotates_on k) = stays (write p b)
  mask_operated p b o (rotates_off k) = stays (write p b)
  mask_operated p b o (selects e) = stays (write p b)

  mask_after : (signal : Signal) (d : Controller) → Outcome c signal d → MaskMoves c signal d.operation.mask
  unfolding settled icw1 grant taken
  mask_after signal d (unchanged s) = stays s
  mask_after signal d (shows high) = stays (levels high)
  mask_after signal d (begins p b z e) = by_icw1 p b z e
  mask_after signal d (bases p b z e) = stays (write p b)
  mask_after signal d (readies p b z e) = stays (write p b)
  mask_after signal d (masks p b z e) = by_port_1 p b z e
  mask_after signal d (operates p b o z up e x) = mask_operated p b o x
  mask_after signal d (grants n e) = stays acknowledge

  pub mask_moves : (signal : Signal) → MaskMoves c signal (step c signal).controller.operation.mask
  mask_moves signal = mask_after signal (step c signal).controller (outcome c signal)

  modes_operated : (p b : ℕ) (o : Operation) → p ≡ 0 → Operates c.operation b o → ModeMoves c (write p b) o.rotation o.special o.selected
  unfolding ended made_last ocw3
  modes_operated p b o z nothing = stays (write p b)
  modes_operated p b o z (ends n k e) = stays (write p b)
  modes_operated p b o z (ends_last n k e) = stays (write p b)
  modes_operated p b o z (ends_line k) = stays (write p b)
  modes_operated p b o z (ends_line_last k) = stays (write p b)
  modes_operated p b o z (makes_last k) = stays (write p b)
  modes_operated p b o z (rotates_on k) = by_100 p b z k
  modes_operated p b o z (rotates_off k) = by_000 p b z k
  modes_operated p b o z (selects e) = by_ocw3 p b z e

  modes_after : (signal : Signal) (d : Controller) → Outcome c signal d → ModeMoves c signal d.operation.rotation d.operation.special d.operation.selected
  unfolding settled icw1 grant taken
  modes_after signal d (unchanged s) = stays s
  modes_after signal d (shows high) = stays (levels high)
  modes_after signal d (begins p b z e) = by_icw1 p b z e
  modes_after signal d (bases p b z e) = stays (write p b)
  modes_after signal d (readies p b z e) = stays (write p b)
  modes_after signal d (masks p b z e) = stays (write p b)
  modes_after signal d (operates p b o z up e x) = modes_operated p b o z x
  modes_after signal d (grants n e) = stays acknowledge

  pub mode_moves : (signal : Signal)
      → ModeMoves c signal (step c signal).controller.operation.rotation (step c signal).controller.operation.special (step c signal).controller.operation.selected
  mode_moves signal = modes_after signal (step c signal).controller (outcome c signal)

  level_after : (signal : Signal) (d : Controller) → Outcome c signal d → LevelMoves c signal d.lines.levels
  unfolding settled icw1 grant
  level_after signal d (unchanged s) = stays s
  level_after signal d (shows high) = by_levels high
  level_after signal d (begins p b z e) = stays (write p b)
  level_after signal d (bases p b z e) = stays (write p b)
  level_after signal d (readies p b z e) = stays (write p b)
  level_after signal d (masks p b z e) = stays (write p b)
  level_after signal d (operates p b o z up e x) = stays (write p b)
  level_after signal d (grants n e) = stays acknowledge

  pub level_moves : (signal : Signal) → LevelMoves c signal (step c signal).controller.lines.levels
  level_moves signal = level_after signal (step c signal).controller (outcome c signal)

  setup_after : (signal : Signal) (d : Controller) → Outcome c signal d → SetupMoves c signal d.setup
  unfolding settled icw1 icw2 icw4 grant
  setup_after signal d (unchanged s) = stays s
  setup_after signal d (shows high) = stays (levels high)
  setup_after signal d (begins p b z e) = by_icw1 p b z e
  setup_after signal d (bases p b z e) = by_icw2 p b z e
  setup_after signal d (readies p b z e) = by_icw4 p b z e
  setup_after signal d (masks p b z e) = stays (write p b)
  setup_after signal d (operates p b o z up e x) = stays (write p b)
  setup_after signal d (grants n e) = stays acknowledge

  pub setup_moves : (signal : Signal) → SetupMoves c signal (step c signal).controller.setup
  setup_moves signal = setup_after signal (step c signal).controller (outcome c signal)
