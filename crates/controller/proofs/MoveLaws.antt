-- What moves the first-ranked line, what enters and leaves service, and what sets and clears a latch: nothing else does.
use Rattle.std.specs.Prelude.{ℕ, ◌/◌, ◌%◌, Bool, true, false, not, ◌&&◌, ◌||◌, ◌≡◌, refl, ◌⊎◌, Some}
use Rattle.std.proofs.Math.Path.{ap}
use Rattle.std.proofs.Common.{◌∙◌, inl, inr}
use Rattle.base.specs.PickLaws.{pick_cases, both_hold}
use Rattle.rank.specs.Sets.{line, has, only, join, without}
use Rattle.rank.specs.SetLaws.{has_join, has_meet, has_without}
use Rattle.rank.specs.Rank.{next}
use Rattle.controller.specs.Signals.{Signal, levels, write, acknowledge}
use Rattle.controller.specs.Turns.{settled, granted, taken, grant}
use Rattle.controller.specs.Words.{is_icw1, icw1, ended, made_last, served, ocw3}
use Rattle.controller.proofs.OutcomeLaws.{Operates, nothing, ends, ends_last, ends_line, ends_line_last, makes_last, rotates_on, rotates_off, selects, Outcome, unchanged, shows, begins, bases, readies, masks, operates, grants, outcome}
use Rattle.controller.specs.Steps.{step}
use Rattle.controller.specs.declared.Controller.{Controller}
use Rattle.controller.specs.declared.Operation.{Operation}

-- ---- the first-ranked line

pub data FirstMoves (c : Controller) : Signal → ℕ → Type 0 where
  stays : (signal : Signal) → FirstMoves c signal c.operation.first
  by_icw1 : (p b : ℕ) → p ≡ 0 → is_icw1 b ≡ true → FirstMoves c (write p b) 0
  by_rotating_end : (p b n : ℕ) → p ≡ 0 → b / 32 % 8 ≡ 0b101 → served c.operation ≡ Some n → FirstMoves c (write p b) (next n)
  by_making_last : (p b : ℕ) → p ≡ 0 → b / 32 % 8 ≡ 0b110 → FirstMoves c (write p b) (next (line b))
  by_ending_last : (p b : ℕ) → p ≡ 0 → b / 32 % 8 ≡ 0b111 → FirstMoves c (write p b) (next (line b))
  by_grant : (n : ℕ) → granted c ≡ Some n → c.setup.automatic ≡ true → c.operation.rotation ≡ true → FirstMoves c acknowledge (next n)

module _ (c : Controller) where
  first_operated : (p b : ℕ) (o : Operation) → p ≡ 0 → Operates c.operation b o → FirstMoves c (write p b) o.first
  unfolding ended made_last ocw3
  first_operated p b o z nothing = stays (write p b)
  first_operated p b o z (ends n k e) = stays (write p b)
  first_operated p b o z (ends_last n k e) = by_rotating_end p b n z k e
  first_operated p b o z (ends_line k) = stays (write p b)
  first_operated p b o z (ends_line_last k) = by_ending_last p b z k
  first_operated p b o z (makes_last k) = by_making_last p b z k
  first_operated p b o z (rotates_on k) = stays (write p b)
  first_operated p b o z (rotates_off k) = stays (write p b)
  first_operated p b o z (selects e) = stays (write p b)

  first_after : (signal : Signal) (d : Controller) → Outcome c signal d → FirstMoves c signal d.operation.first
  unfolding settled icw1 grant taken
  first_after signal d (unchanged s) = stays s
  first_after signal d (shows high) = stays (levels high)
  first_after signal d (begins p b z e) = by_icw1 p b z e
  first_after signal d (bases p b z e) = stays (write p b)
  first_after signal d (readies p b z e) = stays (write p b)
  first_after signal d (masks p b z e) = stays (write p b)
  first_after signal d (operates p b o z up e x) = first_operated p b o z x
  first_after signal d (grants n e) =
      pick_cases (FirstMoves c acknowledge) (c.setup.automatic && c.operation.rotation) (next n) c.operation.first
      (λ f. by_grant n e (both_hold c.setup.automatic c.operation.rotation f).0 (both_hold c.setup.automatic c.operation.rotation f).1)
      (λ f. stays acknowledge)

  pub first_moves : (signal : Signal) → FirstMoves c signal (step c signal).controller.operation.first
  first_moves signal = first_after signal (step c signal).controller (outcome c signal)

-- ---- in service

-- an end word that finds line n: a plain end by its search, another by its bits 2-0
pub data Ends (o : Operation) (b : ℕ) : ℕ → Type 0 where
  plain : (n : ℕ) → (b / 32 % 8 ≡ 0b001) ⊎ (b / 32 % 8 ≡ 0b101) → served o ≡ Some n → Ends o b n
  named : (b / 32 % 8 ≡ 0b011) ⊎ (b / 32 % 8 ≡ 0b111) → Ends o b (line b)

pub data ServiceMoves (c : Controller) : Signal → ℕ → Type 0 where
  stays : (signal : Signal) → ServiceMoves c signal c.operation.service
  by_icw1 : (p b : ℕ) → p ≡ 0 → is_icw1 b ≡ true → ServiceMoves c (write p b) 0
  by_end : (p b n : ℕ) → p ≡ 0 → Ends c.operation b n → ServiceMoves c (write p b) (without c.operation.service (only n))
  by_grant : (n : ℕ) → granted c ≡ Some n → c.setup.automatic ≡ false → ServiceMoves c acknowledge (join c.operation.service (only n))

module _ (c : Controller) where
  service_operated : (p b : ℕ) (o : Operation) → p ≡ 0 → Operates c.operation b o → ServiceMoves c (write p b) o.service
  unfolding ended made_last ocw3
  service_operated p b o z nothing = stays (write p b)
  service_operated p b o z (ends n k e) = by_end p b n z (plain n (inl k) e)
  service_operated p b o z (ends_last n k e) = by_end p b n z (plain n (inr k) e)
  service_operated p b o z (ends_line k) = by_end p b (line b) z (named (inl k))
  service_operated p b o z (ends_line_last k) = by_end p b (line b) z (named (inr k))
  service_operated p b o z (makes_last k) = stays (write p b)
  service_operated p b o z (rotates_on k) = stays (write p b)
  service_operated p b o z (rotates_off k) = stays (write p b)
  service_operated p b o z (selects e) = stays (write p b)

  service_after : (signal : Signal) (d : Controller) → Outcome c signal d → ServiceMoves c signal d.operation.service
  unfolding settled icw1 grant taken
  service_after signal d (unchanged s) = stays s
  service_after signal d (shows high) = stays (levels high)
  service_after signal d (begins p b z e) = by_icw1 p b z e
  service_after signal d (bases p b z e) = stays (write p b)
  service_after signal d (readies p b z e) = stays (write p b)
  service_after signal d (masks p b z e) = stays (write p b)
  service_after signal d (operates p b o z up e x) = service_operated p b o z x
  service_after signal d (grants n e) =
      pick_cases (ServiceMoves c acknowledge) c.setup.automatic c.operation.service (join c.operation.service (only n))
      (λ f. stays acknowledge) (λ f. by_grant n e f)

  pub service_moves : (signal : Signal) → ServiceMoves c signal (step c signal).controller.operation.service
  service_moves signal = service_after signal (step c signal).controller (outcome c signal)

-- ---- latches

pub data LatchMoves (c : Controller) : Signal → ℕ → Type 0 where
  stays : (signal : Signal) → LatchMoves c signal c.lines.latches
  by_levels : (high : ℕ) → LatchMoves c (levels high) (settled c high).lines.latches
  by_icw1 : (p b : ℕ) → p ≡ 0 → is_icw1 b ≡ true → LatchMoves c (write p b) 0
  by_grant : (n : ℕ) → granted c ≡ Some n → LatchMoves c acknowledge (without c.lines.latches (only n))

module _ (c : Controller) where
  latch_after : (signal : Signal) (d : Controller) → Outcome c signal d → LatchMoves c signal d.lines.latches
  unfolding icw1 grant
  latch_after signal d (unchanged s) = stays s
  latch_after signal d (shows high) = by_levels high
  latch_after signal d (begins p b z e) = by_icw1 p b z e
  latch_after signal d (bases p b z e) = stays (write p b)
  latch_after signal d (readies p b z e) = stays (write p b)
  latch_after signal d (masks p b z e) = stays (write p b)
  latch_after signal d (operates p b o z up e x) = stays (write p b)
  latch_after signal d (grants n e) = by_grant n e

  pub latch_moves : (signal : Signal) → LatchMoves c signal (step c signal).controller.lines.latches
  latch_moves signal = latch_after signal (step c signal).controller (outcome c signal)

  -- line by line: a latch is set after new levels exactly if its line is high, and was latched before or low before
  high_twice : (h x y : Bool) → (h && (x || (h && y))) ≡ (h && (x || y))
  high_twice true x y = refl
  high_twice false x y = refl

  pub latch_lines : (high n : ℕ) → has (settled c high).lines.latches n ≡ (has high n && (has c.lines.latches n || not (has c.lines.levels n)))
  unfolding settled
  latch_lines high n =
      has_meet high (join c.lines.latches (without high c.lines.levels)) n
      ∙ ap (λ (x : Bool). has high n && x)
      (has_join c.lines.latches (without high c.lines.levels) n
      ∙ ap (λ (x : Bool). has c.lines.latches n || x) (has_without high c.lines.levels n))
      ∙ high_twice (has high n) (has c.lines.latches n) (not (has c.lines.levels n))
