-- The lines as they are watched, ready or not, and what the ports show of them.
use Rattle.std.specs.Prelude.{ℕ, Bool, true, false, not, ◌&&◌, ◌||◌, ◌≡◌, refl}
use Rattle.std.proofs.Math.Bool.{or-true, or-false}
use Rattle.std.proofs.Common.{sym, ap, ap₂, ◌∙◌, subst}
use Rattle.base.specs.PickLaws.{pick_true, pick_false}
use Rattle.base.specs.declared.Answer.TheVariants.{Byte, Done}
use Rattle.rank.specs.Sets.{has}
use Rattle.controller.specs.Signals.{levels, read, write}
use Rattle.controller.specs.Turns.{requests}
use Rattle.controller.specs.RefusalLaws.{step_levels}
use Rattle.controller.proofs.MoveLaws.{latch_lines}
use Rattle.controller.proofs.FrameLaws.{settled_levels}
use Rattle.controller.specs.LineLaws.{read_requests, read_mask}
use Rattle.controller.specs.WordLaws.{step_mask}
use Rattle.controller.specs.Steps.{step}
use Rattle.controller.specs.declared.Controller.{Controller}
use Rattle.controller.specs.declared.Signalled.{Signalled}

-- "A rise between two events sets the latch, a fall or a grant clears it. Lines are watched also while not ready."
pub record Watched (high : ℕ) (c : Controller) (s : Signalled) : Type 0 where
  pub answer : s.answer ≡ Done
  pub rise : (n : ℕ) → has c.lines.levels n ≡ false → has high n ≡ true → has s.controller.lines.latches n ≡ true
  pub fall : (n : ℕ) → has high n ≡ false → has s.controller.lines.latches n ≡ false
  pub still : (n : ℕ) → has c.lines.levels n ≡ true → has high n ≡ true → has s.controller.lines.latches n ≡ has c.lines.latches n
  pub shown : s.controller.lines.levels ≡ high
  -- nothing else
  pub setup : s.controller.setup ≡ c.setup
  pub operation : s.controller.operation ≡ c.operation

pub watched : (c : Controller) (high : ℕ) → Watched high c (step c (levels high))
watched c high =
    let w = settled_levels c high in
    subst (Watched high c) (sym (step_levels c high))
    (record {
      answer = refl;
      rise = λ n low up.
          latch_lines c high n ∙ ap₂ (λ (h l : Bool). h && (has c.lines.latches n || not l)) up low ∙ or-true (has c.lines.latches n);
      fall = λ n down. latch_lines c high n ∙ ap (λ (h : Bool). h && (has c.lines.latches n || not (has c.lines.levels n))) down;
      still = λ n was up.
          latch_lines c high n ∙ ap₂ (λ (h l : Bool). h && (has c.lines.latches n || not l)) up was ∙ or-false (has c.lines.latches n);
      shown = w.0;
      setup = w.1;
      operation = w.2;
    })

-- ---- what port 0 and port 1 show

module _ (c : Controller) (up : c.setup.stage ≡ 3) (chosen : c.operation.selected ≡ false) where
  shows : (s : ℕ) → requests c ≡ s → step c (read 0) ≡ record { controller = c; answer = Byte s }
  shows s e = read_requests c up chosen ∙ ap (λ (x : ℕ). record { controller = c; answer = Byte x }) e

  -- "Port 0 reads the standing requests, masked or not": line n is bit n of the byte (`has_bit`), high in level mode, latched in edge mode
  pub read_level : c.setup.level ≡ true → step c (read 0) ≡ record { controller = c; answer = Byte c.lines.levels }
  unfolding requests
  read_level e = shows c.lines.levels (pick_true c.setup.level c.lines.levels c.lines.latches e)

  pub read_edge : c.setup.level ≡ false → step c (read 0) ≡ record { controller = c; answer = Byte c.lines.latches }
  unfolding requests
  read_edge e = shows c.lines.latches (pick_false c.setup.level c.lines.levels c.lines.latches e)

-- "port 1 is the mask, both ways": what was written is read
pub mask_read_back : (c : Controller) (b : ℕ) → c.setup.stage ≡ 3 → (step (step c (write 1 b)).controller (read 1)).answer ≡ Byte b
mask_read_back c b up =
    ap (λ (s : Signalled). (step s.controller (read 1)).answer) (step_mask c b up) ∙ ap (λ (s : Signalled). s.answer) (read_mask _ up)
