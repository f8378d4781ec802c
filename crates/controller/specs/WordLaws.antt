-- Which word a byte is, at each port and stage, and what it then does by the definitions; initialisation from any state.
use Rattle.std.specs.Prelude.{ℕ, ◌*◌, ◌/◌, ◌%◌, Bool, true, false, not, ◌&&◌, ◌||◌, ◌≡◌, eqb, ltb}
use Rattle.std.proofs.Math.Path.{refl, ap}
use Rattle.std.proofs.Common.{◌∙◌, eq-eqb}
use Rattle.base.specs.Pick.{pick}
use Rattle.base.specs.PickLaws.{pick_true, pick_false}
use Rattle.base.specs.Bits.{bit}
use Rattle.base.specs.declared.Answer.TheVariants.{Byte, Done}
use Rattle.rank.specs.Sets.{line}
use Rattle.controller.specs.State.{power_up, ready, begun, awaits_icw2, awaits_icw4, with_setup, with_operation, with_mask, with_rotation}
use Rattle.controller.specs.Signals.{Signal, read, write}
use Rattle.controller.specs.Words.{icw1, icw2, icw4, ended, made_last, plain_end, rotating_end, command, ocw2, ocw3, written0, written1, written, shown}
use Rattle.controller.specs.Refusals.{port_above, not_ready, not_served, refusal}
use Rattle.controller.specs.RefusalLaws.{refusal_by_grounds, step_done}
use Rattle.controller.specs.Steps.{step}
use Rattle.controller.specs.declared.Controller.{Controller}
use Rattle.controller.specs.declared.Setup.{Setup}
use Rattle.controller.specs.declared.Operation.{Operation}
use Rattle.controller.specs.declared.Signalled.{Signalled}

-- none of the three conditions holds
none_holds_lem : (s : Setup) (signal : Signal) → port_above signal ≡ false → not_ready s signal ≡ false → not_served s signal ≡ false → refusal s signal ≡ 0
none_holds_lem s signal a b c = rw (refusal_by_grounds s signal, pick_false _ _ _ a, pick_false _ _ _ b, pick_false _ _ _ c)

-- ---- initialisation

-- ICW1 is power-up with levels and base kept, its stage set, and level mode as bit 3 has it
pub icw1_as_power_up : (c : Controller) (b : ℕ)
    → icw1 c b
    ≡ record {
      lines = record { levels = c.lines.levels; latches = power_up.lines.latches };
      setup = record { stage = 1; level = bit 3 b; base = c.setup.base; automatic = power_up.setup.automatic };
      operation = power_up.operation;
    }
unfolding icw1
icw1_as_power_up c b = refl

any_time : (r x b4 : Bool) → b4 ≡ true → (not r && (true && not b4 || false && not x)) ≡ false
any_time true x b4 e = refl
any_time false x b4 e = rw e

served_word : (b4 b0 b1 b2 b3 : Bool) → b4 ≡ true → b0 ≡ true → b1 ≡ true → ((b4 && not (b0 && b1) || false) || (not b4 && b3) && b2) ≡ false
served_word b4 b0 b1 b2 b3 e f g = rw (e, f, g)

pub step_icw1 : (c : Controller) (b : ℕ) → bit 4 b ≡ true → bit 0 b ≡ true → bit 1 b ≡ true
    → step c (write 0 b) ≡ record { controller = icw1 c b; answer = Done }
unfolding written written0
step_icw1 c b e f g =
    step_done c (write 0 b)
    (none_holds_lem c.setup (write 0 b) refl (any_time (ready c.setup) (begun c.setup) (bit 4 b) e)
    (served_word (bit 4 b) (bit 0 b) (bit 1 b) (bit 2 b) (bit 3 b) e f g))
    ∙ ap (λ (d : Controller). record { controller = d; answer = Done })
    (pick_true (eqb 0 0) (written0 c b) (written1 c b) refl ∙ pick_true (bit 4 b) (icw1 c b) _ e)

-- at port 1 the stage decides
module _ (c : Controller) (b : ℕ) where
  pub step_icw2 : c.setup.stage ≡ 1 → step c (write 1 b) ≡ record { controller = with_setup c (icw2 c.setup b); answer = Done }
  unfolding written written1
  step_icw2 e =
      step_done c (write 1 b) (none_holds_lem c.setup (write 1 b) refl (rw e) (rw e))
      ∙ ap (λ (d : Controller). record { controller = d; answer = Done })
      (pick_false (eqb 1 0) (written0 c b) (written1 c b) refl ∙ pick_true (awaits_icw2 c.setup) _ _ (eq-eqb c.setup.stage 1 e))

  pub step_icw4 : c.setup.stage ≡ 2 → bit 0 b ≡ true → step c (write 1 b) ≡ record { controller = with_setup c (icw4 c.setup b); answer = Done }
  unfolding written written1
  step_icw4 e f =
      step_done c (write 1 b) (none_holds_lem c.setup (write 1 b) refl (rw e) (rw (e, f)))
      ∙ ap (λ (d : Controller). record { controller = d; answer = Done })
      (pick_false (eqb 1 0) (written0 c b) (written1 c b) refl ∙ pick_false (awaits_icw2 c.setup) _ _ (rw e)
      ∙ pick_true (awaits_icw4 c.setup) _ _ (eq-eqb c.setup.stage 2 e))

  -- "port 1 is the mask, both ways"
  pub step_mask : c.setup.stage ≡ 3 → step c (write 1 b) ≡ record { controller = with_operation c (with_mask c.operation b); answer = Done }
  unfolding written written1
  step_mask e =
      step_done c (write 1 b) (none_holds_lem c.setup (write 1 b) refl (rw e) (rw e))
      ∙ ap (λ (d : Controller). record { controller = d; answer = Done })
      (pick_false (eqb 1 0) (written0 c b) (written1 c b) refl ∙ pick_false (awaits_icw2 c.setup) _ _ (rw e) ∙ pick_false (awaits_icw4 c.setup) _ _ (rw e))

-- a read of a ready controller
pub step_read : (c : Controller) (p : ℕ) → c.setup.stage ≡ 3 → ltb 1 p ≡ false → step c (read p) ≡ record { controller = c; answer = Byte (shown c p) }
step_read c p up small = step_done c (read p) (none_holds_lem c.setup (read p) small (rw up) refl)

-- ICW1, ICW2 and ICW4 from any state, ready or not, give one controller, and each is answered by done
pub initialised : (c : Controller) (b1 b2 b4 : ℕ) → bit 4 b1 ≡ true → bit 0 b1 ≡ true → bit 1 b1 ≡ true → bit 0 b4 ≡ true
    → step (step (step c (write 0 b1)).controller (write 1 b2)).controller (write 1 b4)
    ≡ record {
      controller =
          record {
            lines = record { levels = c.lines.levels; latches = 0 };
            setup = record { stage = 3; level = bit 3 b1; base = b2 / 8 * 8; automatic = bit 1 b4 };
            operation = power_up.operation;
          };
      answer = Done;
    }
unfolding icw1 icw2 icw4
initialised c b1 b2 b4 e f g h =
    ap (λ (x : Signalled). step (step x.controller (write 1 b2)).controller (write 1 b4)) (step_icw1 c b1 e f g)
    ∙ ap (λ (x : Signalled). step x.controller (write 1 b4)) (step_icw2 (icw1 c b1) b2 refl)
    ∙ step_icw4 (with_setup (icw1 c b1) (icw2 (icw1 c b1).setup b2)) b4 refl h

-- ---- the operation words of a ready controller

no_icw1 : (b4 b0 b1 b2 b3 : Bool) → b4 ≡ false → b3 && b2 ≡ false → ((b4 && not (b0 && b1) || false) || (not b4 && b3) && b2) ≡ false
no_icw1 b4 b0 b1 b2 b3 e f = rw e f

module _ (c : Controller) (b : ℕ) (up : c.setup.stage ≡ 3) (e : bit 4 b ≡ false) where
  accepted : bit 3 b && bit 2 b ≡ false → refusal c.setup (write 0 b) ≡ 0
  accepted f = none_holds_lem c.setup (write 0 b) refl (rw up) (no_icw1 (bit 4 b) (bit 0 b) (bit 1 b) (bit 2 b) (bit 3 b) e f)

  -- bits 4-3 are 00: the command by bits 7-5, its line by bits 2-0
  pub step_ocw2 : bit 3 b ≡ false → step c (write 0 b) ≡ record { controller = with_operation c (command c.operation (b / 32 % 8) (line b)); answer = Done }
  unfolding written written0 ocw2
  step_ocw2 f =
      step_done c (write 0 b) (accepted (ap (λ (x : Bool). x && bit 2 b) f))
      ∙ ap (λ (d : Controller). record { controller = d; answer = Done })
      (pick_true (eqb 0 0) (written0 c b) (written1 c b) refl ∙ pick_false (bit 4 b) (icw1 c b) _ e
      ∙ pick_false (not (bit 4 b) && bit 3 b) _ _ (rw (e, f)))

  -- bits 4-3 are 01, and bit 2 is clear
  pub step_ocw3 : bit 3 b ≡ true → bit 2 b ≡ false → step c (write 0 b) ≡ record { controller = with_operation c (ocw3 c.operation b); answer = Done }
  unfolding written written0
  step_ocw3 f g =
      step_done c (write 0 b) (accepted (rw (f, g)))
      ∙ ap (λ (d : Controller). record { controller = d; answer = Done })
      (pick_true (eqb 0 0) (written0 c b) (written1 c b) refl ∙ pick_false (bit 4 b) (icw1 c b) _ e
      ∙ pick_true (not (bit 4 b) && bit 3 b) _ _ (rw (e, f)))

-- the eight commands
pub record Commands (o : Operation) (n : ℕ) : Type 0 where
  pub end : command o 0b001 n ≡ plain_end o
  pub end_rotating : command o 0b101 n ≡ rotating_end o
  pub end_line : command o 0b011 n ≡ ended o n
  pub end_line_rotating : command o 0b111 n ≡ made_last (ended o n) n
  pub make_last : command o 0b110 n ≡ made_last o n
  pub rotation_on : command o 0b100 n ≡ with_rotation o true
  pub rotation_off : command o 0b000 n ≡ with_rotation o false
  pub no_command : command o 0b010 n ≡ o

pub commands : (o : Operation) (n : ℕ) → Commands o n
unfolding command pick
commands o n =
    record {
      end = refl;
      end_rotating = refl;
      end_line = refl;
      end_line_rotating = refl;
      make_last = refl;
      rotation_on = refl;
      rotation_off = refl;
      no_command = refl;
    }
