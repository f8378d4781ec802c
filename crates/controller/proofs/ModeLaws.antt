-- The words that end nothing: set-priority, automatic rotation, OCW2 010, and OCW3 by its bits.
use Rattle.std.specs.Prelude.{ℕ, ◌/◌, ◌%◌, Bool, true, false, ◌≡◌}
use Rattle.std.proofs.Math.Path.{refl}
use Rattle.std.proofs.Common.{◌∙◌}
use Rattle.base.specs.Pick.{pick}
use Rattle.base.specs.PickLaws.{pick_true, pick_false}
use Rattle.base.specs.Bits.{bit}
use Rattle.base.specs.declared.Answer.TheVariants.{Done}
use Rattle.rank.specs.Sets.{line}
use Rattle.rank.proofs.ChangeLaws.{BecomesLast, becomes_last}
use Rattle.controller.specs.State.{with_rotation}
use Rattle.controller.specs.Signals.{write}
use Rattle.controller.specs.Words.{made_last, ocw3}
use Rattle.controller.specs.WordLaws.{commands, step_ocw3}
use Rattle.controller.specs.RowLaws.{Same, Becomes, Turned, Row, row, step_code}
use Rattle.controller.specs.Steps.{step}
use Rattle.controller.specs.declared.Controller.{Controller}

module _ (c : Controller) (b : ℕ) (up : c.setup.stage ≡ 3) (no_icw1 : bit 4 b ≡ false) (no-ocw3 : bit 3 b ≡ false) where
  -- "110 make L last"
  pub make_last : b / 32 % 8 ≡ 0b110 → Row Same (BecomesLast (b % 8)) Same Same Same c (step c (write 0 b))
  unfolding made_last
  make_last code =
      let o = c.operation in
      row c (step c (write 0 b)) (made_last o (line b)) (step_code c b 0b110 (made_last o (line b)) up no_icw1 no-ocw3 code (commands o (line b)).make_last)
      refl refl (becomes_last (line b) o.first) refl refl refl

  -- "100 and 000 automatic rotation on and off"
  pub rotation_on : b / 32 % 8 ≡ 0b100 → Row Same Same (Becomes true) Same Same c (step c (write 0 b))
  rotation_on code =
      let o = c.operation in
      row c (step c (write 0 b)) (with_rotation o true) (step_code c b 0b100 (with_rotation o true) up no_icw1 no-ocw3 code (commands o (line b)).rotation_on)
      refl refl refl refl refl refl

  pub rotation_off : b / 32 % 8 ≡ 0b000 → Row Same Same (Becomes false) Same Same c (step c (write 0 b))
  rotation_off code =
      let o = c.operation in
      row c (step c (write 0 b)) (with_rotation o false) (step_code c b 0b000 (with_rotation o false) up no_icw1 no-ocw3 code (commands o (line b)).rotation_off)
      refl refl refl refl refl refl

  -- "010 nothing"
  pub no_command : b / 32 % 8 ≡ 0b010 → step c (write 0 b) ≡ record { controller = c; answer = Done }
  no_command code =
      let o = c.operation in
      step_code c b 0b010 o up no_icw1 no-ocw3 code (commands o (line b)).no_command

turned : (speaks value before : Bool) → Turned speaks value before (pick speaks value before)
turned speaks value before =
    record {
      on = λ e f. pick_true speaks value before e ∙ f;
      off = λ e f. pick_true speaks value before e ∙ f;
      silent = λ e. pick_false speaks value before e;
    }

-- "OCW3 (bits 4-3 are 01; bit 7 ignored): bits 6-5 11 special mask on, 10 off; bits 1-0 10 selects requests, 11 in-service."
pub selects : (c : Controller) (b : ℕ) → c.setup.stage ≡ 3 → bit 4 b ≡ false → bit 3 b ≡ true → bit 2 b ≡ false
    → Row Same Same Same (Turned (bit 6 b) (bit 5 b)) (Turned (bit 1 b) (bit 0 b)) c (step c (write 0 b))
unfolding ocw3
selects c b up no_icw1 is-ocw3 no-poll =
    let o = c.operation in
    row c (step c (write 0 b)) (ocw3 o b) (step_ocw3 c b up no_icw1 is-ocw3 no-poll)
    refl refl refl refl (turned (bit 6 b) (bit 5 b) o.special) (turned (bit 1 b) (bit 0 b) o.selected)
