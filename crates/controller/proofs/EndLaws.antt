-- The ends: each takes its line out of service, and the rotating ones make it last-ranked; nothing else changes.
use Rattle.std.specs.Prelude.{ℕ, ◌/◌, ◌%◌, ◌<◌, false, ◌≡◌, ◌⊎◌, Some, None as Nobody}
use Rattle.std.proofs.Math.Path.{refl, ap}
use Rattle.std.proofs.Common.{◌∙◌, inl, inr}
use Rattle.base.specs.Bits.{bit}
use Rattle.base.specs.declared.Answer.TheVariants.{Done}
use Rattle.rank.specs.Sets.{line}
use Rattle.rank.specs.SetLaws.{line_lt}
use Rattle.rank.proofs.ChangeLaws.{Leaves, BecomesLast, leaves, becomes_last}
use Rattle.controller.specs.Signals.{write}
use Rattle.controller.specs.Turns.{hinders}
use Rattle.controller.specs.Words.{ended, made_last, served, ended_turn, rotated_turn, plain_end, rotating_end}
use Rattle.controller.proofs.GrantLaws.{served_first}
use Rattle.controller.proofs.GrantableLaws.{Hinders, FirstRanked, hinders_told, hinders_from, finds_first, finds_none}
use Rattle.controller.specs.WordLaws.{commands}
use Rattle.controller.specs.RowLaws.{Same, Row, row, step_code}
use Rattle.controller.specs.Steps.{step}
use Rattle.controller.specs.declared.Controller.{Controller}
use Rattle.controller.specs.declared.Operation.{Operation}

-- "the first-ranked in-service line, in special mask mode only an unmasked one"
abbrev pub Next : Operation → ℕ → Type 0
Next o n = FirstRanked o.first (Hinders o) n

-- there is none
abbrev pub None : Operation → Type 0
None o = (n : ℕ) → n < 8 → Hinders o n → ⊥

takes : (o : Operation) (n : ℕ) → Next o n → served o ≡ Some n
takes o n next = finds_first o.first (hinders o) (Hinders o) (hinders_told o) (hinders_from o) n (served o) (served_first o) next

takes_none : (o : Operation) → None o → served o ≡ Nobody
takes_none o none = finds_none o.first (hinders o) (Hinders o) (hinders_told o) (hinders_from o) (served o) (served_first o) none

module _ (c : Controller) (b : ℕ) (up : c.setup.stage ≡ 3) (no_icw1 : bit 4 b ≡ false) (no-ocw3 : bit 3 b ≡ false) where
  -- "001 end"
  pub end : (n : ℕ) → b / 32 % 8 ≡ 0b001 → Next c.operation n → Row (Leaves n) Same Same Same Same c (step c (write 0 b))
  unfolding plain_end ended
  end n code next =
      let o = c.operation in
      row c (step c (write 0 b)) (ended o n)
      (step_code c b 0b001 (ended o n) up no_icw1 no-ocw3 code ((commands o (line b)).end ∙ ap (ended_turn o) (takes o n next)))
      refl (leaves n o.service next.small) refl refl refl refl

  -- "101 end and make it last-ranked"
  pub end_rotating : (n : ℕ) → b / 32 % 8 ≡ 0b101 → Next c.operation n → Row (Leaves n) (BecomesLast n) Same Same Same c (step c (write 0 b))
  unfolding rotating_end ended made_last
  end_rotating n code next =
      let o = c.operation in
      row c (step c (write 0 b)) (made_last (ended o n) n)
      (step_code c b 0b101 (made_last (ended o n) n) up no_icw1 no-ocw3 code ((commands o (line b)).end_rotating ∙ ap (rotated_turn o) (takes o n next)))
      refl (leaves n o.service next.small) (becomes_last n o.first) refl refl refl

  -- "none, nothing changes"
  pub end_none : (b / 32 % 8 ≡ 0b001) ⊎ (b / 32 % 8 ≡ 0b101) → None c.operation → step c (write 0 b) ≡ record { controller = c; answer = Done }
  unfolding plain_end rotating_end
  end_none (inl code) none =
      let o = c.operation in
      step_code c b 0b001 o up no_icw1 no-ocw3 code ((commands o (line b)).end ∙ ap (ended_turn o) (takes_none o none))
  end_none (inr code) none =
      let o = c.operation in
      step_code c b 0b101 o up no_icw1 no-ocw3 code ((commands o (line b)).end_rotating ∙ ap (rotated_turn o) (takes_none o none))

  -- "011 end line L (bits 2-0)"
  pub end_line : b / 32 % 8 ≡ 0b011 → Row (Leaves (b % 8)) Same Same Same Same c (step c (write 0 b))
  unfolding ended
  end_line code =
      let o = c.operation in
      row c (step c (write 0 b)) (ended o (line b)) (step_code c b 0b011 (ended o (line b)) up no_icw1 no-ocw3 code (commands o (line b)).end_line)
      refl (leaves (line b) o.service (line_lt b)) refl refl refl refl

  -- "111 end L and make L last (in service or not)"
  pub end_line_rotating : b / 32 % 8 ≡ 0b111 → Row (Leaves (b % 8)) (BecomesLast (b % 8)) Same Same Same c (step c (write 0 b))
  unfolding ended made_last
  end_line_rotating code =
      let o = c.operation in
      let after = made_last (ended o (line b)) (line b) in
      row c (step c (write 0 b)) after (step_code c b 0b111 after up no_icw1 no-ocw3 code (commands o (line b)).end_line_rotating)
      refl (leaves (line b) o.service (line_lt b)) (becomes_last (line b) o.first) refl refl refl
