use Rattle.std.specs.Prelude.{ℕ, Option, Some, None, Result, Ok, Err, ◌≡◌, refl}
use Rattle.std.specs.Option.{MatchOption}
use Rattle.std.specs.Result.{result_err}
use Rattle.std.proofs.Common.{rules, ap, sym, ◌∙◌}
use Rattle.base.specs.Refusals.{number_of, number_given}
use Rattle.base.specs.declared.Answer.TheVariants.{Refused}
use Rattle.base.specs.declared.Refusal.{Refusal}
use Rattle.controller.specs.declared.Controller.{Controller}
use Rattle.seat.specs.declared.Seat.{Seat}
use Rattle.records.specs.declared.Touched.{Touched}
use Rattle.records.specs.declared.Event.{Event}
use Rattle.records.specs.Events.{numbered}
use Rattle.records.specs.Parts.{dealt_parts}
use Rattle.records.proofs.parts.step_parts.Goals as goal

-- the number of the refusal, where there is one
given : (gives : Refusal → Type 0) (m : ℕ) → ((r : Refusal) → gives r → m ≡ number_of r) → (o : Option Refusal) → MatchOption o (m ≡ 0) gives → m ≡ number_given o
unfolding number_given
given gives m told None g = g
given gives m told (Some r) g = told r g

-- a record that was not taken leaves both parts, and is answered with its refusal
not_taken : (s : Seat) (c : Controller) (d : Result Event Refusal) → ((e : Event) → d ≡ Ok e → ⊥)
    → ◌≡◌ {A = Touched} (record { seat = s; controller = c; answer = Refused (number_given (result_err d)) }) (dealt_parts s c (numbered d))
unfolding dealt_parts numbered number_given
not_taken s c (Ok e) k = absurd (k e refl)
not_taken s c (Err r) k = refl

pub returns-in_default : goal.returns-in_default
returns-in_default c = let a = c.args in
    let d = c.try_from-decoded.result in
    ap {B = Touched} (λ (n : ℕ). record { seat = a.seat; controller = a.controller; answer = Refused n })
    (given _ _ (λ r g. search rules) _ c.map_or-number.ensures ∙ ap number_given c.err.ensures.value)
    ∙ not_taken a.seat a.controller d c.in_default.not-Ok
    ∙ ap (dealt_parts a.seat a.controller) c.try_from-decoded.ensures

pub returns : goal.returns
unfolding dealt_parts numbered
returns c = let a = c.args in
    c.meet_parts.ensures
    ∙ ap (λ d. dealt_parts a.seat a.controller (numbered d)) (sym c.in-Ok.is)
    ∙ ap (dealt_parts a.seat a.controller) c.try_from-decoded.ensures
