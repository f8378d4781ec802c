-- An event on a seat and the controller, by what the seat's own step gives.
use Rattle.std.specs.Prelude.{ℕ, ◌≡◌}
use Rattle.std.proofs.Math.Bool.{true, false}
use Rattle.std.proofs.Math.Path.{ap}
use Rattle.std.proofs.Common.{sym, ◌∙◌}
use Rattle.std.proofs.Math.Dec.{eqb}
use borrow.Author.Tests.{eq-eqb, ne_eqb}
use Rattle.base.specs.PickLaws.{pick_true, pick_false, pick_through}
use Rattle.base.specs.Answers.{refusal_of}
use Rattle.registers.specs.declared.SeatEvent.{SeatEvent}
use Rattle.seat.specs.declared.Seat.{Seat}
use Rattle.seat.specs.declared.Replied.{Replied}
use Rattle.seat.specs.Seats.{line}
use Rattle.seat.specs.Steps.{refusal, stepped}
use Rattle.seat.specs.StepLaws.{step_taken, step_refused, step_number}
use Rattle.rank.specs.Sets.{with_line}
use Rattle.controller.specs.declared.Controller.{Controller}
use Rattle.controller.specs.Turns.{settled}
use Rattle.records.specs.declared.Touched.{Touched}
use Rattle.records.specs.Parts.{touched}

-- the seat that is touched is the seat's own step, refused or not
pub touched_seat : (s : Seat) (c : Controller) (n : ℕ) (e : SeatEvent) → (touched s c n e).seat ≡ (stepped s e).seat
unfolding touched stepped
touched_seat s c n e =
    pick_through (λ (t : Touched). t.seat) (eqb (refusal s e) 0) _ _
    ∙ sym (pick_through (λ (t : Replied). t.seat) (eqb (refusal s e) 0) _ _)

-- what the seat's step gave, with its refusal read off the answer
module _ (s : Seat) (c : Controller) (n : ℕ) (e : SeatEvent) (r : Replied) (is : r ≡ stepped s e) where
  number : refusal_of r.answer ≡ refusal s e
  number = ap (λ (x : Replied). refusal_of x.answer) is ∙ step_number s e

  pub touched_taken : refusal_of r.answer ≡ 0
      → touched s c n e ≡ record { seat = r.seat; controller = settled c (with_line c.lines.levels n (line r.seat)); answer = r.answer }
  unfolding touched
  touched_taken none =
      let zero_number : eqb (refusal s e) 0 ≡ true = eq-eqb _ _ (sym number ∙ none) in
      pick_true _ _ _ zero_number
      ∙ ap {B = Touched}
      (λ (x : Replied). record { seat = x.seat; controller = settled c (with_line c.lines.levels n (line x.seat)); answer = x.answer })
      (sym (is ∙ step_taken s e zero_number))

  pub touched_refused : (refusal_of r.answer ≡ 0 → ⊥) → touched s c n e ≡ record { seat = r.seat; controller = c; answer = r.answer }
  unfolding touched
  touched_refused some =
      let number_held : eqb (refusal s e) 0 ≡ false = ne_eqb _ _ (λ z. some (number ∙ z)) in
      pick_false _ _ _ number_held
      ∙ ap {B = Touched} (λ (x : Replied). record { seat = x.seat; controller = c; answer = x.answer }) (sym (is ∙ step_refused s e number_held))
