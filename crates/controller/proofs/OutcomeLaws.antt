-- All that a signal can do to a controller, told apart. Whatever is not named here does not happen.
use Rattle.std.specs.Prelude.{ℕ, ◌/◌, ◌%◌, ◌≤◌, Bool, false, not, ◌&&◌, ◌||◌, ◌≡◌, refl, ltb, Option, Some, None}
use Rattle.std.proofs.Math.Bool.{true}
use Rattle.std.proofs.Math.Logic.{⊎_elim}
use Rattle.std.proofs.Common.{arith}
use borrow.Author.Tests.{eq-eqb, eqb-true, eqb-false, ltb-false}
use Rattle.std.proofs.Math.Dec.{eqb}
use Rattle.base.specs.PickLaws.{pick_cases, either_way, not_both}
use Rattle.rank.specs.Sets.{line}
use Rattle.controller.specs.State.{ready, begun, awaits_icw2, awaits_icw4, with_setup, with_operation, with_mask, with_rotation}
use Rattle.controller.specs.Signals.{Signal, levels, read, write, acknowledge}
use Rattle.controller.specs.Turns.{settled, granted, grant, answered, acknowledged}
use Rattle.controller.specs.Words.{is_icw1, is_ocw3, icw1, icw2, icw4, ended, made_last, served, ended_turn, rotated_turn, plain_end, rotating_end, command, ocw2, ocw3, written0, written1, written}
use Rattle.controller.specs.Refusals.{not_ready, not_served, refusal}
use Rattle.controller.specs.RefusalLaws.{served_parts, step_keeps}
use Rattle.controller.specs.Steps.{effect, step}
use Rattle.controller.specs.declared.Controller.{Controller}
use Rattle.controller.specs.declared.Operation.{Operation}

-- what an operation word does at port 0
pub data Operates (o : Operation) (b : ℕ) : Operation → Type 0 where
  nothing : Operates o b o
  ends : (n : ℕ) → b / 32 % 8 ≡ 0b001 → served o ≡ Some n → Operates o b (ended o n)
  ends_last : (n : ℕ) → b / 32 % 8 ≡ 0b101 → served o ≡ Some n → Operates o b (made_last (ended o n) n)
  ends_line : b / 32 % 8 ≡ 0b011 → Operates o b (ended o (line b))
  ends_line_last : b / 32 % 8 ≡ 0b111 → Operates o b (made_last (ended o (line b)) (line b))
  makes_last : b / 32 % 8 ≡ 0b110 → Operates o b (made_last o (line b))
  rotates_on : b / 32 % 8 ≡ 0b100 → Operates o b (with_rotation o true)
  rotates_off : b / 32 % 8 ≡ 0b000 → Operates o b (with_rotation o false)
  selects : is_ocw3 b ≡ true → Operates o b (ocw3 o b)

-- what a signal does
pub data Outcome (c : Controller) : Signal → Controller → Type 0 where
  unchanged : (signal : Signal) → Outcome c signal c
  shows : (high : ℕ) → Outcome c (levels high) (settled c high)
  begins : (p b : ℕ) → p ≡ 0 → is_icw1 b ≡ true → Outcome c (write p b) (icw1 c b)
  bases : (p b : ℕ) → p ≡ 1 → awaits_icw2 c.setup ≡ true → Outcome c (write p b) (with_setup c (icw2 c.setup b))
  readies : (p b : ℕ) → p ≡ 1 → awaits_icw4 c.setup ≡ true → Outcome c (write p b) (with_setup c (icw4 c.setup b))
  masks : (p b : ℕ) → p ≡ 1 → ready c.setup ≡ true → Outcome c (write p b) (with_operation c (with_mask c.operation b))
  operates : (p b : ℕ) (o : Operation) → p ≡ 0 → ready c.setup ≡ true → is_icw1 b ≡ false → Operates c.operation b o
      → Outcome c (write p b) (with_operation c o)
  grants : (n : ℕ) → granted c ≡ Some n → Outcome c acknowledge (grant c n)

module _ (o : Operation) (b : ℕ) where
  ends_turn : b / 32 % 8 ≡ 0b001 → (t : Option ℕ) → served o ≡ t → Operates o b (ended_turn o t)
  ends_turn k (Some n) e = ends n k e
  ends_turn k None e = nothing

  ends_last_turn : b / 32 % 8 ≡ 0b101 → (t : Option ℕ) → served o ≡ t → Operates o b (rotated_turn o t)
  ends_last_turn k (Some n) e = ends_last n k e
  ends_last_turn k None e = nothing

  by_ocw2 : Operates o b (ocw2 o b)
  unfolding ocw2 command plain_end rotating_end
  by_ocw2 =
      let k = b / 32 % 8 in
      let P = Operates o b in
      pick_cases P (eqb k 0b001) _ _ (λ e. ends_turn (eqb-true k 0b001 e) (served o) refl)
      (λ _. pick_cases P (eqb k 0b101) _ _ (λ e. ends_last_turn (eqb-true k 0b101 e) (served o) refl)
      (λ _. pick_cases P (eqb k 0b011) _ _ (λ e. ends_line (eqb-true k 0b011 e))
      (λ _. pick_cases P (eqb k 0b111) _ _ (λ e. ends_line_last (eqb-true k 0b111 e))
      (λ _. pick_cases P (eqb k 0b110) _ _ (λ e. makes_last (eqb-true k 0b110 e))
      (λ _. pick_cases P (eqb k 0b100) _ _ (λ e. rotates_on (eqb-true k 0b100 e))
      (λ _. pick_cases P (eqb k 0b000) _ _ (λ e. rotates_off (eqb-true k 0b000 e)) (λ _. nothing)))))))

-- ---- the ready controller, where a write is not refused

ready_0 : (r x y : Bool) → (not r && (true && not false || y && not x)) ≡ false → r ≡ true
ready_0 true x y e = refl
ready_0 false x y e = absurd (not_both refl e)

ready_1 : (r i j : Bool) → i ≡ false → j ≡ false → (not r && (false || true && not (i || j || r))) ≡ false → r ≡ true
ready_1 true i j e f g = refl
ready_1 false i j e f g = absurd (not_both refl (rw (e, f) at g))

module _ (c : Controller) (p b : ℕ) (free : refusal c.setup (write p b) ≡ 0) where
  parts : (ltb 1 p ≡ false) × (not_ready c.setup (write p b) ≡ false) × (not_served c.setup (write p b) ≡ false)
  parts = served_parts c.setup (write p b) free

  at_0 : p ≡ 0 → Outcome c (write p b) (written0 c b)
  unfolding written0
  at_0 z =
      let P = Outcome c (write p b) in
      pick_cases P (is_icw1 b) _ _ (λ e. begins p b z e)
      (λ e.
      let up : ready c.setup ≡ true = ready_0 (ready c.setup) (begun c.setup) (eqb p 1) (rw (eq-eqb p 0 z, e) at parts.1) in
      pick_cases P (is_ocw3 b) _ _ (λ f. operates p b (ocw3 c.operation b) z up e (selects f))
      (λ f. operates p b (ocw2 c.operation b) z up e (by_ocw2 c.operation b)))

  at_1 : p ≡ 1 → eqb p 0 ≡ false → Outcome c (write p b) (written1 c b)
  unfolding written1
  at_1 z f =
      let P = Outcome c (write p b) in
      pick_cases P (awaits_icw2 c.setup) _ _ (λ e. bases p b z e)
      (λ e.
      pick_cases P (awaits_icw4 c.setup) _ _ (λ g. readies p b z g)
      (λ g.
      masks p b z
      (ready_1 (ready c.setup) (awaits_icw2 c.setup) (awaits_icw4 c.setup) e g (rw (f, eq-eqb p 1 z) at parts.1))))

  by_write_lem : Outcome c (write p b) (written c p b)
  unfolding written
  by_write_lem =
      pick_cases (Outcome c (write p b)) (eqb p 0) _ _ (λ e. at_0 (eqb-true p 0 e))
      (λ e.
      let small : p ≤ 1 = ltb-false 1 p parts.0 in
      let z : p ≡ 0 → ⊥ = eqb-false p 0 e in
      at_1 (one small z) e)
    where
      one : p ≤ 1 → (p ≡ 0 → ⊥) → p ≡ 1
      one small z = ⊎_elim (λ (e : eqb p 0 ≡ true). absurd (z (eqb-true p 0 e))) (λ (e : eqb p 0 ≡ false). omega (arith, eqb-false p 0 e)) (either_way (eqb p 0))

by_turn : (c : Controller) (t : Option ℕ) → granted c ≡ t → Outcome c acknowledge (answered c t).controller
by_turn c (Some n) e = grants n e
by_turn c None e = unchanged acknowledge

by_effect : (c : Controller) (signal : Signal) → refusal c.setup signal ≡ 0 → Outcome c signal (effect c signal).controller
unfolding acknowledged
by_effect c (levels high) free = shows high
by_effect c (read p) free = unchanged (read p)
by_effect c (write p b) free = by_write_lem c p b free
by_effect c acknowledge free = by_turn c (granted c) refl

pub outcome : (c : Controller) (signal : Signal) → Outcome c signal (step c signal).controller
outcome c signal = step_keeps (Outcome c signal) c signal (unchanged signal) (by_effect c signal)
