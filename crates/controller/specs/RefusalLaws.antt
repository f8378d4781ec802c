-- Each refusal exactly where its condition holds and none before it does; a refused signal changes nothing.
use Rattle.std.specs.Prelude.{ℕ, Bool, true, false, [], ◌∷◌, ◌≡◌, refl, eqb}
use Rattle.std.proofs.Common.{sym, subst, arith, eq-eqb, ne_eqb, eqb-true}
use Rattle.base.specs.Pick.{pick}
use Rattle.base.specs.PickLaws.{pick_true, pick_false, pick_cases, not_both}
use Rattle.base.specs.declared.Answer.TheVariants.{Refused}
use Rattle.controller.specs.Signals.{Signal, levels, read, write, acknowledge}
use Rattle.controller.specs.Refusals.{line_above, port_above, not_ready, not_served, grounds, refusal, place_refusal}
use Rattle.base.specs.Refusals.{refusal_order, first_held}
use Rattle.base.specs.RefusalLaws.{follows, in_order}
use Rattle.controller.specs.Steps.{effect, step}
use Rattle.controller.specs.declared.Controller.{Controller}
use Rattle.controller.specs.declared.Setup.{Setup}
use Rattle.controller.specs.declared.Signalled.{Signalled}

-- ---- the number: the first ground of the signal that holds

-- the grounds of every signal are listed in the order
pub in_turn : (s : Setup) (signal : Signal) → follows refusal_order (grounds s signal) ≡ true
unfolding grounds
in_turn s (levels high) = refl
in_turn s (read port) = refl
in_turn s (write port b) = refl
in_turn s acknowledge = refl

-- so the number is that of the first that holds; a ground that a signal has not is a condition that does not hold
pub refusal_by_grounds : (s : Setup) (signal : Signal) → refusal s signal ≡ pick (port_above signal) 2 (pick (not_ready s signal) 8 (pick (not_served s signal) 9 0))
unfolding refusal grounds first_held pick
refusal_by_grounds s (levels high) = in_order (grounds s (levels high)) (in_turn s (levels high))
refusal_by_grounds s (read port) = in_order (grounds s (read port)) (in_turn s (read port))
refusal_by_grounds s (write port b) = in_order (grounds s (write port b)) (in_turn s (write port b))
refusal_by_grounds s acknowledge = in_order (grounds s acknowledge) (in_turn s acknowledge)

-- of a place one ground alone
pub place_by_ground : (n : ℕ) → place_refusal n ≡ pick (line_above n) 1 0
unfolding place_refusal first_held
place_by_ground n = in_order (record { number = 1; holds = line_above n } ∷ []) refl

-- ---- the number, told apart: its own condition holds, and no condition before it does

pub data Refuses (s : Setup) (signal : Signal) : ℕ → Type 0 where
  port : port_above signal ≡ true → Refuses s signal 2
  unready : port_above signal ≡ false → not_ready s signal ≡ true → Refuses s signal 8
  unserved : port_above signal ≡ false → not_ready s signal ≡ false → not_served s signal ≡ true → Refuses s signal 9
  none : port_above signal ≡ false → not_ready s signal ≡ false → not_served s signal ≡ false → Refuses s signal 0

told : (s : Setup) (signal : Signal) (a b c : Bool) → port_above signal ≡ a → not_ready s signal ≡ b → not_served s signal ≡ c
    → Refuses s signal (pick a 2 (pick b 8 (pick c 9 0)))
unfolding pick
told s signal true b c e f g = port e
told s signal false true c e f g = unready e f
told s signal false false true e f g = unserved e f g
told s signal false false false e f g = none e f g

pub refuses : (s : Setup) (signal : Signal) → Refuses s signal (refusal s signal)
refuses s signal =
    subst (Refuses s signal) (sym (refusal_by_grounds s signal)) (told s signal (port_above signal) (not_ready s signal) (not_served s signal) refl refl refl)

-- ---- what a step is

pub step_done : (c : Controller) (signal : Signal) → refusal c.setup signal ≡ 0 → step c signal ≡ effect c signal
unfolding step
step_done c signal e = pick_true _ (effect c signal) _ (eq-eqb (refusal c.setup signal) 0 e)

-- a refused signal leaves the controller equal, and tells its number
pub step_refused : (c : Controller) (signal : Signal) → (refusal c.setup signal ≡ 0 → ⊥)
    → step c signal ≡ record { controller = c; answer = Refused (refusal c.setup signal) }
unfolding step
step_refused c signal ne = pick_false _ (effect c signal) _ (ne_eqb (refusal c.setup signal) 0 ne)

-- what holds of the controller, and of it after the effect, holds of it after the signal
pub step_keeps : (P : Controller → Type 0) (c : Controller) (signal : Signal) → P c
    → (refusal c.setup signal ≡ 0 → P (effect c signal).controller) → P (step c signal).controller
unfolding step
step_keeps P c signal before after =
    pick_cases (λ (x : Signalled). P x.controller) (eqb (refusal c.setup signal) 0) (effect c signal) _
    (λ e. after (eqb-true (refusal c.setup signal) 0 e)) (λ e. before)

-- where a condition holds the controller is equal after the signal
served_signal : (s : Setup) (signal : Signal) (n : ℕ) → n ≡ 0 → Refuses s signal n
    → (port_above signal ≡ false) × (not_ready s signal ≡ false) × (not_served s signal ≡ false)
served_signal s signal n e (port a) = absurd (omega arith)
served_signal s signal n e (unready a b) = absurd (omega arith)
served_signal s signal n e (unserved a b d) = absurd (omega arith)
served_signal s signal n e (none a b d) = (a, b, d)

pub served_parts : (s : Setup) (signal : Signal) → refusal s signal ≡ 0
    → (port_above signal ≡ false) × (not_ready s signal ≡ false) × (not_served s signal ≡ false)
served_parts s signal free = served_signal s signal (refusal s signal) free (refuses s signal)

module _ (c : Controller) (signal : Signal) where
  pub port_keeps : port_above signal ≡ true → (step c signal).controller ≡ c
  port_keeps e = step_keeps (λ d. d ≡ c) c signal refl (λ free. absurd (not_both e (served_parts c.setup signal free).0))

  pub unready_keeps : not_ready c.setup signal ≡ true → (step c signal).controller ≡ c
  unready_keeps e = step_keeps (λ d. d ≡ c) c signal refl (λ free. absurd (not_both e (served_parts c.setup signal free).1))

  pub unserved_keeps : not_served c.setup signal ≡ true → (step c signal).controller ≡ c
  unserved_keeps e = step_keeps (λ d. d ≡ c) c signal refl (λ free. absurd (not_both e (served_parts c.setup signal free).2))

-- levels are never refused, and a read, refused or not, changes nothing
pub step_levels : (c : Controller) (high : ℕ) → step c (levels high) ≡ effect c (levels high)
unfolding pick
step_levels c high = step_done c (levels high) (refusal_by_grounds c.setup (levels high))

pub read_keeps : (c : Controller) (p : ℕ) → (step c (read p)).controller ≡ c
read_keeps c p = step_keeps (λ d. d ≡ c) c (read p) refl (λ free. refl)
