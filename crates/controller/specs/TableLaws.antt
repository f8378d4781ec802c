-- The refusals by stage and word: with the words that are done (WordLaws) this is every case.
use Rattle.std.specs.Prelude.{ℕ, ◌<◌, Bool, true, false, not, ◌&&◌, ◌||◌, ◌≡◌, refl, ltb}
use Rattle.std.proofs.Common.{sym, ap, ◌∙◌, arith, lt-ltb}
use Rattle.base.specs.PickLaws.{pick_true, pick_false}
use Rattle.base.specs.Bits.{bit}
use Rattle.base.specs.declared.Answer.TheVariants.{Refused}
use Rattle.controller.specs.State.{ready, begun}
use Rattle.controller.specs.Signals.{Signal, read, write, acknowledge}
use Rattle.controller.specs.Refusals.{port_above, not_ready, not_served, refusal}
use Rattle.controller.specs.RefusalLaws.{refusal_by_grounds, step_refused}
use Rattle.controller.specs.Steps.{step}
use Rattle.controller.specs.declared.Controller.{Controller}

module _ (c : Controller) (signal : Signal) where
  by : (n : ℕ) → (n ≡ 0 → ⊥) → refusal c.setup signal ≡ n → step c signal ≡ record { controller = c; answer = Refused n }
  by n ne e = step_refused c signal (λ z. ne (sym e ∙ z)) ∙ ap (λ (k : ℕ). record { controller = c; answer = Refused k }) e

  by_2 : port_above signal ≡ true → step c signal ≡ record { controller = c; answer = Refused 2 }
  by_2 e = by 2 (λ z. omega arith) (refusal_by_grounds c.setup signal ∙ pick_true (port_above signal) 2 _ e)

  by_8 : port_above signal ≡ false → not_ready c.setup signal ≡ true → step c signal ≡ record { controller = c; answer = Refused 8 }
  by_8 e f = by 8 (λ z. omega arith) (refusal_by_grounds c.setup signal ∙ pick_false (port_above signal) 2 _ e ∙ pick_true (not_ready c.setup signal) 8 _ f)

  by_9 : port_above signal ≡ false → not_ready c.setup signal ≡ false → not_served c.setup signal ≡ true
      → step c signal ≡ record { controller = c; answer = Refused 9 }
  by_9 e f g =
      by 9 (λ z. omega arith)
      (refusal_by_grounds c.setup signal ∙ pick_false (port_above signal) 2 _ e ∙ pick_false (not_ready c.setup signal) 8 _ f ∙ pick_true (not_served c.setup signal) 9 _ g)

-- ---- 2: a port above 1, in every state

pub read_above : (c : Controller) (p : ℕ) → 1 < p → step c (read p) ≡ record { controller = c; answer = Refused 2 }
read_above c p large = by_2 c (read p) (lt-ltb 1 p large)

pub write_above : (c : Controller) (p b : ℕ) → 1 < p → step c (write p b) ≡ record { controller = c; answer = Refused 2 }
write_above c p b large = by_2 c (write p b) (lt-ltb 1 p large)

-- ---- 8: not ready

pub read_unready : (c : Controller) (p : ℕ) → ltb 1 p ≡ false → ready c.setup ≡ false → step c (read p) ≡ record { controller = c; answer = Refused 8 }
read_unready c p small down = by_8 c (read p) small (ap not down)

pub acknowledge_unready : (c : Controller) → ready c.setup ≡ false → step c acknowledge ≡ record { controller = c; answer = Refused 8 }
acknowledge_unready c down = by_8 c acknowledge refl (ap not down)

down_0 : (r b4 x : Bool) → r ≡ false → b4 ≡ false → (not r && (true && not b4 || false && not x)) ≡ true
down_0 r b4 x e f = rw (e, f)

-- an operation word
pub operation_unready : (c : Controller) (b : ℕ) → ready c.setup ≡ false → bit 4 b ≡ false → step c (write 0 b) ≡ record { controller = c; answer = Refused 8 }
operation_unready c b down e = by_8 c (write 0 b) refl (down_0 (ready c.setup) (bit 4 b) (begun c.setup) down e)

-- port 1 before any ICW1
pub port_1_unbegun : (c : Controller) (b : ℕ) → c.setup.stage ≡ 0 → step c (write 1 b) ≡ record { controller = c; answer = Refused 8 }
port_1_unbegun c b e = by_8 c (write 1 b) refl (rw e)

-- ---- 9: not served

up_0 : (r b4 x : Bool) → b4 ≡ true → (not r && (true && not b4 || false && not x)) ≡ false
up_0 true b4 x e = refl
up_0 false b4 x e = rw e

no_8086 : (b4 served z : Bool) → b4 ≡ true → served ≡ false → ((b4 && not served || false) || z) ≡ true
no_8086 b4 served z e f = rw (e, f)

-- ICW1 with bit 0 or bit 1 clear, in every state
pub icw1_unserved : (c : Controller) (b : ℕ) → bit 4 b ≡ true → (bit 0 b && bit 1 b) ≡ false → step c (write 0 b) ≡ record { controller = c; answer = Refused 9 }
icw1_unserved c b e f =
    by_9 c (write 0 b) refl (up_0 (ready c.setup) (bit 4 b) (begun c.setup) e) (no_8086 (bit 4 b) (bit 0 b && bit 1 b) _ e f)

-- ICW4 with bit 0 clear
pub icw4_unserved : (c : Controller) (b : ℕ) → c.setup.stage ≡ 2 → bit 0 b ≡ false → step c (write 1 b) ≡ record { controller = c; answer = Refused 9 }
icw4_unserved c b e f = by_9 c (write 1 b) refl (rw e) (rw (e, f))

poll : (b4 served b3 b2 : Bool) → b4 ≡ false → b3 ≡ true → b2 ≡ true → ((b4 && not served || false) || (not b4 && b3) && b2) ≡ true
poll b4 served b3 b2 e f g = rw (e, f, g)

-- OCW3 with bit 2 set
pub poll_unserved : (c : Controller) (b : ℕ) → c.setup.stage ≡ 3 → bit 4 b ≡ false → bit 3 b ≡ true → bit 2 b ≡ true
    → step c (write 0 b) ≡ record { controller = c; answer = Refused 9 }
poll_unserved c b up e f g = by_9 c (write 0 b) refl (rw up) (poll (bit 4 b) (bit 0 b && bit 1 b) (bit 3 b) (bit 2 b) e f g)
