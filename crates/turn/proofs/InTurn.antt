-- Demand 3, proved: one recursion over what reaches the controller.
use Rattle.std.specs.Prelude.{Some}
use Prim.Native.Nat.{ℕ, ◌+◌, ◌<◌, ◌≤◌, zero-le}
use mathlib.Core.Bool.{Bool, true, false, not}
use mathlib.Core.List.{List, [], ◌∷◌}
use mathlib.Core.Path.{◌≡◌, refl, sym, ap, ◌∙◌, subst}
use mathlib.Core.Logic.{◌⊎◌, ⊎_elim}
use native.Mathlib.Nat.{eq-or-lt_of_le}
use native.Mathlib.Omega.{arith}
use borrow.Author.Tests.{eqb-true, eqb-false}
use lib.Dec.{eqb}
use lib.ListN.{length}
use Rattle.base.specs.PickLaws.{either_way}
use Rattle.base.specs.declared.Answer.TheVariants.{Vector}
use Rattle.rank.specs.Sets.{line}
use Rattle.rank.specs.Rank.{next, place}
use Rattle.rank.proofs.RankLaws.{place_lt, place_apart}
use Rattle.controller.specs.State.{ready}
use Rattle.controller.specs.Signals.{Signal, levels, read, write, acknowledge}
use Rattle.controller.specs.Turns.{settled, granted, vector, grant, answered}
use Rattle.controller.proofs.OutputLaws.{step_acknowledge}
use Rattle.controller.specs.RefusalLaws.{step_levels, read_keeps}
use Rattle.controller.specs.Steps.{step}
use Rattle.controller.specs.declared.Controller.{Controller}
use Rattle.controller.specs.declared.Setup.{Setup}
use Rattle.controller.specs.declared.Signalled.{Signalled}
use Rattle.turn.specs.Runs.{after, answers}
use Rattle.turn.specs.Waiting.{Start, word, paid, Names, Waits}
use Rattle.turn.specs.Demand3.{waiting, its_turn, InTurn, Demand3}
use Rattle.turn.proofs.Keeps.{Kept, Held, Granting, settled_kept, granting, granted_other}
use Rattle.turn.proofs.Writes.{writing}
use Rattle.turn.proofs.Rising.{Run, onward, all_ahead, none_twice, few, named_by}

below : {x y : ℕ} → x ≤ y → (x ≡ y → ⊥) → x < y
below l n = ⊎_elim (λ e. absurd (n e)) (λ m. m) (eq-or-lt_of_le l)

-- one vector is one line
one_line : (s : Setup) (g t : ℕ) → g < 8 → t < 8 → Vector (vector s g) ≡ Vector (vector s t) → g ≡ t
one_line s g t small under e = let q : vector s g ≡ vector s t = cc in omega arith

-- ---- an acknowledge, where nothing is in service and line t waits

module _ (t v : ℕ) (s : Setup) (up : ready s ≡ true) (lt : t < 8) (c : Controller) (k : Kept t s c) (h : Held false v c.operation) (rest : List Signal)
    (again : (d : Controller) (owed : Bool) (u : ℕ) → Kept t s d → Held owed u d.operation → Waits t owed d rest → Run s t u (answers d rest))
    (w : Names t c acknowledge ⊎ Waits t (not c.setup.automatic) (after c acknowledge) rest) where
  -- what it answers, and the controller after it
  granted_step : (g : ℕ) → granted c ≡ Some g → step c acknowledge ≡ record { controller = grant c g; answer = Vector (vector c.setup g) }
  granted_step g e = step_acknowledge c (subst (λ (x : Setup). ready x ≡ true) (sym k.same) up) ∙ ap (answered c) e

  told : (g : ℕ) → granted c ≡ Some g → Run s t v (Vector (vector s g) ∷ answers (grant c g) rest) → Run s t v (answers c (acknowledge ∷ rest))
  told g e r =
      subst (λ (x : Signalled). Run s t v (x.answer ∷ answers x.controller rest)) (sym (granted_step g e))
      (subst (λ (x : Setup). Run s t v (Vector (vector x g) ∷ answers (grant c g) rest)) (sym k.same) r)

  waits_on : (g : ℕ) → granted c ≡ Some g → Waits t (not c.setup.automatic) (after c acknowledge) rest → Waits t (not s.automatic) (grant c g) rest
  waits_on g e z =
      subst (λ (x : Setup). Waits t (not x.automatic) (grant c g) rest) k.same
      (subst (λ (x : Signalled). Waits t (not c.setup.automatic) x.controller rest) (granted_step g e) z)

  its_own : (g : ℕ) → granted c ≡ Some g → g ≡ t → Run s t v (answers c (acknowledge ∷ rest))
  its_own g e z =
      told g e
      (subst (λ (x : ℕ). Run s t v (Vector (vector s x) ∷ answers (grant c g) rest)) (sym z)
      (record { before = []; grants = its_turn (answers (grant c g) rest); rising = tt }))

  another_line : (g : ℕ) → granted c ≡ Some g → g < 8 → place v g ≤ place v t → (g ≡ t → ⊥) → Run s t v (answers c (acknowledge ∷ rest))
  another_line g e small no_later ne =
      let q = granted_other t g s v c lt small ne k h in
      told g e
      (onward s t v g (answers (grant c g) rest) small (below no_later (λ z. ne (place_apart v g t small lt z)))
      (⊎_elim (λ (z : Names t c acknowledge). absurd (ne (one_line c.setup g t small lt (ap (λ x. x.answer) (sym (granted_step g e)) ∙ z))))
      (λ (z : Waits t (not c.setup.automatic) (after c acknowledge) rest). again (grant c g) (not s.automatic) (next g) q.kept q.held (waits_on g e z)) w))

  granting_one : Granting t v c → Run s t v (answers c (acknowledge ∷ rest))
  granting_one g =
      ⊎_elim (λ (z : eqb g.line t ≡ true). its_own g.line g.grants (eqb-true g.line t z))
      (λ (z : eqb g.line t ≡ false). another_line g.line g.grants g.small g.no_later (eqb-false g.line t z))
      (either_way (eqb g.line t))

held_settled : (owed : Bool) (v high : ℕ) (c : Controller) → Held owed v c.operation → Held owed v (settled c high).operation
unfolding settled
held_settled owed v high c h = h

-- ---- the whole run

run : (t : ℕ) (s : Setup) → ready s ≡ true → t < 8 → (signals : List Signal) (c : Controller) (owed : Bool) (v : ℕ)
    → Kept t s c → Held owed v c.operation → Waits t owed c signals → Run s t v (answers c signals)
run t s up lt [] c owed v k h w = record { before = []; grants = waiting; rising = tt }
run t s up lt (levels high ∷ rest) c owed v k h w =
    let e : settled c high ≡ after c (levels high) = sym (ap (λ x. x.controller) (step_levels c high)) in
    ⊎_elim (λ z. absurd z)
    (run t s up lt rest (after c (levels high)) owed v (subst (Kept t s) e (settled_kept t high s c k w.0))
    (subst (λ (d : Controller). Held owed v d.operation) e (held_settled owed v high c h)))
    w.1
run t s up lt (read port ∷ rest) c owed v k h w =
    let e : c ≡ after c (read port) = sym (read_keeps c port) in
    ⊎_elim (λ z. absurd z)
    (run t s up lt rest (after c (read port)) owed v (subst (Kept t s) e k) (subst (λ (d : Controller). Held owed v d.operation) e h)) w.1
run t s up lt (write port b ∷ rest) c owed v k h w =
    let x = writing t v s owed c k h (eqb-true c.setup.stage 3 (subst (λ (y : Setup). ready y ≡ true) (sym k.same) up)) b port w.0 in
    ⊎_elim (λ z. absurd z) (run t s up lt rest (after c (write port b)) (paid owed (word port b)) v x.kept x.held) w.1
run t s up lt (acknowledge ∷ rest) c owed v k h w =
    let i = subst (λ (y : Bool). Held y v c.operation) w.0 h in
    granting_one t v s up lt c k i rest (run t s up lt rest) w.1 (granting t s v c lt k i)

sooner : (n p k : ℕ) → 0 + n ≤ p → p < k → n < k
sooner n p k l m = omega arith

in_turn : (c : Controller) (t : ℕ) (signals : List Signal) → Start c t → Waits t false c signals → InTurn c t (answers c signals)
in_turn c t signals st w =
    let r = run t c.setup st.up st.line signals c false c.operation.first
    (record { same = refl; plain = st.plain; turns = st.turns; stands = st.stands; unmasked = st.unmasked }) (st.idle, refl) w in
    let p = place c.operation.first in
    let m = few p 0 (p t) r.before zero-le r.rising in
    record {
      before = r.before;
      grants = r.grants;
      ahead = all_ahead p 0 (p t) r.before r.rising;
      once = none_twice p 0 (p t) r.before r.rising;
      soon = λ k l. named_by c.setup t r.before (answers c signals) k r.grants (sooner (length r.before) (p t) k m l);
      eighth = named_by c.setup t r.before (answers c signals) 8 r.grants (sooner (length r.before) (p t) 8 m (place_lt c.operation.first t));
    }

pub demand_3 : Demand3
unfolding Demand3
demand_3 = in_turn
