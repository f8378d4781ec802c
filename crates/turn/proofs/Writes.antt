-- What a write that may come does while line t waits.
use Rattle.std.specs.Prelude.{Option}
use Prim.Native.Nat.{ℕ, ◌/◌, ◌%◌, ◌<◌}
use mathlib.Core.Bool.{Bool, true, false, not, ◌&&◌, ◌||◌}
use mathlib.Core.Path.{◌≡◌, refl, sym, ap, ◌∙◌, subst}
use mathlib.Core.Logic.{⊎_elim}
use native.Mathlib.Omega.{arith}
use borrow.Author.Tests.{eq-eqb, eqb-true, eqb-false, lt-ltb}
use lib.Dec.{eqb}
use Rattle.base.specs.Pick.{pick}
use Rattle.base.specs.PickLaws.{pick_true, pick_false, either_way, not_both}
use Rattle.base.specs.Bits.{bit}
use Rattle.rank.specs.Sets.{line, has, only, without}
use Rattle.rank.specs.SetLaws.{has_only, has_none, only_without}
use Rattle.controller.specs.State.{with_operation}
use Rattle.controller.specs.Signals.{write}
use Rattle.controller.specs.Turns.{requests, hinders}
use Rattle.controller.proofs.GrantLaws.{Finds, foremost, nobody, served_first}
use Rattle.controller.specs.LineLaws.{hinders_plain}
use Rattle.controller.specs.Words.{is_ocw3, ended, made_last, served, rotated_turn, rotating_end, command, ocw3}
use Rattle.controller.specs.WordLaws.{step_mask, step_ocw2, step_ocw3, commands}
use Rattle.controller.specs.Refusals.{icw1_served}
use Rattle.controller.specs.RefusalLaws.{port_keeps, unserved_keeps}
use Rattle.controller.specs.Steps.{step}
use Rattle.controller.specs.declared.Controller.{Controller}
use Rattle.controller.specs.declared.Setup.{Setup}
use Rattle.controller.specs.declared.Operation.{Operation}
use Rattle.turn.specs.Waiting.{Word, mask, rotating, barred, harmless, word0, word, MayWrite, paid}
use Rattle.turn.proofs.Keeps.{Kept, Held}

pub record Written (t v : ℕ) (s : Setup) (owed : Bool) (d : Controller) : Type 0 where
  pub kept : Kept t s d
  pub held : Held owed v d.operation

-- ---- the rotating end: it takes the one line in service, or none, and nothing is owed any more

none_served : (o : Operation) → o.special ≡ false → o.service ≡ 0 → (g : Option ℕ) → served o ≡ g → Finds o.first (hinders o) g → rotated_turn o g ≡ o
none_served o plain idle g q (foremost n f) =
    absurd (not_both f.passes (hinders_plain o n plain ∙ ap (λ (x : ℕ). has x n) idle ∙ has_none n))
none_served o plain idle g q (nobody none) = refl

one_served : (o : Operation) (l : ℕ) → l < 8 → o.special ≡ false → o.service ≡ only l → (g : Option ℕ) → served o ≡ g → Finds o.first (hinders o) g
    → rotated_turn o g ≡ made_last (ended o l) l
one_served o l small plain serving g q (foremost n f) =
    let e : eqb (line l) (line n) ≡ true = sym (has_only l n) ∙ ap (λ (x : ℕ). has x n) (sym serving) ∙ sym (hinders_plain o n plain) ∙ f.passes in
    let z : n ≡ l = same_line l n small f.small (eqb-true (line l) (line n) e) in
    ap (λ (x : ℕ). made_last (ended o x) x) z
  where
    same_line : (l n : ℕ) → l < 8 → n < 8 → line l ≡ line n → n ≡ l
    same_line l n small below e = omega arith
one_served o l small plain serving g q (nobody none) =
    absurd
    (not_both (has_only l l ∙ eq-eqb (line l) (line l) refl) (ap (λ (x : ℕ). has x l) (sym serving) ∙ sym (hinders_plain o l plain) ∙ none l small))

module _ (t v : ℕ) (s : Setup) (c : Controller) (k : Kept t s c) where
  ends_owed : (owed : Bool) → Held owed v c.operation → Written t v s false (with_operation c (rotating_end c.operation))
  unfolding rotating_end ended made_last requests
  ends_owed false h =
      subst (λ (o : Operation). Written t v s false (with_operation c o))
      (sym (none_served c.operation k.plain h.0 (served c.operation) refl (served_first c.operation)))
      (record { kept = k; held = h })
  ends_owed true h =
      subst (λ (o : Operation). Written t v s false (with_operation c o))
      (sym (one_served c.operation h.line h.small k.plain h.serving (served c.operation) refl (served_first c.operation)))
      (record {
        kept = record { same = k.same; plain = k.plain; turns = k.turns; stands = k.stands; unmasked = k.unmasked };
        held = (ap (λ (x : ℕ). without x (only h.line)) h.serving ∙ only_without h.line, h.behind);
      })

held_only : (owed : Bool) (v : ℕ) (o : Operation) (m : ℕ) (special selected : Bool) → Held owed v o
    → Held owed v (record { mask = m; service = o.service; first = o.first; rotation = o.rotation; special = special; selected = selected })
held_only false v o m special selected h = h
held_only true v o m special selected h = h

above : (p : ℕ) → (p ≡ 0 → ⊥) → (p ≡ 1 → ⊥) → 1 < p
above p x y = omega (arith, x, y)

-- ---- port 0, byte by byte

module _ (t v : ℕ) (s : Setup) (owed : Bool) (c : Controller) (k : Kept t s c) (h : Held owed v c.operation) (up : c.setup.stage ≡ 3) (b : ℕ) where
  Goal : Controller → Type 0
  Goal d = MayWrite t b (word0 b) → Written t v s (paid owed (word0 b)) d

  -- a barred word does not come
  no : (d : Controller) → word0 b ≡ barred → Goal d
  unfolding Goal
  no d e may = absurd (rw e at may)

  -- a harmless one leaves t waiting
  safe : (d : Controller) → word0 b ≡ harmless → Written t v s owed d → Goal d
  unfolding Goal
  safe d e w may = rw e w

  turning : word0 b ≡ rotating → Goal (with_operation c (rotating_end c.operation))
  unfolding Goal
  turning e may = rw e (ends_owed t v s c k owed h)

  stay : Written t v s owed c
  stay = record { kept = k; held = h }

  -- the controller after the step is d
  moved : (d : Controller) → (step c (write 0 b)).controller ≡ d → Goal d → Goal (step c (write 0 b)).controller
  moved d e g = subst Goal (sym e) g

  refused : (x y z : Bool) → x ≡ true → y ≡ false → ((x && not y || false) || z) ≡ true
  refused x y z e f = rw (e, f)

  poll : (x y z w : Bool) → x ≡ false → z ≡ true → w ≡ true → ((x && not y || false) || (not x && z) && w) ≡ true
  poll x y z w e f g = rw (e, f, g)

  by_icw1 : bit 4 b ≡ true → Goal (step c (write 0 b)).controller
  unfolding word0
  by_icw1 i =
      ⊎_elim (λ (j : icw1_served b ≡ true). no (step c (write 0 b)).controller (pick_true (bit 4 b) _ _ i ∙ pick_true (icw1_served b) barred harmless j))
      (λ (j : icw1_served b ≡ false).
      moved c (unserved_keeps c (write 0 b) (refused (bit 4 b) (icw1_served b) _ i j))
      (safe c (pick_true (bit 4 b) _ _ i ∙ pick_false (icw1_served b) barred harmless j) stay)) (either_way (icw1_served b))

  third : bit 4 b ≡ false → bit 3 b ≡ true → is_ocw3 b ≡ true
  third i j = rw (i, j)

  selecting : bit 4 b ≡ false → bit 3 b ≡ true → bit 2 b ≡ false → bit 6 b ≡ false → Goal (step c (write 0 b)).controller
  unfolding word0 ocw3 requests
  selecting i j l m =
      moved (with_operation c (ocw3 c.operation b)) (ap (λ x. x.controller) (step_ocw3 c b up i j l))
      (safe (with_operation c (ocw3 c.operation b))
      (pick_false (bit 4 b) _ _ i ∙ pick_true (is_ocw3 b) _ _ (third i j) ∙ pick_false (bit 2 b) harmless _ l ∙ pick_false (bit 6 b) barred harmless m)
      (record {
        kept =
            record {
              same = k.same;
              plain = pick_false (bit 6 b) (bit 5 b) c.operation.special m ∙ k.plain;
              turns = k.turns;
              stands = k.stands;
              unmasked = k.unmasked;
            };
        held = held_only owed v c.operation c.operation.mask (pick (bit 6 b) (bit 5 b) c.operation.special) (pick (bit 1 b) (bit 0 b) c.operation.selected) h;
      }))

  by_ocw3 : bit 4 b ≡ false → bit 3 b ≡ true → Goal (step c (write 0 b)).controller
  unfolding word0
  by_ocw3 i j =
      let w = pick_false (bit 4 b) (pick (icw1_served b) barred harmless) _ i ∙ pick_true (is_ocw3 b) (pick (bit 2 b) harmless (pick (bit 6 b) barred harmless)) _ (third i j) in
      ⊎_elim
      (λ (l : bit 2 b ≡ true).
      moved c (unserved_keeps c (write 0 b) (poll (bit 4 b) (icw1_served b) (bit 3 b) (bit 2 b) i j l)) (safe c (w ∙ pick_true (bit 2 b) harmless _ l) stay))
      (λ (l : bit 2 b ≡ false).
      ⊎_elim (λ (m : bit 6 b ≡ true). no (step c (write 0 b)).controller (w ∙ pick_false (bit 2 b) harmless _ l ∙ pick_true (bit 6 b) barred harmless m))
      (λ (m : bit 6 b ≡ false). selecting i j l m) (either_way (bit 6 b))) (either_way (bit 2 b))

  by_ocw2 : bit 4 b ≡ false → bit 3 b ≡ false → Goal (step c (write 0 b)).controller
  unfolding word0
  by_ocw2 i j =
      let x = b / 32 % 8 in
      let o = c.operation in
      let second : is_ocw3 b ≡ false = rw (i, j) in
      let w = pick_false (bit 4 b) (pick (icw1_served b) barred harmless) _ i ∙ pick_false (is_ocw3 b) _ (pick (eqb x 0b101) rotating (pick (eqb x 0b010) harmless barred)) second in
      let d = ap (λ y. y.controller) (step_ocw2 c b up i j) in
      ⊎_elim
      (λ (l : eqb x 0b101 ≡ true).
      moved (with_operation c (rotating_end o))
      (d ∙ ap (λ (y : Operation). with_operation c y) (ap (λ (y : ℕ). command o y (line b)) (eqb-true x 0b101 l) ∙ (commands o (line b)).end_rotating))
      (turning (w ∙ pick_true (eqb x 0b101) rotating _ l)))
      (λ (l : eqb x 0b101 ≡ false).
      ⊎_elim
      (λ (m : eqb x 0b010 ≡ true).
      moved c (d ∙ ap (λ (y : Operation). with_operation c y) (ap (λ (y : ℕ). command o y (line b)) (eqb-true x 0b010 m) ∙ (commands o (line b)).no_command))
      (safe c (w ∙ pick_false (eqb x 0b101) rotating _ l ∙ pick_true (eqb x 0b010) harmless barred m) stay))
      (λ (m : eqb x 0b010 ≡ false).
      no (step c (write 0 b)).controller (w ∙ pick_false (eqb x 0b101) rotating _ l ∙ pick_false (eqb x 0b010) harmless barred m)) (either_way (eqb x 0b010)))
      (either_way (eqb x 0b101))

  at_0 : MayWrite t b (word0 b) → Written t v s (paid owed (word0 b)) (step c (write 0 b)).controller
  unfolding Goal
  at_0 =
      ⊎_elim (λ (i : bit 4 b ≡ true). by_icw1 i)
      (λ (i : bit 4 b ≡ false). ⊎_elim (λ (j : bit 3 b ≡ true). by_ocw3 i j) (λ (j : bit 3 b ≡ false). by_ocw2 i j) (either_way (bit 3 b))) (either_way (bit 4 b))

  -- ---- the mask, and any port

  at_1 : has b t ≡ false → Written t v s owed (step c (write 1 b)).controller
  unfolding requests
  at_1 clear =
      subst (Written t v s owed) (sym (ap (λ x. x.controller) (step_mask c b up)))
      (record {
        kept = record { same = k.same; plain = k.plain; turns = k.turns; stands = k.stands; unmasked = clear };
        held = held_only owed v c.operation b c.operation.special c.operation.selected h;
      })

  pub writing : (p : ℕ) → MayWrite t b (word p b) → Written t v s (paid owed (word p b)) (step c (write p b)).controller
  unfolding word
  writing p =
      ⊎_elim
      (λ (i : eqb p 0 ≡ true).
      subst (λ (q : ℕ). MayWrite t b (word q b) → Written t v s (paid owed (word q b)) (step c (write q b)).controller) (sym (eqb-true p 0 i))
      (subst (λ (w : Word). MayWrite t b w → Written t v s (paid owed w) (step c (write 0 b)).controller) (sym (pick_true (eqb 0 0) (word0 b) _ refl)) at_0))
      (λ (i : eqb p 0 ≡ false).
      ⊎_elim
      (λ (j : eqb p 1 ≡ true).
      subst (λ (q : ℕ). MayWrite t b (word q b) → Written t v s (paid owed (word q b)) (step c (write q b)).controller) (sym (eqb-true p 1 j))
      (subst (λ (w : Word). MayWrite t b w → Written t v s (paid owed w) (step c (write 1 b)).controller)
      (sym (pick_false (eqb 1 0) (word0 b) _ refl ∙ pick_true (eqb 1 1) mask harmless refl)) at_1))
      (λ (j : eqb p 1 ≡ false).
      subst (λ (w : Word). MayWrite t b w → Written t v s (paid owed w) (step c (write p b)).controller)
      (sym (pick_false (eqb p 0) (word0 b) _ i ∙ pick_false (eqb p 1) mask harmless j))
      (λ _. subst (Written t v s owed) (sym (port_keeps c (write p b) (lt-ltb 1 p (above p (eqb-false p 0 i) (eqb-false p 1 j))))) stay)) (either_way (eqb p 1)))
      (either_way (eqb p 0))
