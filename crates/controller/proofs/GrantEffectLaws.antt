-- What an acknowledge does, a field a sentence: with a line to grant, and with none.
use Rattle.std.specs.Prelude.{ℕ, ◌+◌, ◌*◌, ◌/◌, ◌<◌, Bool, true, false, ◌≡◌, refl}
use Rattle.std.proofs.Math.Bool.{◌&&◌, and-false}
use Rattle.std.proofs.Common.{sym, ap, ap₂, ◌∙◌, eq-eqb}
use Rattle.std.proofs.Math.Path.{subst}
use Rattle.base.specs.PickLaws.{pick_true, pick_false}
use Rattle.base.specs.declared.Answer.TheVariants.{Vector, Spurious}
use Rattle.rank.specs.Sets.{only, join}
use Rattle.rank.specs.SetLaws.{line_same}
use Rattle.rank.specs.Rank.{next}
use Rattle.rank.proofs.ChangeLaws.{Enters, Leaves, BecomesLast, enters, leaves, becomes_last}
use Rattle.controller.specs.Signals.{acknowledge}
use Rattle.controller.specs.Turns.{grantable, granted, taken, grant, answered}
use Rattle.controller.proofs.GrantLaws.{granted_first}
use Rattle.controller.proofs.GrantableLaws.{Grantable, FirstRanked, grantable_told, grantable_from, finds_first, finds_none}
use Rattle.controller.proofs.OutputLaws.{step_acknowledge}
use Rattle.controller.specs.Steps.{step}
use Rattle.controller.specs.declared.Controller.{Controller}
use Rattle.controller.specs.declared.Signalled.{Signalled}

pub record Granted (n : ℕ) (c : Controller) (s : Signalled) : Type 0 where
  -- "vector base + line"
  pub vector : s.answer ≡ Vector (c.setup.base / 8 * 8 + n)
  -- "a fall or a grant clears it"
  pub latch : Leaves n c.lines.latches s.controller.lines.latches
  -- "in service, unless automatic end"
  pub serves : c.setup.automatic ≡ false → Enters n c.operation.service s.controller.operation.service
  pub passes : c.setup.automatic ≡ true → s.controller.operation.service ≡ c.operation.service
  -- "with automatic end and its rotation it becomes last-ranked"
  pub rotates : c.setup.automatic ≡ true → c.operation.rotation ≡ true → BecomesLast n c.operation.first s.controller.operation.first
  pub unended : c.setup.automatic ≡ false → s.controller.operation.first ≡ c.operation.first
  pub unrotated : c.operation.rotation ≡ false → s.controller.operation.first ≡ c.operation.first
  -- nothing else
  pub levels : s.controller.lines.levels ≡ c.lines.levels
  pub setup : s.controller.setup ≡ c.setup
  pub mask : s.controller.operation.mask ≡ c.operation.mask
  pub rotation : s.controller.operation.rotation ≡ c.operation.rotation
  pub special : s.controller.operation.special ≡ c.operation.special
  pub selected : s.controller.operation.selected ≡ c.operation.selected

module _ (c : Controller) (n : ℕ) (small : n < 8) where
  rank_stays : (c.setup.automatic && c.operation.rotation) ≡ false → (grant c n).operation.first ≡ c.operation.first
  unfolding grant taken
  rank_stays e = pick_false (c.setup.automatic && c.operation.rotation) (next n) c.operation.first e

  by_grant : Granted n c (record { controller = grant c n; answer = Vector (c.setup.base / 8 * 8 + n) })
  unfolding grant taken
  by_grant =
      let o = c.operation in
      let auto = c.setup.automatic in
      record {
        vector = refl;
        latch = leaves n c.lines.latches small;
        serves = λ e. subst (Enters n o.service) (sym (pick_false auto o.service (join o.service (only n)) e)) (enters n o.service small);
        passes = λ e. pick_true auto o.service (join o.service (only n)) e;
        rotates = λ e f. subst (BecomesLast n o.first) (sym (pick_true (auto && o.rotation) (next n) o.first (ap₂ ◌&&◌ e f))) (becomes_last n o.first);
        unended = λ e. rank_stays (ap (λ (x : Bool). x && o.rotation) e);
        unrotated = λ e. rank_stays (ap (λ (x : Bool). auto && x) e ∙ and-false auto);
        levels = refl;
        setup = refl;
        mask = refl;
        rotation = refl;
        special = refl;
        selected = refl;
      }

module _ (c : Controller) (up : c.setup.stage ≡ 3) where
  -- "An acknowledge grants the first-ranked one"
  pub granted_effect : (n : ℕ) → FirstRanked c.operation.first (Grantable c) n → Granted n c (step c acknowledge)
  granted_effect n r =
      let t = finds_first c.operation.first (grantable c) (Grantable c) (grantable_told c) (grantable_from c) n (granted c) (granted_first c) r in
      subst (Granted n c)
      (sym (step_acknowledge c (eq-eqb c.setup.stage 3 up) ∙ ap (answered c) t
      ∙ ap (λ (k : ℕ). record { controller = grant c n; answer = Vector (c.setup.base / 8 * 8 + k) }) (line_same n r.small)))
      (by_grant c n r.small)

  -- "None: spurious, base + 7, nothing changes."
  pub spurious_effect : ((n : ℕ) → n < 8 → Grantable c n → ⊥)
      → step c acknowledge ≡ record { controller = c; answer = Spurious (c.setup.base / 8 * 8 + 7) }
  spurious_effect none =
      let t = finds_none c.operation.first (grantable c) (Grantable c) (grantable_told c) (grantable_from c) (granted c) (granted_first c) none in
      step_acknowledge c (eq-eqb c.setup.stage 3 up) ∙ ap (answered c) t
