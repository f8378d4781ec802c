-- The output tells the next acknowledge; and what an acknowledge that finds a line does.
use Rattle.std.specs.Prelude.{ℕ, ◌+◌, ◌%◌, ◌<◌, Bool, true, ◌&&◌, ◌≡◌, Option, None}
use Rattle.std.proofs.Math.Bool.{false, not}
use Rattle.std.proofs.Math.Path.{refl}
use Rattle.std.proofs.Common.{sym, ap, ◌∙◌, arith}
use Rattle.base.specs.PickLaws.{pick_false, not_both, both_hold, not_true}
use Rattle.base.specs.Answers.{value_of}
use Rattle.base.specs.declared.Answer.TheVariants.{Vector, Spurious}
use Rattle.rank.specs.Sets.{has, some}
use Rattle.rank.specs.SetLaws.{some_none, none_some, line_lt}
use Rattle.controller.specs.State.{ready}
use Rattle.controller.specs.Signals.{acknowledge}
use Rattle.controller.specs.Turns.{requests, asks, grantable, output_of, granted, vector, grant, answered, acknowledged}
use Rattle.controller.proofs.GrantLaws.{Finds, foremost, nobody, granted_first, grantable_parts}
use Rattle.controller.specs.RefusalLaws.{refusal_by_grounds, step_done}
use Rattle.controller.specs.Steps.{step}
use Rattle.controller.specs.declared.Controller.{Controller}
use Rattle.controller.specs.declared.Setup.{Setup}

module _ (c : Controller) where
  -- an acknowledge of a ready controller is not refused
  pub step_acknowledge : ready c.setup ≡ true → step c acknowledge ≡ answered c (granted c)
  unfolding acknowledged
  step_acknowledge up = step_done c acknowledge (refusal_by_grounds c.setup acknowledge ∙ pick_false false 2 _ refl ∙ pick_false (not (ready c.setup)) 8 _ (ap not up) ∙ pick_false false 9 0 refl)

-- ---- the output

-- the output is high: the next acknowledge names a line that stands unmasked
pub record Named (c : Controller) : Type 0 where
  pub line : ℕ
  pub small : line < 8
  pub stands : has (requests c) line ≡ true
  pub unmasked : has c.operation.mask line ≡ false
  pub names : step c acknowledge ≡ record { controller = grant c line; answer = Vector (vector c.setup line) }

named_by : (c : Controller) (t : Option ℕ) → granted c ≡ t → Finds c.operation.first (grantable c) t → ready c.setup ≡ true → some (grantable c) ≡ true → Named c
unfolding asks
named_by c t e (foremost n f) up some_one =
    let p = both_hold (has (requests c) n) (not (has c.operation.mask n)) (grantable_parts c n f.passes).0 in
    record {
      line = n;
      small = f.small;
      stands = p.0;
      unmasked = not_true (has c.operation.mask n) p.1;
      names = step_acknowledge c up ∙ ap (answered c) e;
    }
named_by c t e (nobody f) up some_one = absurd (not_both some_one (none_some (grantable c) f))

pub output_high : (c : Controller) → output_of c ≡ true → Named c
unfolding output_of
output_high c e =
    let p = both_hold (ready c.setup) (some (grantable c)) e in
    named_by c (granted c) refl (granted_first c) p.0 p.1

-- ready and the output low: the next acknowledge is spurious, and changes nothing
spurious_by : (c : Controller) (t : Option ℕ) → granted c ≡ t → Finds c.operation.first (grantable c) t → some (grantable c) ≡ false → answered c t ≡ answered c None
spurious_by c t e (foremost n f) no_one = absurd (not_both f.passes (some_none (grantable c) no_one n f.small))
spurious_by c t e (nobody f) no_one = refl

pub output_low : (c : Controller) → ready c.setup ≡ true → output_of c ≡ false
    → step c acknowledge ≡ record { controller = c; answer = Spurious (vector c.setup 7) }
unfolding output_of
output_low c up e =
    let no_one : some (grantable c) ≡ false = sym (ap (λ (x : Bool). x && some (grantable c)) up) ∙ e in
    step_acknowledge c up ∙ spurious_by c (granted c) refl (granted_first c) no_one

-- not ready, the output is low
pub output_unready : (c : Controller) → ready c.setup ≡ false → output_of c ≡ false
unfolding output_of
output_unready c down = ap (λ (x : Bool). x && some (grantable c)) down

-- base + line, for a base that is a multiple of eight
pub vector_sum : (s : Setup) (n : ℕ) → s.base % 8 ≡ 0 → n < 8 → vector s n ≡ s.base + n
vector_sum s n eights small = omega arith

-- the values tell the two apart: two digits and three
pub vector_value : (s : Setup) (n : ℕ) → s.base < 0x100 → (value_of (Vector (vector s n)) < 0x100) × (0x100 < value_of (Spurious (vector s 7)))
unfolding value_of
vector_value s n small = (omega (arith, line_lt n), omega arith)
