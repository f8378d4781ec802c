-- Who is grantable, who hinders and who is first-ranked, as document 01 says it, over the fields alone; and the output by them.
use Rattle.std.specs.Prelude.{ℕ, ◌<◌, ◌≤◌, Bool, true, false, ◌&&◌, ◌≡◌, refl, Option, Some, None}
use Rattle.std.proofs.Math.Bool.{not}
use Rattle.std.proofs.Common.{sym, ap, ap₂, ◌∙◌, ⊎_elim, le_antisymm, eq-eqb}
use Rattle.base.specs.PickLaws.{either_way, not_both, both_hold, not_true}
use Rattle.rank.specs.Sets.{has, some}
use Rattle.rank.specs.SetLaws.{one_some, none_some}
use Rattle.rank.specs.Rank.{place}
use Rattle.rank.proofs.RankLaws.{place_apart}
use Rattle.controller.specs.State.{ready}
use Rattle.controller.specs.Turns.{requests, asks, hinders, grantable, output_of, granted}
use Rattle.controller.proofs.GrantLaws.{Finds, foremost, nobody, granted_first, grantable_parts, grantable_by}
use Rattle.controller.specs.LineLaws.{stands_level, stands_edge}
use Rattle.controller.specs.declared.Controller.{Controller}
use Rattle.controller.specs.declared.Operation.{Operation}

-- "A request stands in level mode if the line is high; in edge mode if its latch is set."
pub record Stands (c : Controller) (n : ℕ) : Type 0 where
  pub level : c.setup.level ≡ true → has c.lines.levels n ≡ true
  pub edge : c.setup.level ≡ false → has c.lines.latches n ≡ true

-- in service and, in special mask mode, "only an unmasked one": it hinders, and the plain ends may take it
pub record Hinders (o : Operation) (n : ℕ) : Type 0 where
  pub serves : has o.service n ≡ true
  pub unmasked : o.special ≡ true → has o.mask n ≡ false

-- "A line is grantable if its request stands unmasked and it ranks above every in-service line"
pub record Grantable (c : Controller) (n : ℕ) : Type 0 where
  pub stands : Stands c n
  pub unmasked : has c.operation.mask n ≡ false
  pub above : (m : ℕ) → m < 8 → Hinders c.operation m → place c.operation.first n < place c.operation.first m

-- the first-ranked of a kind of lines
pub record FirstRanked (first : ℕ) (Kind : ℕ → Type 0) (n : ℕ) : Type 0 where
  pub small : n < 8
  pub kind : Kind n
  pub least : (m : ℕ) → m < 8 → Kind m → place first n ≤ place first m

-- ---- the tests of the definitions say just that

freed : (x special masked : Bool) → (x && not (special && masked)) ≡ true → special ≡ true → masked ≡ false
freed x special masked e f =
    not_true masked (sym (ap (λ (s : Bool). not (s && masked)) f) ∙ (both_hold x (not (special && masked)) e).1)

free : (x special masked : Bool) → x ≡ true → (special ≡ true → masked ≡ false) → (x && not (special && masked)) ≡ true
free x true masked e f = ap₂ (λ (a b : Bool). a && not b) e (f refl)
free x false masked e f = ap (λ (a : Bool). a && true) e

module _ (o : Operation) (n : ℕ) where
  pub hinders_told : hinders o n ≡ true → Hinders o n
  unfolding hinders
  hinders_told e =
      record {
        serves = (both_hold (has o.service n) (not (o.special && has o.mask n)) e).0;
        unmasked = freed (has o.service n) o.special (has o.mask n) e;
      }

  pub hinders_from : Hinders o n → hinders o n ≡ true
  unfolding hinders
  hinders_from h = free (has o.service n) o.special (has o.mask n) h.serves h.unmasked

module _ (c : Controller) (n : ℕ) where
  stands_told : has (requests c) n ≡ true → Stands c n
  stands_told e = record { level = λ l. sym (stands_level c n l) ∙ e; edge = λ l. sym (stands_edge c n l) ∙ e }

  stands_from : Stands c n → has (requests c) n ≡ true
  stands_from s =
      ⊎_elim (λ (l : c.setup.level ≡ true). stands_level c n l ∙ s.level l)
      (λ (l : c.setup.level ≡ false). stands_edge c n l ∙ s.edge l) (either_way c.setup.level)

  pub grantable_told : grantable c n ≡ true → Grantable c n
  unfolding asks
  grantable_told e =
      let p = grantable_parts c n e in
      let q = both_hold (has (requests c) n) (not (has c.operation.mask n)) p.0 in
      record {
        stands = stands_told q.0;
        unmasked = not_true (has c.operation.mask n) q.1;
        above = λ m small h. p.1 m small (hinders_from c.operation m h);
      }

  pub grantable_from : Grantable c n → grantable c n ≡ true
  unfolding asks
  grantable_from g =
      grantable_by c n (ap₂ (λ (a b : Bool). a && not b) (stands_from g.stands) g.unmasked)
      (λ m small e. g.above m small (hinders_told c.operation m e))

-- ---- what a search finds is the first-ranked, and nobody where there is none

module _ (first : ℕ) (test : ℕ → Bool) (Kind : ℕ → Type 0)
    (told : (m : ℕ) → test m ≡ true → Kind m) (from : (m : ℕ) → Kind m → test m ≡ true) where
  pub finds_first : (n : ℕ) (t : Option ℕ) → Finds first test t → FirstRanked first Kind n → t ≡ Some n
  finds_first n t (foremost k f) r =
      let same : place first k ≡ place first n =
      le_antisymm (f.least n r.small (from n r.kind)) (r.least k f.small (told k f.passes)) in
      ap Some (place_apart first k n f.small r.small same)
  finds_first n t (nobody f) r = absurd (not_both (from n r.kind) (f n r.small))

  pub finds_none : (t : Option ℕ) → Finds first test t → ((m : ℕ) → m < 8 → Kind m → ⊥) → t ≡ None
  finds_none t (foremost k f) none = absurd (none k f.small (told k f.passes))
  finds_none t (nobody f) none = refl

-- ---- the output

-- "The output is high exactly if ready and some line is grantable."
pub output_raised : (c : Controller) (n : ℕ) → c.setup.stage ≡ 3 → n < 8 → Grantable c n → output_of c ≡ true
unfolding output_of
output_raised c n up small g = ap₂ ◌&&◌ (eq-eqb c.setup.stage 3 up) (one_some (grantable c) n small (grantable_from c n g))

pub record Raised (c : Controller) : Type 0 where
  pub ready : ready c.setup ≡ true
  pub line : ℕ
  pub small : line < 8
  pub grantable : Grantable c line

raised_by : (c : Controller) (t : Option ℕ) → Finds c.operation.first (grantable c) t → ready c.setup ≡ true → some (grantable c) ≡ true → Raised c
raised_by c t (foremost n f) up e = record { ready = up; line = n; small = f.small; grantable = grantable_told c n f.passes }
raised_by c t (nobody f) up e = absurd (not_both e (none_some (grantable c) f))

pub output_told : (c : Controller) → output_of c ≡ true → Raised c
unfolding output_of
output_told c e =
    let p = both_hold (ready c.setup) (some (grantable c)) e in
    raised_by c (granted c) (granted_first c) p.0 p.1
