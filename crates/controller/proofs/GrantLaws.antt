-- The line that is granted is the first-ranked of the grantable ones, and the line that a plain end takes the first-ranked of those in service.
use Rattle.std.specs.Prelude.{ℕ, ◌<◌, ◌≤◌, Bool, true, ◌||◌, ◌≡◌, refl, ltb, Option, Some, None}
use Rattle.std.proofs.Math.Bool.{false, not, ◌&&◌, and-false, or-true}
use Rattle.std.proofs.Common.{sym, ◌∙◌, subst, ⊎_elim, not-le_of_lt, arith}
use Rattle.std.proofs.Math.Path.{ap, ap₂}
use borrow.Author.Tests.{eq-eqb, ltb-true, ltb-false}
use Rattle.base.specs.Pick.{pick}
use Rattle.base.specs.PickLaws.{pick_false, pick_cases, either_way, both_hold, not_true}
use Rattle.rank.specs.Sets.{line, has, only, join, without}
use Rattle.rank.specs.SetLaws.{has_join, has_without, has_only}
use Rattle.rank.specs.Rank.{place, line_at, above_every, first_place}
use Rattle.rank.proofs.RankLaws.{line_at_lt, first_up_to, first_least, first_passes, first_stands, none_first}
use Rattle.rank.proofs.AboveLaws.{above_each, each_above}
use Rattle.controller.specs.Turns.{requests, asks, hinders, grantable, found, granted, taken, grant}
use Rattle.controller.specs.Words.{served}
use Rattle.controller.specs.declared.Controller.{Controller}
use Rattle.controller.specs.declared.Operation.{Operation}

-- ---- what a search in order of rank gives: the first-ranked line that passes, or nobody, where none passes

pub record Foremost (first : ℕ) (test : ℕ → Bool) (n : ℕ) : Type 0 where
  pub small : n < 8
  pub passes : test n ≡ true
  pub least : (m : ℕ) → m < 8 → test m ≡ true → place first n ≤ place first m

pub data Finds (first : ℕ) (test : ℕ → Bool) : Option ℕ → Type 0 where
  foremost : (n : ℕ) → Foremost first test n → Finds first test (Some n)
  nobody : ((m : ℕ) → m < 8 → test m ≡ false) → Finds first test None

finds : (first : ℕ) (test : ℕ → Bool) → Finds first test (found first (first_place first test))
unfolding found
finds first test =
    let k = first_place first test in
    pick_cases (Finds first test) (ltb k 8) (Some (line_at first k)) None
    (λ e.
    let less = ltb-true k 8 e in
    foremost (line_at first k)
    (record {
      small = line_at_lt first k;
      passes = first_passes first test less;
      least = λ m below t. subst (λ (x : ℕ). x ≤ place first m) (sym (first_stands first test less)) (first_least first test m below t);
    }))
    (λ e. nobody (none_first first test (at_end k (first_up_to first test) (ltb-false k 8 e))))
  where
    at_end : (k : ℕ) → k ≤ 8 → 8 ≤ k → k ≡ 8
    at_end k up down = omega arith

line_found : (first : ℕ) (test : ℕ → Bool) (n : ℕ) (t : Option ℕ) → Finds first test t → t ≡ Some n → Foremost first test n
line_found first test n t (foremost k f) e = let q : k ≡ n = cc in subst (Foremost first test) q f
line_found first test n t (nobody f) e = absurd (never n e)
  where
    never : (n : ℕ) → None ≡ Some n → ⊥
    never n q = let z : ◌≡◌ {A = ℕ} 0 1 = cc in omega arith

-- an acknowledge grants the first-ranked grantable line, and none exactly if none is grantable
pub granted_first : (c : Controller) → Finds c.operation.first (grantable c) (granted c)
unfolding granted
granted_first c = finds c.operation.first (grantable c)

pub granted_line : (c : Controller) (n : ℕ) → granted c ≡ Some n → Foremost c.operation.first (grantable c) n
granted_line c n e = line_found c.operation.first (grantable c) n (granted c) (granted_first c) e

-- a plain end takes the first-ranked line in service, in special mask mode of the unmasked ones
pub served_first : (o : Operation) → Finds o.first (hinders o) (served o)
unfolding served
served_first o = finds o.first (hinders o)

pub served_line : (o : Operation) (n : ℕ) → served o ≡ Some n → Foremost o.first (hinders o) n
served_line o n e = line_found o.first (hinders o) n (served o) (served_first o) e

-- ---- a line is grantable exactly if it asks and ranks above every line that hinders

module _ (c : Controller) (n : ℕ) where
  pub grantable_parts : grantable c n ≡ true
      → (asks c n ≡ true) × ((m : ℕ) → m < 8 → hinders c.operation m ≡ true → place c.operation.first n < place c.operation.first m)
  unfolding grantable
  grantable_parts e =
      let p = both_hold (asks c n) (above_every c.operation.first (hinders c.operation) n) e in
      (p.0, above_each c.operation.first (hinders c.operation) n p.1)

  pub grantable_by : asks c n ≡ true
      → ((m : ℕ) → m < 8 → hinders c.operation m ≡ true → place c.operation.first n < place c.operation.first m) → grantable c n ≡ true
  unfolding grantable
  grantable_by a f = ap₂ ◌&&◌ a (each_above c.operation.first (hinders c.operation) n f)

-- ---- right after a grant without automatic end no line is grantable, in special mask mode too

aside : (x : Bool) → not (x && false) ≡ true
aside x = ap not (and-false x)

-- a request that stands after the grant stood before it
stood : (level : Bool) (levels latches n m : ℕ) → has (pick level levels (without latches (only n))) m ≡ true → has (pick level levels latches) m ≡ true
unfolding pick
stood true levels latches n m e = e
stood false levels latches n m e = (both_hold (has latches m) (not (has (only n) m)) (sym (has_without latches (only n) m) ∙ e)).0

module _ (c : Controller) (n : ℕ) (serves : c.setup.automatic ≡ false) where
  service_grows : (grant c n).operation.service ≡ join c.operation.service (only n)
  unfolding grant taken
  service_grows = pick_false c.setup.automatic c.operation.service (join c.operation.service (only n)) serves

  first_stays : (grant c n).operation.first ≡ c.operation.first
  unfolding grant taken
  first_stays =
      pick_false (c.setup.automatic && c.operation.rotation) _ c.operation.first (ap (λ (x : Bool). x && c.operation.rotation) serves)

  asked : (m : ℕ) → asks (grant c n) m ≡ true → asks c m ≡ true
  unfolding asks requests grant taken
  asked m e =
      let p = both_hold (has (pick c.setup.level c.lines.levels (without c.lines.latches (only n))) m) (not (has c.operation.mask m)) e in
      ap₂ ◌&&◌ (stood c.setup.level c.lines.levels c.lines.latches n m p.0) p.1

  in_service : (m : ℕ) → has (grant c n).operation.service m ≡ (has c.operation.service m || has (only n) m)
  in_service m = ap (λ (s : ℕ). has s m) service_grows ∙ has_join c.operation.service (only n) m

  hinders_still : (m : ℕ) → hinders c.operation m ≡ true → hinders (grant c n).operation m ≡ true
  unfolding hinders grant taken
  hinders_still m e =
      let p = both_hold (has c.operation.service m) (not (c.operation.special && has c.operation.mask m)) e in
      ap₂ ◌&&◌ (in_service m ∙ ap (λ (x : Bool). x || has (only n) m) p.0) p.1

  hinders_itself : asks c n ≡ true → hinders (grant c n).operation n ≡ true
  unfolding hinders asks grant taken
  hinders_itself a =
      let p = both_hold (has (requests c) n) (not (has c.operation.mask n)) a in
      let free : has c.operation.mask n ≡ false = not_true (has c.operation.mask n) p.1 in
      ap₂ ◌&&◌
      (in_service n ∙ ap (λ (x : Bool). has c.operation.service n || x) (has_only n n ∙ eq-eqb (line n) (line n) refl) ∙ or-true (has c.operation.service n))
      (ap (λ (x : Bool). not (c.operation.special && x)) free ∙ aside c.operation.special)

  pub none_after_grant : granted c ≡ Some n → (m : ℕ) → m < 8 → grantable (grant c n) m ≡ false
  none_after_grant e m below =
      let f = granted_line c n e in
      let o = c.operation in
      ⊎_elim
      (λ (g : grantable (grant c n) m ≡ true).
      let p = grantable_parts (grant c n) m g in
      let before : grantable c m ≡ true =
      grantable_by c m (asked m p.0)
      (λ k less h. subst (λ (x : ℕ). place x m < place x k) first_stays (p.1 k less (hinders_still k h))) in
      let lower : place o.first m < place o.first n =
      subst (λ (x : ℕ). place x m < place x n) first_stays (p.1 n f.small (hinders_itself (grantable_parts c n f.passes).0)) in
      absurd (not-le_of_lt lower (f.least m below before)))
      (λ (g : grantable (grant c n) m ≡ false). g) (either_way (grantable (grant c n) m))
