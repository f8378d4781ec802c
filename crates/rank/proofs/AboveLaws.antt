-- To rank above every line of a kind is to rank above the first-ranked of them; and what a search for such a line finds.
use Rattle.std.specs.Prelude.{ℕ, ◌<◌, ◌≤◌, Bool, false, ◌||◌, ◌≡◌, refl, Option, Some, None}
use Rattle.std.specs.Option.{MatchOption, unwrap_or}
use Rattle.std.specs.Bool.{then_some}
use Rattle.std.proofs.Math.Bool.{true, not, ◌&&◌}
use Rattle.std.proofs.Math.Path.{sym, ap, ap₂, subst}
use Rattle.std.proofs.Common.{◌∙◌, not-le_of_lt, eq-or-lt_of_le, arith}
use Rattle.std.proofs.Math.Logic.{⊎_elim}
use Rattle.std.proofs.Math.Nat.{le_trans, lt_of_le_of_lt, le_antisymm}
use borrow.Author.Tests.{lt-ltb, le-ltb, ltb-true, ltb-false}
use Rattle.std.proofs.Math.Dec.{ltb}
use Rattle.base.specs.Pick.{pick}
use Rattle.base.specs.PickLaws.{pick_true, pick_false, either_way, not_both, both_hold}
use Rattle.base.specs.EveryLaws.{every_each, every_from}
use Rattle.rank.specs.Rank.{place, line_at, above, above_every, first_place, place_found}
use Rattle.rank.proofs.RankLaws.{place_lt, line_at_lt, first_least, first_passes, first_stands, first_none, first_up_to}

module _ (first : ℕ) (test : ℕ → Bool) (n : ℕ) where
  implied : (a b : Bool) → (not a || b) ≡ true → a ≡ true → b ≡ true
  implied true b e t = e
  implied false b e t = absurd (not_both t refl)

  implies : (a b : Bool) → (a ≡ true → b ≡ true) → (not a || b) ≡ true
  implies true b f = f refl
  implies false b f = refl

  -- "above every": above each of them
  pub above_each : above_every first test n ≡ true → (m : ℕ) → m < 8 → test m ≡ true → place first n < place first m
  unfolding above_every
  above_each e m small t =
      ltb-true (place first n) (place first m)
      (implied (test m) (above first n m) (every_each 8 (λ k. not (test k) || above first n k) e m small) t)

  pub each_above : ((m : ℕ) → m < 8 → test m ≡ true → place first n < place first m) → above_every first test n ≡ true
  unfolding above_every
  each_above f =
      every_from 8 (λ k. not (test k) || above first n k)
      (λ k small. implies (test k) (above first n k) (λ t. lt-ltb (place first n) (place first k) (f k small t)))

  -- what the code compares: the place of the first-ranked of them
  pub above_first : above_every first test n ≡ ltb (place first n) (first_place first test)
  above_first =
      ⊎_elim
      (λ (e : ltb (place first n) (first_place first test) ≡ true).
      each_above (λ m small t. le_trans (ltb-true (place first n) (first_place first test) e) (first_least first test m small t)) ∙ sym e)
      (λ (e : ltb (place first n) (first_place first test) ≡ false).
      let h : first_place first test ≤ place first n = ltb-false (place first n) (first_place first test) e in
      let i : first_place first test < 8 = lt_of_le_of_lt h (place_lt first n) in
      ⊎_elim
      (λ (q : above_every first test n ≡ true).
      let above = above_each q (line_at first (first_place first test)) (line_at_lt first (first_place first test)) (first_passes first test i) in
      absurd (not-le_of_lt (subst (λ (k : ℕ). place first n < k) (first_stands first test i) above) h))
      (λ (q : above_every first test n ≡ false). q ∙ sym e)
      (either_way (above_every first test n)))
      (either_way (ltb (place first n) (first_place first test)))

-- the first-ranked line that asks and ranks above every line that hinders: the first-ranked that asks, where it ranks above them
module _ (first : ℕ) (asks hinders : ℕ → Bool) where
  may : ℕ → Bool
  may n = asks n && above_every first hinders n

  at : ℕ
  at = first_place first asks

  bar : ℕ
  bar = first_place first hinders

  parts : (n : ℕ) → n < 8 → may n ≡ true → (at ≤ place first n) × (place first n < bar)
  unfolding may at bar
  parts n small e =
      let p = both_hold (asks n) (above_every first hinders n) e in
      (first_least first asks n small p.0, ltb-true (place first n) bar (sym (above_first first hinders n) ∙ p.1))

  found : at < bar → first_place first may ≡ at
  unfolding may at bar
  found less =
      let i : at < 8 = le_trans less (first_up_to first hinders) in
      let l = line_at first at in
      let s : place first l ≡ at = first_stands first asks i in
      let ok : may l ≡ true =
      ap₂ ◌&&◌ (first_passes first asks i) (above_first first hinders l ∙ lt-ltb (place first l) bar (subst (λ (k : ℕ). k < bar) (sym s) less)) in
      let no_later : first_place first may ≤ at = subst (λ (k : ℕ). first_place first may ≤ k) s (first_least first may l (line_at_lt first at) ok) in
      let j : first_place first may < 8 = lt_of_le_of_lt no_later i in
      let k = line_at first (first_place first may) in
      let no_sooner : at ≤ first_place first may =
      subst (λ (x : ℕ). at ≤ x) (first_stands first may j) (parts k (line_at_lt first (first_place first may)) (first_passes first may j)).0 in
      le_antisymm no_later no_sooner

  not_found : bar ≤ at → first_place first may ≡ 8
  unfolding may at bar
  not_found past =
      first_none first may
      (λ n small.
      ⊎_elim (λ (e : may n ≡ true). absurd (not-le_of_lt (lt_of_le_of_lt (parts n small e).0 (parts n small e).1) past))
      (λ (e : may n ≡ false). e) (either_way (may n)))

  pub first_above : first_place first (λ n. asks n && above_every first hinders n)
      ≡ pick (ltb (first_place first asks) (first_place first hinders)) (first_place first asks) 8
  unfolding may at bar
  first_above =
      ⊎_elim (λ (e : ltb at bar ≡ true). found (ltb-true at bar e) ∙ sym (pick_true (ltb at bar) at 8 e))
      (λ (e : ltb at bar ≡ false). not_found (ltb-false at bar e) ∙ sym (pick_false (ltb at bar) at 8 e)) (either_way (ltb at bar))

-- ---- the same of two searches that may find nothing

pub place_some : (k : ℕ) → k < 8 → place_found k ≡ Some k
unfolding place_found
place_some k less = pick_true _ _ _ (lt-ltb k 8 less)

pub place_none : place_found 8 ≡ None
unfolding place_found pick
place_none = refl

-- with no line to rank above, the bar stands behind every place
bar_of : (k : ℕ) → k ≤ 8 → unwrap_or (place_found k) 8 ≡ k
bar_of k high =
    ⊎_elim (λ (e : k ≡ 8). ap (λ (j : ℕ). unwrap_or (place_found j) 8) e ∙ ap (λ (p : Option ℕ). unwrap_or p 8) place_none ∙ sym e)
    (λ (less : k < 8). ap (λ (p : Option ℕ). unwrap_or p 8) (place_some k less)) (eq-or-lt_of_le high)

-- a place is kept where it is before the bar
module _ (a b : ℕ) (up : a ≤ 8) (high : b ≤ 8) (bar : ℕ) (stands : bar ≡ unwrap_or (place_found b) 8) where
  kept : (t : Bool) → t ≡ ltb a bar → a < 8 → then_some t a ≡ place_found (pick (ltb a b) a 8)
  kept t e less =
      let q : t ≡ ltb a b = e ∙ ap (ltb a) (stands ∙ bar_of b high) in
      ⊎_elim
      (λ (yes : ltb a b ≡ true). ap (λ (x : Bool). then_some x a) (q ∙ yes) ∙ sym (ap place_found (pick_true _ _ _ yes) ∙ place_some a less))
      (λ (no : ltb a b ≡ false). ap (λ (x : Bool). then_some x a) (q ∙ no) ∙ sym (ap place_found (pick_false _ _ _ no) ∙ place_none))
      (either_way (ltb a b))

  pub found_above : (p : Option ℕ) → p ≡ place_found a → (test : ℕ → Bool → Type 0) → ((x : ℕ) (t : Bool) → test x t → t ≡ ltb x bar)
      → (r : Option ℕ) → MatchOption p (r ≡ None) (λ x. (t : Bool) × test x t × (r ≡ then_some t x))
      → r ≡ place_found (pick (ltb a b) a 8)
  found_above p is test tested r found =
      let Found = λ (q : Option ℕ). MatchOption q (r ≡ None) (λ x. (t : Bool) × test x t × (r ≡ then_some t x)) in
      ⊎_elim
      (λ (e : a ≡ 8).
      subst Found (is ∙ ap place_found e ∙ place_none) found
      ∙ sym (ap place_found (pick_false _ _ _ (le-ltb a b (omega arith))) ∙ place_none))
      (λ (less : a < 8).
      let (t, k, q) = subst Found (is ∙ place_some a less) found in
      q ∙ kept t (tested a t k) less)
      (eq-or-lt_of_le up)
