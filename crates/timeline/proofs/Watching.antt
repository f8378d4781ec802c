-- Who watches a variable sees every change of it, and nothing of the others.
use Prim.Native.Nat.{ℕ, suc}
use mathlib.Core.Bool.{Bool, true, false, not, ◌||◌}
use mathlib.Core.List.{List, [], ◌∷◌, ◌++◌, append-nil, Memᴰ}
use mathlib.Core.Logic.{◌⊎◌, inl, inr, ⊎_elim}
use mathlib.Core.Path.{◌≡◌, refl, sym, ap, subst, ◌∙◌}
use lib.Dec.{eqb}
use lib.ListN.{length}
use borrow.Author.Tests.{eqb-true, eqb-false, ne_eqb, eq-eqb}
use Rattle.base.specs.PickLaws.{pick_false, pick_cases, both_hold, not_both, not_true, neither}
use Rattle.base.specs.Bits.{digit}
use Rattle.timeline.specs.Variables.{Variable, variables}
use Rattle.timeline.specs.Dump.{value_line, change, told, time, first_words, step_words}
use Rattle.timeline.specs.Meaning.{Viewer, key, shown_behind}
use Rattle.timeline.specs.Told.{steps, last_sight, all_of, other_than, all_apart, ShownLast, NothingChanged}
use Rattle.sight.specs.declared.Sight.{Sight}
use Rattle.timeline.proofs.Reading.{unended, Reads, read_none, read_on_lem, read_same, read_own, read_other, read_time}
use Rattle.timeline.proofs.Names.{plain, names_plain, names_apart}

-- ---- one variable

same_bit : (a b : Bool) → not (eqb (digit a) (digit b)) ≡ false → digit a ≡ digit b
same_bit a b same = eqb-true (digit a) (digit b) (holds_not (eqb (digit a) (digit b)) same)
  where
    holds_not : (c : Bool) → not c ≡ false → c ≡ true
    holds_not true e = refl
    holds_not false e = sym e

change_own : (name : List ℕ) (all was is : Bool) (x : ℕ) → unended name ≡ true → (all ≡ true) ⊎ (x ≡ digit was)
    → Reads name (change all was is name) x (digit is)
unfolding change
change_own name all was is x plain known =
    pick_cases (λ (l : List ℕ). Reads name l x (digit is)) (all || not (eqb (digit was) (digit is))) (value_line is name) []
    (λ (due : (all || not (eqb (digit was) (digit is))) ≡ true). read_own name is x plain)
    (λ (still : (all || not (eqb (digit was) (digit is))) ≡ false).
    let two = neither all (not (eqb (digit was) (digit is))) still in
    ⊎_elim
    (λ (every : all ≡ true). absurd (not_both every two.0))
    (λ (k : x ≡ digit was). read_same name refl (k ∙ same_bit was is two.1) (read_none name x))
    known)

change_other : (name other : List ℕ) (all was is : Bool) (x : ℕ) → unended other ≡ true → eqb (key other) (key name) ≡ false
    → Reads name (change all was is other) x x
unfolding change
change_other name other all was is x plain differs =
    pick_cases (λ (l : List ℕ). Reads name l x x) (all || not (eqb (digit was) (digit is))) (value_line is other) []
    (λ due. read_other name other differs is x plain)
    (λ still. read_none name x)

-- ---- many

passes : (test : Variable → Bool) (v : Variable) (vs : List Variable) → Memᴰ v vs → all_of test vs ≡ true → test v ≡ true
passes test v [] x all = elim x [ ]
passes test v (u ∷ vs) (Memᴰ.head e) all = ap test e ∙ (both_hold (test u) (all_of test vs) all).0
passes test v (u ∷ vs) (Memᴰ.tail m) all = passes test v vs m (both_hold (test u) (all_of test vs) all).1

flip : (a b : ℕ) → eqb a b ≡ false → eqb b a ≡ false
flip a b differ = ne_eqb b a (λ e. eqb-false a b differ (sym e))

unended_name : (v : Variable) → plain v ≡ true → unended v.name ≡ true
unended_name v fine = (both_hold (unended v.name) (not (eqb 0 (key v.name))) fine).0

module _ (all : Bool) (before now : Sight) where
  told_others : (name : List ℕ) (vs : List Variable) (x : ℕ) → all_of plain vs ≡ true → all_of (other_than name) vs ≡ true
      → Reads name (told all before now vs) x x
  unfolding told
  told_others name [] x fine differ = read_none name x
  told_others name (v ∷ vs) x fine differ =
      let here = both_hold (plain v) (all_of plain vs) fine in
      let away = both_hold (other_than name v) (all_of (other_than name) vs) differ in
      read_on_lem name
      (change_other name v.name all (v.value before) (v.value now) x (unended_name v here.0) (not_true _ away.0))
      (told_others name vs x here.1 away.1)

  own_first : (v : Variable) (vs : List Variable) (x : ℕ) → (all ≡ true) ⊎ (x ≡ digit (v.value before))
      → all_of plain (v ∷ vs) ≡ true → all_apart (v ∷ vs) ≡ true → Reads v.name (told all before now (v ∷ vs)) x (digit (v.value now))
  unfolding told
  own_first v vs x known fine away =
      let here = both_hold (plain v) (all_of plain vs) fine in
      let differ = both_hold (all_of (other_than v.name) vs) (all_apart vs) away in
      read_on_lem v.name
      (change_own v.name all (v.value before) (v.value now) x (unended_name v here.0) known)
      (told_others v.name vs (digit (v.value now)) here.1 differ.0)

  told_own : (v : Variable) (vs : List Variable) (x : ℕ) → Memᴰ v vs → (all ≡ true) ⊎ (x ≡ digit (v.value before))
      → all_of plain vs ≡ true → all_apart vs ≡ true → Reads v.name (told all before now vs) x (digit (v.value now))
  unfolding told
  told_own v [] x m known = elim m [ ]
  told_own v (u ∷ vs) x (Memᴰ.head e) known =
      subst
      (λ (w : Variable). all_of plain (w ∷ vs) ≡ true → all_apart (w ∷ vs) ≡ true
      → Reads v.name (told all before now (w ∷ vs)) x (digit (v.value now)))
      e
      (own_first v vs x known)
  told_own v (u ∷ vs) x (Memᴰ.tail m) known = λ fine away.
      let here = both_hold (plain u) (all_of plain vs) fine in
      let differ = both_hold (all_of (other_than u.name) vs) (all_apart vs) away in
      let other = flip (key v.name) (key u.name) (not_true _ (passes (other_than u.name) v vs m differ.0)) in
      read_on_lem v.name
      (change_other v.name u.name all (u.value before) (u.value now) x (unended_name u here.0) other)
      (told_own v vs x m known here.1 differ.1)

-- ---- steps

module _ (used : ℕ) (v : Variable) (is : Memᴰ v (variables used)) where
  abbrev seen : Sight → ℕ
  seen s = digit (v.value s)

  at_time : (n x : ℕ) → Reads v.name (time n) x x
  at_time n x =
      let fine = passes plain v (variables used) is (names_plain used) in
      read_time v.name (not_true _ (both_hold (unended v.name) (not (eqb 0 (key v.name))) fine).1) n x

  at_first : (s : Sight) (x : ℕ) → Reads v.name (first_words used s) x (seen s)
  unfolding first_words
  at_first s x =
      read_on_lem v.name (at_time 0 x) (told_own true s s v (variables used) x is (inl refl) (names_plain used) (names_apart used))

  at_step : (n : ℕ) (before now : Sight) → Reads v.name (step_words used n before now) (seen before) (seen now)
  unfolding step_words
  at_step n before now =
      read_on_lem v.name (at_time n (seen before))
      (told_own false before now v (variables used) (seen before) is (inr refl) (names_plain used) (names_apart used))

  at_steps : (n : ℕ) (s : Sight) (later : List Sight) → Reads v.name (steps used n s later) (seen s) (seen (last_sight s later))
  at_steps n s [] = read_none v.name (seen s)
  at_steps n s (now ∷ later) = read_on_lem v.name (at_step n s now) (at_steps (suc n) now later)

pub shown_last : ShownLast
unfolding shown_behind
shown_last used start later v is before =
    let whole = read_on_lem v.name (at_first used v is start before)
    (read_on_lem v.name (at_steps used v is 1 start later) (at_time used v is (suc (length later)) _)) in
    ap (λ (w : Viewer). w.value) whole.is

still : (s : Sight) (vs : List Variable) → told false s s vs ≡ []
unfolding told change
still s [] = refl
still s (v ∷ vs) =
    let same : eqb (digit (v.value s)) (digit (v.value s)) ≡ true = eq-eqb (digit (v.value s)) (digit (v.value s)) refl in rw (same, pick_false, still s vs)

pub nothing_changed : NothingChanged
unfolding step_words
nothing_changed used n s = ap (λ (l : List ℕ). time n ++ l) (still s (variables used)) ∙ append-nil (time n)
