-- A record that is told has one, two or three bytes, in any text.
use Rattle.std.specs.Prelude.{ℕ, suc, ◌-◌, ◌/◌, ◌%◌, ◌≤◌, ◌<◌, Bool, List, [], ◌∷◌, refl, ◌⊎◌, take, get_or, Some, None}
use Rattle.std.proofs.Math.Bool.{true, false, not}
use Rattle.std.proofs.Math.Path.{◌≡◌, sym, ap, subst}
use Rattle.std.proofs.Common.{◌∙◌, inl, inr, arith}
use Rattle.std.proofs.Math.Logic.{⊎_elim}
use Rattle.std.proofs.Math.Nat.{sub-zero}
use Rattle.std.proofs.Math.Dec.{eqb}
use borrow.Author.Tests.{ltb-true, ne_eqb, eqb-false}
use Rattle.base.specs.PickLaws.{pick_true, pick_false, pick_cases, either_way, not_both, not_true}
use Rattle.text.specs.Hex.{digit}
use Rattle.lesson.specs.Text.{line_feed, is_digit, apart, commented}
use Rattle.lesson.specs.TextLaws.{feed_no_digit}
use Rattle.lesson.specs.Fault.{start, half, faulty, after, behind, fault_from, fault_of}
use Rattle.lesson.specs.EvenLaws.{was_outside, after_below}
use Rattle.lesson.specs.Cause.{character_at, alien, stopped_at, marked, wide, finding}
use Rattle.lesson.specs.declared.Cause.TheVariants.{ShortRecord}
use Rattle.lesson.specs.declared.causes.Finding.{Finding}
use Rattle.lesson.specs.declared.faults.Reading.{Reading}

-- where no fault was found, a line has ended only within a record that is begun
pub record Sound (s : Reading) : Type 0 where
  pub below : s.digits ≤ 7
  pub begun : s.cut ≡ true → 0 < s.digits

module _ (s : Reading) (c : ℕ) (sound : Sound s) (fine : faulty s c ≡ false) where
  digit_uncut : commented s.comment c ≡ false → is_digit c ≡ true → s.cut ≡ false
  unfolding faulty
  digit_uncut outside is =
      let worth : digit c < 16 = ltb-true (digit c) 16 is in
      let other : eqb c line_feed ≡ false = ne_eqb c line_feed (λ e. absurd (omega (arith, ap digit e, feed_no_digit, worth))) in
      sym (pick_false _ _ _ (was_outside s.comment c outside other) ∙ pick_true _ _ _ is) ∙ fine

  abbrev Begun : Reading → Type 0
  Begun r = r.cut ≡ true → 0 < r.digits

  sound_after : Sound (after s c)
  unfolding after
  sound_after = record {
    below = after_below s c sound.below;
    begun =
        pick_cases Begun (commented s.comment c) _ _ (λ yes. sound.begun)
        (λ outside. pick_cases Begun (is_digit c) _ _ (λ is cut. absurd (not_both cut (digit_uncut outside is)))
        (λ none. pick_cases Begun (eqb c line_feed) _ _ (λ feed cut. some s.digits cut) (λ other. sound.begun)));
  }
    where
      some : (k : ℕ) → not (eqb k 0) ≡ true → 0 < k
      some k e = omega (arith, eqb-false k 0 (not_true (eqb k 0) e))

-- where the first fault is found, the text ends within a byte, or the next character is a fault
abbrev Stops : Reading → List ℕ → ℕ → Type 0
Stops s l n =
    Sound (behind s (take n l)) × ((half (behind s (take n l)) ≡ true) ⊎ (faulty (behind s (take n l)) (get_or l n 32) ≡ true))

stops_from : (s : Reading) (at k : ℕ) (l : List ℕ) → Sound s → fault_from s at l ≡ Some k → (at ≤ k) × Stops s l (k - at)
unfolding fault_from
stops_from s at k [] sound found =
    ⊎_elim
    (λ (odd : half s ≡ true).
    let here : Some at ≡ Some k = sym (pick_true _ _ _ odd) ∙ found in
    let same : at ≡ k = cc in
    let none : k - at ≡ 0 = omega arith in (omega arith, rw none (sound, inl odd)))
    (λ (even : half s ≡ false).
    let here : None ≡ Some k = sym (pick_false _ _ _ even) ∙ found in
    let z : ◌≡◌ {A = ℕ} 0 1 = cc in absurd (omega arith))
    (either_way (half s))
stops_from s at k (c ∷ l) sound found =
    ⊎_elim
    (λ (bad : faulty s c ≡ true).
    let here : Some at ≡ Some k = sym (pick_true _ _ _ bad) ∙ found in
    let same : at ≡ k = cc in
    let none : k - at ≡ 0 = omega arith in (omega arith, rw none (sound, inr bad)))
    (λ (fine : faulty s c ≡ false).
    let on : _ = stops_from (after s c) (suc at) k l (sound_after s c sound fine) (sym (pick_false _ _ _ fine) ∙ found) in
    let more : k - at ≡ suc (k - suc at) = omega (arith, on.0) in (omega (arith, on.0), rw more on.1))
    (either_way (faulty s c))

-- a fault that is neither an alien character nor one digit alone is a digit behind the end of its record's line
cut_there : (s : Reading) (c : ℕ) → alien c ≡ false → half s ≡ false → faulty s c ≡ true → s.cut ≡ true
unfolding alien faulty
cut_there s c known even bad =
    ⊎_elim
    (λ (comment : s.comment ≡ true). absurd (not_both bad (pick_true _ _ _ comment)))
    (λ (outside : s.comment ≡ false).
    ⊎_elim
    (λ (is : is_digit c ≡ true). sym (pick_false _ _ _ outside ∙ pick_true _ _ _ is) ∙ bad)
    (λ (none : is_digit c ≡ false).
    let between : apart c ≡ true = not_false (apart c) (sym (pick_false _ _ _ none) ∙ known) in
    absurd (not_both bad (pick_false _ _ _ outside ∙ pick_false _ _ _ none ∙ pick_true _ _ _ between ∙ even)))
    (either_way (is_digit c)))
    (either_way s.comment)
  where
    not_false : (x : Bool) → not x ≡ false → x ≡ true
    not_false true e = refl
    not_false false e = sym e

module _ (text : List ℕ) (at k : ℕ) (found : fault_of text ≡ Some at) where
  few_bytes : alien (character_at text at) ≡ false → half (behind start (take at text)) ≡ false
      → ShortRecord ((behind start (take at text)).digits / 2) ≡ ShortRecord k → (1 ≤ k) × (k ≤ 3)
  unfolding fault_of
  few_bytes known even e =
      let none : Sound start = record { below = omega arith; begun = λ cut. absurd (not_both cut refl) } in
      let stop : Stops start text (at - 0) = (stops_from start 0 at text none found).1 in
      let here : Stops start text at = subst (Stops start text) (sub-zero at) stop in
      let cut : (behind start (take at text)).cut ≡ true =
      ⊎_elim (λ odd. absurd (not_both odd even)) (cut_there _ _ known even) here.1 in
      let same : (behind start (take at text)).digits / 2 ≡ k = cc in
      let more : 0 < (behind start (take at text)).digits = here.0.begun cut in
      let below : (behind start (take at text)).digits ≤ 7 = here.0.below in
      let twos : ((behind start (take at text)).digits % 2 ≡ 1 → ⊥) = eqb-false ((behind start (take at text)).digits % 2) 1 even in
      (omega (arith, same, more, twos), omega (arith, same, below))

  abbrev Few : Finding → Type 0
  Few f = f.cause ≡ ShortRecord k → (1 ≤ k) × (k ≤ 3)

  -- Whatever the text, where a record is told to be short it has one, two or three bytes.
  pub short_bytes : (finding text at).cause ≡ ShortRecord k → (1 ≤ k) × (k ≤ 3)
  unfolding finding stopped_at
  short_bytes =
      pick_cases Few (marked text) _ _ (λ yes e. let z : ◌≡◌ {A = ℕ} 0 1 = cc in absurd (omega arith))
      (λ no_mark. pick_cases Few (wide text) _ _ (λ yes e. let z : ◌≡◌ {A = ℕ} 0 1 = cc in absurd (omega arith))
      (λ narrow. pick_cases Few (alien (character_at text at)) _ _ (λ yes e. let z : ◌≡◌ {A = ℕ} 0 1 = cc in absurd (omega arith))
      (λ known. pick_cases Few (half (behind start (take at text))) _ _ (λ yes e. let z : ◌≡◌ {A = ℕ} 0 1 = cc in absurd (omega arith))
      (few_bytes known))))
