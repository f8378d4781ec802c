-- Demand 1 holds for saved benches.
use Prim.Native.Nat.{ℕ, ◌+◌, ◌<◌, ◌≤◌}
use mathlib.Core.Bool.{true, false, ◌&&◌}
use mathlib.Core.List.{List, [], ◌∷◌}
use mathlib.Core.Logic.{◌⊎◌, inl, inr, ⊎_elim}
use mathlib.Core.Path.{◌≡◌, refl, ap, ap₂, sym, subst, ◌∙◌}
use native.Mathlib.Omega.{arith}
use lib.Dec.{eqb, leb, ltb}
use lib.ListN.{length, get_or, take, drop}
use borrow.Author.Tests.{eqb-true, eqb-false, lt-ltb, ltb-true, ltb-false, leb-true}
use Rattle.base.specs.declared.Answer.TheVariants.{Done, Refused}
use Rattle.base.specs.Answers.{refusal_of, value_of}
use Rattle.base.specs.ListLaws.{listed}
use Rattle.base.specs.Pick.{pick}
use Rattle.base.specs.PickLaws.{both_hold, either_way, not_both}
use Rattle.base.specs.Refusals.{first_held}
use Rattle.bench.specs.declared.Bench.{Bench}
use Rattle.text.specs.Quoted.{quoted}
use Rattle.channel_image.specs.Places.{at}
use Rattle.image.specs.declared.Restored.{Restored}
use Rattle.image.proofs.FieldLaws.{front_written, image_fields, fields_image}
use Rattle.image.specs.RefusalLaws.{header_short, header_unmarked, header_unknown, header_cut, header_taken, restored_refused, restored_good, restored_bad}
use Rattle.image.specs.Layout.{version_of, place_in, length_in}
use Rattle.image.specs.Refusals.{marked, known, header_grounds, image_good, restored}
use Rattle.image.proofs.Numbering.{refused_so, taken_so}
use Rattle.image.proofs.Statements as image
use Rattle.demands.specs.DemandImages.{NoMark, NoVersion, TooShort, Savings, restore_reasons, Restorings}
use Rattle.demands.specs.Reasons.{FirstOf, NoneOf, AnsweredBy}

-- ---- saves

pub savings : Savings 0xFFF
unfolding refusal_of value_of
savings b at l l' r s =
    ⊎_elim
    (λ (e : ltb (length l) (at + 704) ≡ true).
    let short = ltb-true _ _ e in
    let is = refused_so b at l l' r s short in
    (inr (inl (short, ap refusal_of is), ap value_of is), λ some. ((image.statements).stays b at l l' r s).refused (ap refusal_of is)))
    (λ (e : ltb (length l) (at + 704) ≡ false).
    let is = taken_so b at l l' r s (ltb-false _ _ e) in
    (inl (ap refusal_of is, (λ short. not_both (lt-ltb _ _ short) e, tt)), λ some. absurd (some (ap refusal_of is))))
    (either_way (ltb (length l) (at + 704)))

-- ---- the mark and the version

module _ (p : List ℕ) (five : 5 ≤ length p) where
  three : listed 3 (at p) ≡ take 3 p
  three = front_written 3 p (omega (arith, five))

  mark_there : marked p ≡ true → NoMark p → ⊥
  unfolding marked
  mark_there holds none =
      let two = both_hold (eqb (at p 0) 0x42 && eqb (at p 1) 0x45) (eqb (at p 2) 0x4E) holds in
      let one = both_hold (eqb (at p 0) 0x42) (eqb (at p 1) 0x45) two.0 in
      let b0 : at p 0 ≡ 0x42 = eqb-true (at p 0) 0x42 one.0 in
      let b1 : at p 1 ≡ 0x45 = eqb-true (at p 1) 0x45 one.1 in
      let b2 : at p 2 ≡ 0x4E = eqb-true (at p 2) 0x4E two.1 in
      none (sym three ∙ (λ i. b0 i ∷ b1 i ∷ b2 i ∷ []))

  no_mark_there : marked p ≡ false → NoMark p
  unfolding marked
  no_mark_there fails letters =
      let same : listed 3 (at p) ≡ quoted "BEN" = three ∙ letters in
      let b0 : eqb (at p 0) 0x42 ≡ true = ap (λ (l : List ℕ). eqb (get_or l 0 0) 0x42) same in
      let b1 : eqb (at p 1) 0x45 ≡ true = ap (λ (l : List ℕ). eqb (get_or l 1 0) 0x45) same in
      let b2 : eqb (at p 2) 0x4E ≡ true = ap (λ (l : List ℕ). eqb (get_or l 2 0) 0x4E) same in
      not_both (ap₂ ◌&&◌ (ap₂ ◌&&◌ b0 b1) b2) fails

-- a version that is known is 1 or 2
one_or_two : (v : ℕ) → known v ≡ true → (v ≡ 1) ⊎ (v ≡ 2)
one_or_two v holds =
    let two = both_hold (leb 1 v) (leb v 2) holds in
    let least = leb-true 1 v two.0 in
    let most = leb-true v 2 two.1 in
    ⊎_elim (λ (e : eqb v 1 ≡ true). inl (eqb-true v 1 e)) (λ (e : eqb v 1 ≡ false). let other = eqb-false v 1 e in inr (omega (arith, least, most, other)))
    (either_way (eqb v 1))

version_there : (p : List ℕ) → known (version_of p) ≡ true → NoVersion p → ⊥
unfolding version_of
version_there p holds none = none (one_or_two (version_of p) holds)

no_version_there : (p : List ℕ) → known (version_of p) ≡ false → NoVersion p
unfolding version_of
no_version_there p fails (inl is) = not_both (ap known is) fails
no_version_there p fails (inr is) = not_both (ap known is) fails

-- how long each is
length_1 : length_in 1 ≡ 544
unfolding place_in pick
length_1 = refl

length_2 : length_in 2 ≡ 704
unfolding place_in pick
length_2 = refl

cut_of : (p : List ℕ) → known (version_of p) ≡ true → length p < length_in (version_of p) → TooShort p
unfolding version_of
cut_of p holds short =
    ⊎_elim
    (λ (is : version_of p ≡ 1). inl (is, omega (arith, short, ap length_in is, length_1)))
    (λ (is : version_of p ≡ 2). inr (is, omega (arith, short, ap length_in is, length_2)))
    (one_or_two (version_of p) holds)

long_of : (p : List ℕ) → length_in (version_of p) ≤ length p → TooShort p → ⊥
unfolding version_of
long_of p long (inl both) = omega (arith, long, both.1, ap length_in both.0, length_1)
long_of p long (inr both) = omega (arith, long, both.1, ap length_in both.0, length_2)

-- ---- restores

module _ (b : Bench) (p : List ℕ) where
  abbrev Goal : Type 0
  Goal =
      AnsweredBy 0xFFF (restore_reasons p) (restored b p).answer × ((refusal_of (restored b p).answer ≡ 0 → ⊥) → (restored b p).bench ≡ b)

  left : (n : ℕ) → restored b p ≡ record { bench = b; answer = Refused n } → FirstOf (restore_reasons p) n → Goal
  unfolding refusal_of value_of
  left n is first = (
    inr (subst (FirstOf (restore_reasons p)) (sym (ap (λ (t : Restored). refusal_of t.answer) is)) first, ap (λ (t : Restored). value_of t.answer) is),
    λ some. ap (λ (t : Restored). t.bench) is,
  )

  by_header : (n : ℕ) → eqb n 0 ≡ false → first_held (header_grounds p) ≡ n → FirstOf (restore_reasons p) n → Goal
  by_header n some is first =
      left n (restored_refused b p (ap (λ (m : ℕ). eqb m 0) is ∙ some) ∙ (λ i. record { bench = b; answer = Refused (is i) })) first

  done : (restored b p).answer ≡ Done → NoneOf (restore_reasons p) → Goal
  unfolding refusal_of
  done is none = (inl (ap refusal_of is, none), λ some. absurd (some (ap refusal_of is)))

  module _ (five : 5 ≤ length p) where
    not_short : length p < 5 → ⊥
    not_short short = omega (arith, five, short)

    module _ (mark : marked p ≡ true) (version : known (version_of p) ≡ true) (long : length_in (version_of p) ≤ length p) where
      not_cut : TooShort p → ⊥
      not_cut = long_of p long

      taken : first_held (header_grounds p) ≡ 0
      taken = header_taken p five mark version long

      by_body : (image_good p ≡ true) ⊎ (image_good p ≡ false) → Goal
      by_body (inl good) =
          done (ap (λ (t : Restored). t.answer) (restored_good b p taken good))
          (not_short, (mark_there p five mark, (version_there p version, (not_cut, (λ none. none (image_fields p long good), tt)))))
      by_body (inr bad) =
          left 15 (restored_bad b p taken bad)
          (inr (not_short, inr (mark_there p five mark, inr (version_there p version, inr (not_cut, inl (λ f. not_both (fields_image p long f) bad, refl))))))

    module _ (mark : marked p ≡ true) where
      by_version : (known (version_of p) ≡ true) ⊎ (known (version_of p) ≡ false) → Goal
      by_version (inl version) =
          ⊎_elim
          (λ (e : ltb (length p) (length_in (version_of p)) ≡ true).
          let short = ltb-true _ _ e in
          by_header 12 refl (header_cut p five mark version short)
          (inr (not_short, inr (mark_there p five mark, inr (version_there p version, inl (cut_of p version short, refl))))))
          (λ (e : ltb (length p) (length_in (version_of p)) ≡ false). by_body mark version (ltb-false _ _ e) (either_way (image_good p)))
          (either_way (ltb (length p) (length_in (version_of p))))
      by_version (inr unknown) =
          by_header 14 refl (header_unknown p five mark unknown)
          (inr (not_short, inr (mark_there p five mark, inl (no_version_there p unknown, refl))))

    by_mark : (marked p ≡ true) ⊎ (marked p ≡ false) → Goal
    by_mark (inl mark) = by_version mark (either_way (known (version_of p)))
    by_mark (inr none) = by_header 13 refl (header_unmarked p five none) (inr (not_short, inl (no_mark_there p five none, refl)))

  answered : Goal
  answered =
      ⊎_elim
      (λ (e : ltb (length p) 5 ≡ true). by_header 12 refl (header_short p (ltb-true _ _ e)) (inl (ltb-true _ _ e, refl)))
      (λ (e : ltb (length p) 5 ≡ false). by_mark (ltb-false _ _ e) (either_way (marked p)))
      (either_way (ltb (length p) 5))

pub restorings : Restorings 0xFFF
restorings b l at = answered b (drop at l)
