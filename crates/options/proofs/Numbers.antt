-- Words that say when to save: digits, and what they denote.
use Prim.Native.Nat.{ℕ, ◌+◌, ◌-◌, ◌*◌, ◌≤◌, ◌<◌}
use mathlib.Core.Bool.{true, false}
use mathlib.Core.List.{List, [], ◌∷◌}
use mathlib.Core.Logic.{◌⊎◌, inl, inr, ⊎_elim}
use mathlib.Core.Path.{◌≡◌, refl, sym, ap, subst, ◌∙◌}
use native.Mathlib.Omega.{arith}
use Rattle.std.specs.Prelude.{Option, Some, None}
use lib.Dec.{eqb, ltb}
use lib.ListN.{length}
use borrow.Author.Tests.{lt-ltb, le-ltb, ltb-true, ltb-false, eqb-false, ne_eqb}
use Rattle.base.specs.Pick.{pick}
use Rattle.base.specs.PickLaws.{pick_true, pick_false, either_way}
use Rattle.text.specs.Quoted.{quoted}
use Rattle.text.specs.Line.{decimal}
use Rattle.text.specs.Hex.{digit as worth}
use Rattle.text.specs.HexLaws.{numeral_worth, worth_numeral}
use Rattle.text.specs.DecimalLaws.{front_length}
use Rattle.text.proofs.FormLaws.{denoted, Digits, decimal_denotes, decimal_digits}
use Rattle.options.specs.Moments.{many, same_bytes, is, with_digit, number_from, number_of, moment_of}
use Rattle.options.specs.SameLaws.{same_only}
use Rattle.options.specs.SaveMoments.{count_of, MomentsRead, MomentsOnly}
use Rattle.options.specs.declared.Moment.{Moment}
use Rattle.options.specs.declared.Moment.TheVariants.{Behind, End}

-- ---- what digits denote

least : (n : ℕ) (word : List ℕ) → n ≤ denoted n word
least n [] = omega arith
least n (c ∷ word) = omega (arith, least (10 * n + (c - 48)) word)

digit_on : (n c : ℕ) (word : List ℕ) → 48 ≤ c → c ≤ 57 → number_from n (c ∷ word) ≡ number_from (with_digit n (c - 48)) word
unfolding number_from
digit_on n c word low high =
    let e : worth c ≡ c - 48 = numeral_worth c low high in
    pick_true _ _ _ (lt-ltb (worth c) 10 (omega arith)) ∙ ap (λ (k : ℕ). number_from (with_digit n k) word) e

small : (n digit : ℕ) → n < many → with_digit n digit ≡ 10 * n + digit
unfolding with_digit
small n digit h = pick_true _ _ _ (lt-ltb n many h)

enough : (n digit : ℕ) → many ≤ n → with_digit n digit ≡ n
unfolding with_digit
enough n digit h = pick_false _ _ _ (le-ltb n many h)

number_denoted : (n : ℕ) (word : List ℕ) → Digits word → denoted n word < many → number_from n word ≡ Some (Behind (denoted n word + 1))
unfolding number_from
number_denoted n [] all h = refl
number_denoted n (c ∷ word) (low, high, all) h =
    let less : n < many = omega (arith, least (10 * n + (c - 48)) word) in
    digit_on n c word low high
    ∙ ap (λ (k : ℕ). number_from k word) (small n (c - 48) less)
    ∙ number_denoted (10 * n + (c - 48)) word all h

number_stays : (n : ℕ) (word : List ℕ) → Digits word → many ≤ n → number_from n word ≡ Some (Behind (n + 1))
unfolding number_from
number_stays n [] all h = refl
number_stays n (c ∷ word) (low, high, all) h =
    digit_on n c word low high ∙ ap (λ (k : ℕ). number_from k word) (enough n (c - 48) h) ∙ number_stays n word all h

-- a number already beyond the limit stays; one below it goes on
number_large : (n : ℕ) (word : List ℕ) → Digits word → many ≤ denoted n word → many < count_of (number_from n word)
unfolding number_from
number_large n [] all h = omega arith
number_large n (c ∷ word) (low, high, all) h =
    ⊎_elim
    (λ (t : ltb n many ≡ true).
    subst (λ (m : Option Moment). many < count_of m)
    (sym (digit_on n c word low high ∙ ap (λ (k : ℕ). number_from k word) (small n (c - 48) (ltb-true n many t))))
    (number_large (10 * n + (c - 48)) word all h))
    (λ (f : ltb n many ≡ false).
    subst (λ (m : Option Moment). many < count_of m) (sym (number_stays n (c ∷ word) (low, high, all) (ltb-false n many f)))
    (omega (arith, ltb-false n many f)))
    (either_way (ltb n many))

-- ---- digits are neither `start` nor `end`

no_start : (word : List ℕ) → Digits word → same_bytes word (quoted "start") ≡ false
no_start word all =
    ⊎_elim
    (λ (t : same_bytes word (quoted "start") ≡ true).
    let d : Digits (quoted "start") = subst Digits (same_only word (quoted "start") t) all in absurd (omega (arith, d.1)))
    (λ (f : same_bytes word (quoted "start") ≡ false). f)
    (either_way (same_bytes word (quoted "start")))

no_end : (word : List ℕ) → Digits word → same_bytes word (quoted "end") ≡ false
no_end word all =
    ⊎_elim
    (λ (t : same_bytes word (quoted "end") ≡ true).
    let d : Digits (quoted "end") = subst Digits (same_only word (quoted "end") t) all in absurd (omega (arith, d.1)))
    (λ (f : same_bytes word (quoted "end") ≡ false). f)
    (either_way (same_bytes word (quoted "end")))

digits_number : (word : List ℕ) → Digits word → 0 < length word → moment_of word ≡ number_from 0 word
unfolding moment_of number_of
digits_number word all some =
    pick_false _ _ _ (no_start word all) ∙ pick_false _ _ _ (no_end word all) ∙ pick_false _ _ _ (ne_eqb (length word) 0 (λ e. omega arith))

digits_read : (word : List ℕ) → Digits word → 0 < length word → denoted 0 word < many → moment_of word ≡ Some (Behind (denoted 0 word + 1))
digits_read word all some h = digits_number word all some ∙ number_denoted 0 word all h

listed_read : (n : ℕ) → n < many → moment_of (decimal n) ≡ Some (Behind (n + 1))
listed_read n h =
    digits_read (decimal n) (decimal_digits n) (omega (arith, front_length n)) (subst (λ (k : ℕ). k < many) (sym (decimal_denotes n)) h)
    ∙ ap (λ (k : ℕ). Some (Behind (k + 1))) (decimal_denotes n)

start_read : moment_of (quoted "start") ≡ Some (Behind 0)
unfolding moment_of same_bytes pick
start_read = refl

end_read : moment_of (quoted "end") ≡ Some End
unfolding moment_of same_bytes pick
end_read = refl

pub moments_read : MomentsRead
moments_read = record {
  start = start_read;
  end = end_read;
  listed = listed_read;
  digits = digits_read;
  large = λ word all some h. subst (λ (m : Option Moment). many < count_of m) (sym (digits_number word all some)) (number_large 0 word all h);
}

-- ---- no other word

none_behind : (count : ℕ) → None ≡ Some (Behind count) → ⊥
none_behind count e = cc

none_end : None ≡ Some End → ⊥
none_end e = cc

behind_end : (count : ℕ) → Some (Behind count) ≡ Some End → ⊥
behind_end count e = cc

-- what is no digit makes it no number
all_digits : (n : ℕ) (word : List ℕ) → (number_from n word ≡ None → ⊥) → Digits word
unfolding number_from
all_digits n [] read = tt
all_digits n (c ∷ word) read =
    ⊎_elim
    (λ (t : ltb (worth c) 10 ≡ true).
    let two : _ = worth_numeral c (ltb-true (worth c) 10 t) in
    (two.0, two.1, all_digits (with_digit n (worth c)) word (λ e. read (pick_true _ _ _ t ∙ e))))
    (λ (f : ltb (worth c) 10 ≡ false). absurd (read (pick_false _ _ _ f)))
    (either_way (ltb (worth c) 10))

number_end_lem : (n : ℕ) (word : List ℕ) → number_from n word ≡ Some End → ⊥
unfolding number_from
number_end_lem n [] e = behind_end (n + 1) e
number_end_lem n (c ∷ word) e =
    ⊎_elim
    (λ (t : ltb (worth c) 10 ≡ true). number_end_lem (with_digit n (worth c)) word (sym (pick_true _ _ _ t) ∙ e))
    (λ (f : ltb (worth c) 10 ≡ false). absurd (none_end (sym (pick_false _ _ _ f) ∙ e)))
    (either_way (ltb (worth c) 10))

-- the three ways in which a word is read
module _ (word : List ℕ) where
  not_number : (m : Option Moment) → number_of word ≡ m → (m ≡ None → ⊥) → Digits word × (0 < length word)
  unfolding number_of
  not_number m e read =
      ⊎_elim
      (λ (t : eqb (length word) 0 ≡ true). absurd (read (sym e ∙ pick_true _ _ _ t)))
      (λ (f : eqb (length word) 0 ≡ false).
      (all_digits 0 word (λ u. read (sym e ∙ pick_false _ _ _ f ∙ u)), omega (arith, eqb-false (length word) 0 f)))
      (either_way (eqb (length word) 0))

  number_no_end : number_of word ≡ Some End → ⊥
  unfolding number_of
  number_no_end e =
      ⊎_elim
      (λ (t : eqb (length word) 0 ≡ true). absurd (none_end (sym (pick_true _ _ _ t) ∙ e)))
      (λ (f : eqb (length word) 0 ≡ false). number_end_lem 0 word (sym (pick_false _ _ _ f) ∙ e))
      (either_way (eqb (length word) 0))

  behind_only : (count : ℕ) → moment_of word ≡ Some (Behind count) → (word ≡ quoted "start") ⊎ (Digits word × (0 < length word))
  unfolding moment_of
  behind_only count e =
      ⊎_elim
      (λ (t : is "start" word ≡ true). inl (same_only word (quoted "start") t))
      (λ (f : is "start" word ≡ false).
      ⊎_elim
      (λ (t : is "end" word ≡ true). absurd (behind_end count (sym e ∙ pick_false _ _ _ f ∙ pick_true _ _ _ t)))
      (λ (g : is "end" word ≡ false).
      inr (not_number (Some (Behind count)) (sym (pick_false _ _ _ f ∙ pick_false _ _ _ g) ∙ e) (λ u. none_behind count (sym u))))
      (either_way (is "end" word)))
      (either_way (is "start" word))

  end_only : moment_of word ≡ Some End → word ≡ quoted "end"
  unfolding moment_of
  end_only e =
      ⊎_elim
      (λ (t : is "start" word ≡ true). absurd (behind_end 0 (sym (pick_true _ _ _ t) ∙ e)))
      (λ (f : is "start" word ≡ false).
      ⊎_elim
      (λ (t : is "end" word ≡ true). same_only word (quoted "end") t)
      (λ (g : is "end" word ≡ false). absurd (number_no_end (sym (pick_false _ _ _ f ∙ pick_false _ _ _ g) ∙ e)))
      (either_way (is "end" word)))
      (either_way (is "start" word))

pub moments_only : MomentsOnly
moments_only = record { behind = behind_only; end = end_only }
