-- What the library's `from_fn` and `map` leave in an array, where each call gives a value of a function; and a yes-or-no as its byte.
use Rattle.std.specs.Prelude.{ℕ, zero, suc, ◌+◌, ◌<◌, Bool, true, false, refl, List, ◌≡◌, get_or}
use Rattle.std.specs.Array.{IsFromFnResultFrom, IsFromFnResult, IsMapOf}
use Rattle.std.specs.Fn.{Called}
use Rattle.std.specs.Int.{from_bool}
use Rattle.std.proofs.Common.{subst, ap, ◌∙◌, arith, not-suc-le-zero, le_of_suc-le-suc, add-zero}
use denote.Param.Members.{Mut}
use Rattle.base.specs.Bits.{digit}
use Rattle.base.specs.ListLaws.{listed}
use Rattle.base.specs.Pick.{pick}
use Rattle.channel_image.specs.PartLaws.{listed_by}

module _ {F B : Type 0} (g : Mut F (ℕ × Unit {0}) B) (f : F) (l : List B) (h : ℕ → B) (d : B)
    (gives : (k : ℕ) (y : B) (q : F) → Called g f (k, tt) y q → (q ≡ f) × (y ≡ h k)) where
  filled_from : (i n : ℕ) → IsFromFnResultFrom g f l i n → (k : ℕ) → k < n → get_or l (i + k) d ≡ h (i + k)
  filled_from i zero e k below = absurd (not-suc-le-zero below)
  filled_from i (suc n) e zero below =
      rw (add-zero i) (e.2.1 d ∙ (gives i e.1 e.0 e.3).1)
  filled_from i (suc n) e (suc k) below =
      let rest = subst (λ (q : F). IsFromFnResultFrom g q l (i + 1) n) (gives i e.1 e.0 e.3).0 e.4 in
      let next : (i + 1) + k ≡ i + suc k = omega arith in
      subst (λ (j : ℕ). get_or l j d ≡ h j) next (filled_from (i + 1) n rest k (le_of_suc-le-suc below))

  pub filled : (n : ℕ) → IsFromFnResult g f l n → l ≡ listed n h
  filled n e =
      listed_by n l h d e.long (λ k below. subst (λ (j : ℕ). get_or l j d ≡ h j) (zero_first k) (filled_from 0 n e.each k below))
    where
      zero_first : (k : ℕ) → 0 + k ≡ k
      zero_first k = omega arith

pub mapped : {F A B : Type 0} (g : Mut F (A × Unit {0}) B) (f : F) (xs : List A) (ys : List B) (n : ℕ) (h : A → B) (d : A) (e : B)
    → ((x : A) (y : B) (p q : F) → Called g p (x, tt) y q → y ≡ h x)
    → IsMapOf g f xs ys n → (k : ℕ) → k < n → get_or ys k e ≡ h (get_or xs k d)
mapped g f xs ys n h d e gives all k below = let called = all.at k d e below in gives (get_or xs k d) (get_or ys k e) called.0 called.1 called.2

pub byte_told : (b : Bool) → from_bool b ≡ digit b
unfolding digit pick
byte_told true = refl
byte_told false = refl
