-- Of grounds in order, one number comes, and one value.
use Prim.Native.Nat.{ℕ}
use mathlib.Core.List.{List, [], ◌∷◌}
use mathlib.Core.Logic.{inl, inr}
use mathlib.Core.Path.{◌≡◌, sym, ◌∙◌}
use Rattle.base.specs.declared.Answer.{Answer}
use Rattle.base.specs.Answers.{refusal_of, value_of}
use Rattle.demands.specs.Reasons.{Reason, FirstOf, NoneOf, AnsweredBy}

first_once : (rs : List Reason) (n m : ℕ) → FirstOf rs n → FirstOf rs m → n ≡ m
first_once [] n m f g = absurd f
first_once (r ∷ rs) n m (inl f) (inl g) = f.1 ∙ sym g.1
first_once (r ∷ rs) n m (inl f) (inr g) = absurd (g.0 f.0)
first_once (r ∷ rs) n m (inr f) (inl g) = absurd (f.0 g.0)
first_once (r ∷ rs) n m (inr f) (inr g) = first_once rs n m f.1 g.1

first_none : (rs : List Reason) (n : ℕ) → FirstOf rs n → NoneOf rs → ⊥
first_none [] n f none = f
first_none (r ∷ rs) n (inl f) none = none.0 f.0
first_none (r ∷ rs) n (inr f) none = first_none rs n f.1 none.1

pub one_reason : (value : ℕ) (rs : List Reason) (a b : Answer) → AnsweredBy value rs a → AnsweredBy value rs b → refusal_of a ≡ refusal_of b
one_reason value rs a b (inl x) (inl y) = x.0 ∙ sym y.0
one_reason value rs a b (inl x) (inr y) = absurd (first_none rs (refusal_of b) y.0 x.1)
one_reason value rs a b (inr x) (inl y) = absurd (first_none rs (refusal_of a) x.0 y.1)
one_reason value rs a b (inr x) (inr y) = first_once rs (refusal_of a) (refusal_of b) x.0 y.0

-- where the number is not 0 the answer is a refusal
pub a_reason : (value : ℕ) (rs : List Reason) (a : Answer) → (refusal_of a ≡ 0 → ⊥) → AnsweredBy value rs a → value_of a ≡ value
a_reason value rs a some (inl x) = absurd (some x.0)
a_reason value rs a some (inr x) = x.1
