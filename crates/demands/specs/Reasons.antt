-- Refusals whose grounds are no tests that are computed: each is told by what must hold for it.
use Rattle.std.specs.Prelude.{ℕ, List, [], ◌∷◌, ◌⊎◌, ◌≡◌}
use Rattle.base.specs.declared.Answer.{Answer}
use Rattle.base.specs.Answers.{refusal_of, value_of}

-- a number, and what must hold for it
pub record Reason : Type 1 where
  pub number : ℕ
  pub holds : Type 0

-- the first of these that holds has this number
abbrev pub FirstOf : List Reason → ℕ → Type 0
FirstOf [] n = ⊥
FirstOf (r ∷ rs) n = (r.holds × (n ≡ r.number)) ⊎ ((r.holds → ⊥) × FirstOf rs n)

abbrev pub NoneOf : List Reason → Type 0
NoneOf [] = Unit
NoneOf (r ∷ rs) = (r.holds → ⊥) × NoneOf rs

abbrev pub AnsweredBy : ℕ → List Reason → Answer → Type 0
AnsweredBy value rs a = ((refusal_of a ≡ 0) × NoneOf rs) ⊎ (FirstOf rs (refusal_of a) × (value_of a ≡ value))
