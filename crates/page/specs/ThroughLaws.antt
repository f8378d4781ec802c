-- Through one text and then another; and as a loop goes through one.
use Rattle.std.specs.Prelude.{ℕ, ◌+◌, ◌≤◌, ◌<◌, List, [], ◌∷◌, ◌++◌, ◌≡◌, refl, length, get_or, drop}
use Rattle.std.proofs.Common.{add-one, drop_of_length-le, drop-cons}
use Rattle.page.specs.Through.{through}

module _ {A : Type 0} (after : A → ℕ → A) where
  pub through_append : (a : A) (first then : List ℕ) → through after a (first ++ then) ≡ through after (through after a first) then
  through_append a [] then = refl
  through_append a (c ∷ first) then = through_append (after a c) first then

  module _ (a : A) (text : List ℕ) (i : ℕ) where
    pub through_on : i < length text → through after a (drop i text) ≡ through after (after a (get_or text i 0)) (drop (i + 1) text)
    through_on h = rw (drop-cons text i 0 h, add-one i)

    pub through_end : length text ≤ i → through after a (drop i text) ≡ a
    through_end h = rw (drop_of_length-le text h)
