-- What is found in a lent part, case by case as the reader meets them.
use Rattle.std.specs.Prelude.{ℕ, ◌<◌, ◌≤◌, Bool, true, false, ◌&&◌, List, ◌≡◌, refl, Some, None, length, take}
use Rattle.std.proofs.Common.{ap, ap₂}
use borrow.Author.Tests.{le-leb, lt-leb}
use Rattle.base.specs.Pick.{pick}
use Rattle.base.specs.PickLaws.{pick_true, pick_false}
use Rattle.channel_image.specs.Allowed.{channel_good}
use Rattle.channel_image.specs.Places.{channel_length}
use Rattle.channel_image.specs.Read.{channel_from, found}

-- where something is read if a test holds, and nothing if it fails
pub some_picked : {A : Type 0} (b : Bool) (x y : A) → pick b (Some x) None ≡ Some y → (b ≡ true) × (x ≡ y)
unfolding pick
some_picked true x y e = (refl, cc)
some_picked false x y e = absurd cc

pub none_picked : {A : Type 0} (b : Bool) (x : A) → pick b (Some x) None ≡ None → b ≡ false
unfolding pick
none_picked true x e = absurd cc
none_picked false x e = refl

module _ (l : List ℕ) where
  pub found_short : length l < channel_length → found l ≡ None
  unfolding found
  found_short short = pick_false _ _ _ (ap (λ (b : Bool). b && channel_good (take channel_length l)) (lt-leb channel_length (length l) short))

  module _ (long : channel_length ≤ length l) where
    pub found_good : channel_good (take channel_length l) ≡ true → found l ≡ Some (channel_from (take channel_length l))
    unfolding found
    found_good good = pick_true _ _ _ (ap₂ ◌&&◌ (le-leb channel_length (length l) long) good)

    pub found_bad : channel_good (take channel_length l) ≡ false → found l ≡ None
    unfolding found
    found_bad bad = pick_false _ _ _ (ap₂ ◌&&◌ (le-leb channel_length (length l) long) bad)
