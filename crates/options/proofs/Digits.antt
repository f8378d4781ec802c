-- Digits of a word, one by one, as a loop goes through them.
use Prim.Native.Nat.{ℕ, ◌+◌, ◌≤◌, ◌<◌}
use mathlib.Core.List.{List}
use mathlib.Core.Path.{◌≡◌}
use native.Mathlib.Numerals.{add-one}
use Rattle.std.specs.Prelude.{Some, None}
use lib.ListN.{length, get_or, drop, drop_of_length-le}
use lib.Seq.{drop-cons}
use borrow.Author.Tests.{lt-ltb, le-ltb}
use Rattle.base.specs.PickLaws.{pick_true, pick_false}
use Rattle.text.specs.Hex.{digit as worth}
use Rattle.options.specs.Moments.{with_digit, number_from}
use Rattle.options.specs.declared.Moment.TheVariants.{Behind}

module _ (n : ℕ) (word : List ℕ) (i : ℕ) where
  pub number_on : i < length word → worth (get_or word i 0) < 10
      → number_from n (drop i word) ≡ number_from (with_digit n (worth (get_or word i 0))) (drop (i + 1) word)
  unfolding number_from
  number_on h digit = rw (drop-cons word i 0 h, add-one i) (pick_true _ _ _ (lt-ltb _ _ digit))

  pub number_breaks : i < length word → 10 ≤ worth (get_or word i 0) → number_from n (drop i word) ≡ None
  unfolding number_from
  number_breaks h other = rw (drop-cons word i 0 h) (pick_false _ _ _ (le-ltb _ _ other))

  pub number_ends : length word ≤ i → number_from n (drop i word) ≡ Some (Behind (n + 1))
  unfolding number_from
  number_ends h = rw (drop_of_length-le word h)
