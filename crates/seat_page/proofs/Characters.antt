-- One character of a queue further.
use Rattle.std.proofs.Common.{◌≡◌, ℕ, ◌+◌, ◌≤◌, ◌<◌, List, map, length, get_or, drop, drop_of_length-le, drop-cons, add-one}
use Rattle.page.specs.Pages.{joined, joined_all}
use Rattle.page.specs.declared.Page.{Page}
use Rattle.queue.specs.declared.Character.{Character}
use Rattle.queue.specs.Queue.{no_character}

module _ (say : Character → List ℕ) (p : Page) (all : List Character) (i : ℕ) where
  pub told_on : i < length all → joined_all p (map say (drop i all)) ≡ joined_all (joined p (say (get_or all i no_character))) (map say (drop (i + 1) all))
  told_on h = rw (drop-cons all i no_character h, add-one i)

  pub told_over : length all ≤ i → joined_all p (map say (drop i all)) ≡ p
  told_over h = rw (drop_of_length-le all h)
