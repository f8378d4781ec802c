-- The closed runs of ticket 8, by computation.
use mathlib.Core.Path.{refl}
use native.Mathlib.Omega.{arith}
use Rattle.base.specs.Answers.{refusal_of}
use Rattle.bench.specs.Seats.{power_up}
use Rattle.bench.proofs.ValidLaws as bench
use Rattle.image.specs.Items.{after_items}
use Rattle.image.proofs.ItemLaws.{items_kept}
use Rattle.demands.specs.TallyRuns.{FiveMove, FullRefused, NearlyRefused, TalliesMet, full_items}
use Rattle.demands.proofs.Opened.{laid_open, of_images}
use Rattle.demands.proofs.Tallies.{tallies_add_up}
use Rattle.demands.proofs.TalliesMove.{tallies_move, full_exactly}
use Rattle.demands.proofs.WithoutTallies.{without_tallies}

pub five_move : FiveMove
unfolding laid_open
five_move = record { first_lesson = refl; second_lesson = refl }

pub full_refused : FullRefused
unfolding laid_open of_images
full_refused = record { numbers = refl; left = refl }

pub nearly_refused : NearlyRefused
unfolding laid_open of_images
nearly_refused = refl

pub tallies_met : TalliesMet
unfolding laid_open refusal_of
tallies_met =
    record {
      adds_up = tallies_add_up 0 power_up full_items bench.power_up_lem;
      moves = tallies_move 1 (after_items power_up full_items) (omega arith) (items_kept power_up full_items bench.power_up_lem);
      full = full_exactly 1 (after_items power_up full_items) (omega arith) (items_kept power_up full_items bench.power_up_lem);
      without = without_tallies 0 power_up _ (omega arith) refl refl;
    }
