-- All pieces of a record have room on its page.
use Prim.Native.Nat.{ℕ, ◌≤◌, ◌<◌}
use native.Mathlib.Omega.{arith}
use lib.ListN.{length, length-append}
use Rattle.page.specs.Pages.{page_most, headed, joined_all}
use Rattle.page.specs.CountLaws.{all_count, head_count}
use Rattle.records.specs.Events.{Record, whole, short}
use Rattle.bench.specs.declared.Bench.{Bench}
use Rattle.bench.specs.Steps.{outcome}
use Rattle.moves.specs.Moved.{seat_moved, controller_moved}
use Rattle.moves.proofs.MovedLaws.{seat_pieces_lem, controller_pieces_lem}
use Rattle.account.specs.Told.{channel_at, pieces}
use Rattle.account.specs.Sized.{Sized}
use Rattle.account.specs.Kept.{head_of}
use Rattle.account.proofs.Fit.{head_width}

few_pieces : (b : Bench) (r : Record) → length (pieces b r) ≤ 35
few_pieces b (whole kind n number value) =
    let after : Bench = (outcome b (whole kind n number value)).bench in
    omega (
      arith,
      seat_pieces_lem (channel_at b n) (channel_at after n) kind n,
      controller_pieces_lem b.controller after.controller,
      length-append (seat_moved (channel_at b n) (channel_at after n) kind n) (controller_moved b.controller after.controller),
    )
few_pieces b short = omega (arith, controller_pieces_lem b.controller (outcome b short).bench.controller)

pub all_stand_there : (b : Bench) (n : ℕ) (r : Record) → Sized b n r → (joined_all (headed (head_of b n r)) (pieces b r)).count < page_most
all_stand_there b n r s =
    omega (arith, all_count (headed (head_of b n r)) (pieces b r), head_count (head_of b n r), head_width b n r s, few_pieces b r)
