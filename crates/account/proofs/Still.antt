-- A record that is refused moves nothing.
use mathlib.Core.Path.{◌≡◌, ap, ◌∙◌}
use Rattle.page.specs.Pages.{headed, joined, joined_all, ended}
use Rattle.page.specs.Notes.{commented}
use Rattle.page.specs.declared.Page.{Page}
use Rattle.records.specs.Events.{Record, whole, short}
use Rattle.bench.specs.declared.Bench.{Bench}
use Rattle.bench.specs.declared.Outcome.{Outcome}
use Rattle.bench.specs.Steps.{outcome}
use Rattle.bench.specs.OutcomeLaws.{outcome_refused}
use Rattle.deeds.specs.Done.{record_done}
use Rattle.moves.specs.Moved.{seat_moved}
use Rattle.moves.proofs.StillLaws.{AllNone, none_append, none_joined, seat_still, controller_still}
use Rattle.account.specs.Told.{channel_at, divisor_of, came, moved, told}
use Rattle.account.specs.Kept.{head_of, RefusedMovesNothing}

moved_still : (b : Bench) (r : Record) → AllNone (moved b b r)
moved_still b (whole kind n number value) = none_append (seat_moved (channel_at b n) (channel_at b n) kind n) _ (seat_still (channel_at b n) kind n) (controller_still b.controller)
moved_still b short = controller_still b.controller

pub refused_moves_nothing : RefusedMovesNothing
unfolding told
refused_moves_nothing b n r comment some =
    let page : Page = joined (joined (headed (head_of b n r)) (record_done r (divisor_of b r) b.controller)) (came b r) in
    let same : (outcome b r).bench ≡ b = ap (λ (o : Outcome). o.bench) (outcome_refused b r some) in
    ap (λ (p : Page). ended (commented p comment))
    (ap (λ (next : Bench). joined_all page (moved b next r)) same ∙ none_joined page (moved b b r) (moved_still b r))
