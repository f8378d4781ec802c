-- One record told: a page with the listing's own line, what was done, what came of it, what moved, and the comment.
use Rattle.std.specs.Prelude.{ℕ, Bool, false, List, ◌∷◌, ◌++◌}
use Rattle.base.specs.Pick.{pick}
use Rattle.receiver.specs.Receiver.{none_queued}
use Rattle.channel.specs.declared.Channel.{Channel}
use Rattle.channel.specs.Parts as channel
use Rattle.page.specs.Pages.{headed, joined_all, ended}
use Rattle.page.specs.Notes.{commented}
use Rattle.page.specs.declared.Page.{Page}
use Rattle.records.specs.Kinds as kinds
use Rattle.records.specs.Events.{Record, whole, short, seat_above}
use Rattle.bench.specs.declared.Bench.{Bench}
use Rattle.bench.specs.Seats.{seat}
use Rattle.bench.specs.Steps.{outcome}
use Rattle.deeds.specs.Done.{record_done}
use Rattle.account.specs.Head.{head_words}
use Rattle.answers.specs.Came.{came_of}
use Rattle.moves.specs.Moved.{seat_moved, controller_moved}

-- the channel of a seat
abbrev pub channel_at : Bench → ℕ → Channel
channel_at b n = (seat b n).channel

-- "Register names go by LCR bit 7 as it stood before the record, of a seat above 7 as if it were clear"
unfoldable pub divisor_at : Bench → ℕ → Bool
divisor_at b n = pick (seat_above n) false (channel.divisor_shown (channel_at b n))

abbrev pub divisor_of : Bench → Record → Bool
divisor_of b (whole kind n number value) = divisor_at b n
divisor_of b short = false

-- what came of a record on a bench, by its answer. One that is cut off is answered by a refusal, which goes by nothing else
abbrev pub came : Bench → Record → List ℕ
came b (whole kind n number value) =
    came_of kind number (divisor_at b n) b.controller.operation.selected (none_queued (channel_at b n).receiver) (outcome b (whole kind n number value)).answer
came b short = came_of kinds.acknowledge_kind 0 false false false (outcome b short).answer

-- between two benches
abbrev pub moved : Bench → Bench → Record → List (List ℕ)
moved b b' (whole kind n number value) = seat_moved (channel_at b n) (channel_at b' n) kind n ++ controller_moved b.controller b'.controller
moved b b' short = controller_moved b.controller b'.controller

-- "The pieces: what was done, what came of it, what moved."
abbrev pub pieces : Bench → Record → List (List ℕ)
pieces b r = record_done r (divisor_of b r) b.controller ∷ came b r ∷ moved b (outcome b r).bench r

-- "Behind them, on a line of its own, stands the lesson's comment."
unfoldable pub told : Bench → ℕ → Record → List ℕ → Page
told b n r comment =
    ended (commented (joined_all (headed (head_words n (outcome b r).answer (outcome b r).output)) (pieces b r)) comment)
