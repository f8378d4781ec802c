-- Of what stays nothing is told.
use Rattle.std.specs.Prelude.{ℕ, Bool, true, false, ◌&&◌, not, List, [], ◌∷◌, ◌++◌, ◌≡◌, refl}
use Rattle.std.proofs.Common.{ap, ◌∙◌, eq-eqb}
use Rattle.base.specs.Pick.{pick}
use Rattle.base.specs.PickLaws.{pick_true, pick_either}
use Rattle.page.specs.Pages.{placed, joined, joined_all}
use Rattle.page.specs.declared.Page.{Page}
use Rattle.channel.specs.declared.Channel.{Channel}
use Rattle.controller.specs.declared.Controller.{Controller}
use Rattle.records.specs.Events.{uses_seat, seat_above}
use Rattle.moves.specs.Moved.{counted, turned, queues_moved, troubles_moved, flags_moved, changes_moved, loopback_moved, channel_moved, seat_moved, line_turned, lines_turned, first_moved, first_line, ready_moved, output_moved, controller_moved}

counted_still : (words : List ℕ) (n : ℕ) → counted words n n ≡ []
unfolding counted
counted_still words n = pick_true _ _ _ (eq-eqb n n refl)

turned_still : (test : Bool) (on off : List ℕ) → turned test test on off ≡ []
unfolding turned pick
turned_still true on off = refl
turned_still false on off = refl

-- ---- nothing is told

abbrev pub AllNone : List (List ℕ) → Type 0
AllNone [] = Unit {0}
AllNone (words ∷ rest) = (words ≡ []) × AllNone rest

pub none_append : (a b : List (List ℕ)) → AllNone a → AllNone b → AllNone (a ++ b)
none_append [] b f g = g
none_append (words ∷ a) b f g = (f.0, none_append a b f.1 g)

joined_none : (p : Page) → joined p [] ≡ p
unfolding joined placed pick
joined_none p = refl

pub none_joined : (p : Page) (pieces : List (List ℕ)) → AllNone pieces → joined_all p pieces ≡ p
none_joined p [] none = refl
none_joined p (words ∷ pieces) none =
    ap (λ (q : Page). joined_all q pieces) (ap (joined p) none.0 ∙ joined_none p) ∙ none_joined p pieces none.1

-- ---- of a channel and a controller that stay

channel_still : (c : Channel) → AllNone (channel_moved c c)
unfolding channel_moved queues_moved troubles_moved flags_moved changes_moved loopback_moved
channel_still c = (
  counted_still _ _,
  (
    counted_still _ _,
    (
      turned_still _ _ _,
      (
        turned_still _ _ _,
        (
          turned_still _ _ _,
          (
            turned_still _ _ _,
            (
              turned_still _ _ _,
              (
                turned_still _ _ _,
                (
                  turned_still _ _ _,
                  (turned_still _ _ _, (turned_still _ _ _, (turned_still _ _ _, (turned_still _ _ _, (turned_still _ _ _, tt))))),
                ),
              ),
            ),
          ),
        ),
      ),
    ),
  ),
)

lines_still : (set : ℕ) (on off : List ℕ) → AllNone (lines_turned set set on off)
unfolding lines_turned line_turned
lines_still set on off = (
  turned_still _ _ _,
  (
    turned_still _ _ _,
    (
      turned_still _ _ _,
      (
        turned_still _ _ _,
        (turned_still _ _ _, (turned_still _ _ _, (turned_still _ _ _, (turned_still _ _ _, tt)))),
      ),
    ),
  ),
)

first_still : (n : ℕ) → first_moved n n ≡ []
unfolding first_moved
first_still n = pick_true _ _ _ (eq-eqb n n refl)

pub controller_still : (k : Controller) → AllNone (controller_moved k k)
unfolding controller_moved ready_moved output_moved
controller_still k = (
  turned_still _ _ _,
  none_append (lines_turned k.lines.levels k.lines.levels _ _) _ (lines_still k.lines.levels _ _)
      (none_append (lines_turned k.operation.service k.operation.service _ _) _ (lines_still k.operation.service _ _)
      (first_still (first_line k), (turned_still _ _ _, tt))),
)

pub seat_still : (c : Channel) (kind n : ℕ) → AllNone (seat_moved c c kind n)
unfolding seat_moved
seat_still c kind n = pick_either AllNone (uses_seat kind && not (seat_above n)) (channel_moved c c) [] (channel_still c) tt
