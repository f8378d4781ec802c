-- What the controller hears of a record: nothing, the lines once and as they are after it, or the one signal that it is.
use Prim.Native.Nat.{ℕ, zero, suc, ◌<◌}
use Rattle.std.specs.Prelude.{true, false, List, [], ◌∷◌, map, ◌≡◌, eqb, length, get_or}
use Rattle.std.proofs.Math.Path.{refl, ap}
use Rattle.std.proofs.Common.{sym, subst, ◌∙◌, ⊎_elim, mod-eq_of_lt, arith, eqb-true}
use Rattle.std.proofs.lemmas.Bool.{eqb-false}
use Rattle.base.specs.Pick.{pick}
use Rattle.base.specs.PickLaws.{pick_true, pick_false, either_way}
use Rattle.base.specs.Bits.{bit}
use Rattle.base.proofs.BitLaws.{bit_bits}
use Rattle.rank.specs.Sets.{has}
use Rattle.seat.specs.Seats.{no_seat, line}
use Rattle.controller.specs.declared.Controller.{Controller}
use Rattle.controller.specs.declared.Signalled as controller
use Rattle.controller.specs.Signals.{Signal, levels, acknowledge}
use Rattle.controller.specs.Turns.{settled}
use Rattle.controller.specs.Steps.{step}
use Rattle.controller.specs.RefusalLaws.{step_levels}
use Rattle.records.specs.Events.{Record, whole, short, event_of, event, seat_count}
use Rattle.bench.specs.declared.Bench.{Bench}
use Rattle.bench.specs.declared.Outcome.{Outcome}
use Rattle.bench.specs.Refusals.{refusal}
use Rattle.bench.specs.Seats.{seat, lines}
use Rattle.bench.specs.Steps.{after, outcome}
use Rattle.bench.specs.FrameLaws.{mapped_at}
use Rattle.bench.specs.EdgeLaws.{short_refused, kind_refused}
use Rattle.bench.specs.OutcomeLaws.{outcome_taken, outcome_refused}
use Rattle.bench.specs.DoneLaws.{signals, controller_done}
use Rattle.bench.specs.Wired.{Wired}
use Rattle.bench.proofs.WiredLaws.{wired_kept}

-- a controller after some signals, one after the other
abbrev pub heard : Controller → List Signal → Controller
heard c [] = c
heard c (x ∷ rest) = heard (step c x).controller rest

-- what each kind sends it, 0 to 8, given the lines: the five seat events and the master reset show them, the others are signals
abbrev pub sending : ℕ → ℕ → ℕ → List Signal
sending high n v = levels high ∷ levels high ∷ levels high ∷ levels high ∷ levels high ∷ levels high ∷ signals n v

-- what a record sends: nothing where it is refused, else one signal; the lines are those of the seats after it
abbrev pub sent : Bench → Record → List Signal
sent b (whole k s n v) =
    pick (eqb (refusal b (whole k s n v)) 0) (get_or (sending (lines (outcome b (whole k s n v)).bench.seats) n v) k acknowledge ∷ []) []
sent b short = []

module _ (b : Bench) (w : Wired b) where
  -- an event that settles the controller with some levels settles it with the lines after it
  by_lines : (r : Record) → refusal b r ≡ 0
      → (after b (event r)).controller ≡ settled b.controller (after b (event r)).controller.lines.levels
      → (outcome b r).bench.controller ≡ (step b.controller (levels (lines (outcome b r).bench.seats))).controller
  by_lines r none settles =
      let is : (outcome b r).bench.controller ≡ (after b (event r)).controller = ap (λ (o : Outcome). o.bench.controller) (outcome_taken b r none) in
      is ∙ settles
      ∙ ap (λ (c : Controller). settled b.controller c.lines.levels) (sym is)
      ∙ ap (settled b.controller) (wired_kept b w r).levels
      ∙ sym (ap (λ (t : controller.Signalled). t.controller) (step_levels b.controller _))

  by_signal : (k s n v : ℕ) → refusal b (whole k s n v) ≡ 0
      → (outcome b (whole k s n v)).bench.controller
      ≡ (step b.controller (get_or (sending (lines (outcome b (whole k s n v)).bench.seats) n v) k acknowledge)).controller
  unfolding after settled event_of pick
  by_signal zero s n v none = by_lines (whole 0 s n v) none refl
  by_signal (suc zero) s n v none = by_lines (whole 1 s n v) none refl
  by_signal (suc (suc zero)) s n v none = by_lines (whole 2 s n v) none refl
  by_signal (suc (suc (suc zero))) s n v none = by_lines (whole 3 s n v) none refl
  by_signal (suc (suc (suc (suc zero)))) s n v none = by_lines (whole 4 s n v) none refl
  by_signal (suc (suc (suc (suc (suc zero))))) s n v none = by_lines (whole 5 s n v) none refl
  by_signal (suc (suc (suc (suc (suc (suc zero)))))) s n v none = ap (λ (o : Outcome). o.bench.controller) (controller_done b 0 s n v (omega arith))
  by_signal (suc (suc (suc (suc (suc (suc (suc zero))))))) s n v none = ap (λ (o : Outcome). o.bench.controller) (controller_done b 1 s n v (omega arith))
  by_signal (suc (suc (suc (suc (suc (suc (suc (suc zero)))))))) s n v none = ap (λ (o : Outcome). o.bench.controller) (controller_done b 2 s n v (omega arith))
  by_signal (suc (suc (suc (suc (suc (suc (suc (suc (suc k))))))))) s n v none =
      absurd (omega (arith, none, kind_refused b (suc (suc (suc (suc (suc (suc (suc (suc (suc k))))))))) s n v (omega arith)))

  -- "Line changes reach the controller's latches in the same event.": once, and no other way
  pub hears : (r : Record) → (outcome b r).bench.controller ≡ heard b.controller (sent b r)
  hears short = ap (λ (o : Outcome). o.bench.controller) (outcome_refused b short (λ none. absurd (omega (arith, none, short_refused b))))
  hears (whole k s n v) =
      ⊎_elim
      (λ (none : eqb (refusal b (whole k s n v)) 0 ≡ true).
      by_signal k s n v (eqb-true _ _ none) ∙ sym (ap (heard b.controller) (pick_true _ _ _ none)))
      (λ (some : eqb (refusal b (whole k s n v)) 0 ≡ false).
      ap (λ (o : Outcome). o.bench.controller) (outcome_refused b (whole k s n v) (eqb-false _ _ some))
      ∙ sym (ap (heard b.controller) (pick_false _ _ _ some)))
      (either_way (eqb (refusal b (whole k s n v)) 0))

-- "Seat n is one serial channel; its interrupt output is line n of one 8259A."
pub line_of_seat : (b : Bench) (n : ℕ) → length b.seats ≡ seat_count → n < seat_count → has (lines b.seats) n ≡ line (seat b n)
unfolding lines seat
line_of_seat b n all small =
    ap (λ (k : ℕ). bit k (lines b.seats)) (mod-eq_of_lt small) ∙ bit_bits n (map line b.seats)
    ∙ mapped_at line b.seats n no_seat false (subst (λ (k : ℕ). n < k) (sym all) small)
    ∙ ap (λ (k : ℕ). line (get_or b.seats k no_seat)) (sym (mod-eq_of_lt small))
