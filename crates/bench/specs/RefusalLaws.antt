-- A record is refused by decoding or by the room that its event goes to, and the grounds of both stand in the order.
use Rattle.std.specs.Prelude.{ℕ, true, false, [], ◌≡◌, refl, eqb, take, drop}
use Rattle.std.proofs.Common.{ap₂, sym, ◌∙◌}
use Rattle.base.specs.Pick.{pick}
use Rattle.base.specs.PickLaws.{pick_true, pick_false, never}
use Rattle.base.specs.Refusals.{refusal_order, first_of, refusal_by, first_held}
use Rattle.base.specs.RefusalLaws.{follows, follows_parts, in_order, held_behind}
use Rattle.registers.specs.declared.SeatEvent.TheVariants.{Read, Write, Arrival, Levels, Time}
use Rattle.registers.specs.Refusals as registers
use Rattle.controller.specs.Refusals as controller
use Rattle.records.specs.declared.Event.{Event}
use Rattle.records.specs.declared.Event.TheVariants.{OfSeat, MasterReset, ReadController, WriteController, Acknowledge}
use Rattle.records.specs.Events.{Record, whole, short, early_grounds, early, event_of, event}
use Rattle.records.specs.EarlyLaws.{early_in_turn, early_held}
use Rattle.bench.specs.declared.Bench.{Bench}
use Rattle.bench.specs.Refusals.{room_grounds, grounds, refusal}
use Rattle.bench.specs.Steps.{room_refusal}

-- "The order is 4, 3, 1, 2": the first three are decoding's, and the rest are the rooms'
room_in_turn : (b : Bench) (e : Event) → follows (drop 3 refusal_order) (room_grounds b e) ≡ true
unfolding room_grounds registers.grounds controller.grounds
room_in_turn b (OfSeat n (Read number)) = refl
room_in_turn b (OfSeat n (Write number byte)) = refl
room_in_turn b (OfSeat n (Arrival marks byte)) = refl
room_in_turn b (OfSeat n (Levels levels)) = refl
room_in_turn b (OfSeat n Time) = refl
room_in_turn b MasterReset = refl
room_in_turn b (ReadController port) = refl
room_in_turn b (WriteController port byte) = refl
room_in_turn b Acknowledge = refl

-- a list that follows the rooms' part follows the order
room_ordered : (b : Bench) (e : Event) → follows refusal_order (room_grounds b e) ≡ true
room_ordered b e = follows_parts (take 3 refusal_order) (drop 3 refusal_order) [] (room_grounds b e) refl (room_in_turn b e)

-- the grounds of every record are listed in the order
pub in_turn : (b : Bench) (r : Record) → follows refusal_order (grounds b r) ≡ true
unfolding grounds
in_turn b (whole kind seat number value) =
    follows_parts (take 3 refusal_order) (drop 3 refusal_order) (early_grounds (whole kind seat number value)) (room_grounds b (event_of kind seat number value))
    (early_in_turn (whole kind seat number value)) (room_in_turn b (event_of kind seat number value))
in_turn b short = refl

-- so the number is that of the first that holds
pub first_held_lem : (b : Bench) (r : Record) → refusal b r ≡ first_held (grounds b r)
unfolding refusal
first_held_lem b r = in_order (grounds b r) (in_turn b r)

room_held : (b : Bench) (e : Event) → room_refusal b e ≡ first_held (room_grounds b e)
unfolding room_refusal
room_held b e = in_order (room_grounds b e) (room_ordered b e)

-- decoding's number, or else the room's
by_both : (b : Bench) (kind seat number value : ℕ)
    → (let r = whole kind seat number value in refusal b r ≡ pick (eqb (early r) 0) (room_refusal b (event r)) (early r))
unfolding grounds
by_both b kind seat number value =
    let r : Record = whole kind seat number value in
    first_held_lem b r ∙ held_behind (early_grounds r) (room_grounds b (event r)) refl
    ∙ sym (ap₂ (λ (x y : ℕ). pick (eqb x 0) y x) (early_held r) (room_held b (event r)))

short_early : (n : ℕ) → eqb (early short) 0 ≡ true → n ≡ 0
unfolding early refusal_by first_of pick
short_early n none = absurd (never none)

-- a record that the bench itself refuses
pub refused_early : (b : Bench) (r : Record) → eqb (early r) 0 ≡ false → refusal b r ≡ early r
unfolding refusal grounds early
refused_early b (whole kind seat number value) some = by_both b kind seat number value ∙ pick_false _ _ _ some
refused_early b short some = refl

-- one that it takes is refused by its room or not at all
pub refused_late : (b : Bench) (r : Record) → eqb (early r) 0 ≡ true → refusal b r ≡ room_refusal b (event r)
refused_late b (whole kind seat number value) none = by_both b kind seat number value ∙ pick_true _ _ _ none
refused_late b short none = short_early (refusal b short) none ∙ sym (short_early (room_refusal b (event short)) none)
