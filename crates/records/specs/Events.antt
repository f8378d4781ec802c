-- A record of four bytes, and the event that it stands for.
use Rattle.std.specs.Prelude.{ℕ, Bool, true, false, ◌&&◌, ◌≡◌, List, [], ◌∷◌, ltb, leb, eqb, Result, Ok, Err}
use Rattle.base.specs.Pick.{pick}
use Rattle.base.specs.Refusals.{seat_above_number, kind_above_number, short_number, number_of, Ground, refusal_by, joined}
use Rattle.base.specs.declared.Refusal.{Refusal}
use Rattle.base.specs.declared.Whole.{Whole}
use Rattle.registers.specs.declared.SeatEvent.TheVariants.{Read, Write, Arrival, Levels, Time}
use Rattle.records.specs.Kinds as kinds
use Rattle.records.specs.declared.Event.{Event}
use Rattle.records.specs.declared.Event.TheVariants.{OfSeat, MasterReset, ReadController, WriteController, Acknowledge}

-- "An event is a four-byte record: kind, seat, number, value."; or a "record of 1 to 3 bytes at the end of input"
pub data Record : Type 0 where
  whole : ℕ → ℕ → ℕ → ℕ → Record
  short : Record

-- "kind, seat, number, value", all four of them
abbrev pub record_of : Whole → Record
record_of w = whole w.kind w.seat w.number w.value

-- "Eight seats, 0 to 7."
abbrev pub seat_count : ℕ
seat_count = 8

-- "kind above 8"
abbrev pub kind_above : ℕ → Bool
kind_above kind = ltb kinds.acknowledge_kind kind

-- the kinds that use the seat, which stand before master reset: "read register", "write register", "character arrives", "modem inputs",
-- "one character time passes"
abbrev pub uses_seat : ℕ → Bool
uses_seat kind = ltb kind kinds.master_reset_kind

-- "seat (or line) above 7": a number that no seat has
abbrev pub seat_above : ℕ → Bool
seat_above seat = leb seat_count seat

-- what decoding refuses: "record of 1 to 3 bytes at the end of input"; "kind above 8"; and the seat, where the kind uses it. The next in the
-- order, "register above 7, port above 1", is the rooms' own
abbrev pub early_grounds : Record → List Ground
early_grounds (whole kind seat number value) =
    record { number = kind_above_number; holds = kind_above kind } ∷ record { number = seat_above_number; holds = uses_seat kind && seat_above seat } ∷ []
early_grounds short = record { number = short_number; holds = true } ∷ []

unfoldable pub early : Record → ℕ
early r = refusal_by (early_grounds r)

-- "0 read register seat, register, - the byte"; "1 write register seat, register, byte 000";
-- "2 character arrives seat, marks (1 parity, 2 framing, 4 break), data 000";
-- "3 modem inputs seat, -, levels (1 CTS, 2 DSR, 4 RI, 8 DCD; set = active) 000";
-- "4 one character time passes seat the byte sent; 100 idle; 200 break"; "5 master reset of all eight seats none 000";
-- "6 read controller -, port the byte"; "7 write controller -, port, byte 000"; "8 acknowledge none the vector; 100 + vector if spurious"
unfoldable pub event_of : ℕ → ℕ → ℕ → ℕ → Event
event_of kind seat number value =
    pick (eqb kind kinds.read_register_kind) (OfSeat seat (Read number))
    (pick (eqb kind kinds.write_register_kind) (OfSeat seat (Write number value))
    (pick (eqb kind kinds.arrival_kind) (OfSeat seat (Arrival number value))
    (pick (eqb kind kinds.modem_inputs_kind) (OfSeat seat (Levels value))
    (pick (eqb kind kinds.character_time_kind) (OfSeat seat Time)
    (pick (eqb kind kinds.master_reset_kind) MasterReset
    (pick (eqb kind kinds.read_controller_kind) (ReadController number)
    (pick (eqb kind kinds.write_controller_kind) (WriteController number value)
    Acknowledge)))))))

-- the event of a record; of a short one there is none, and the one named here is never asked for
abbrev pub event : Record → Event
event (whole kind seat number value) = event_of kind seat number value
event short = Acknowledge

-- a record decoded: its event, or the number of its refusal
abbrev pub Decoded : Type 0
Decoded = Result Event ℕ

-- refused by itself, or taken as its event
unfoldable pub decoded : Record → Decoded
decoded r = joined (early r) (Ok (event r)) Err

-- the number of the refusal, "0 for none"
unfoldable pub refused_number : Decoded → ℕ
refused_number (Ok e) = 0
refused_number (Err n) = n

-- what the code has in place of a number: the refusal itself
unfoldable pub numbered : Result Event Refusal → Decoded
numbered (Ok e) = Ok e
numbered (Err r) = Err (number_of r)

-- what a whole record's conversion to an event gives
abbrev pub Decodes : Whole → Result Event Refusal → Type 0
Decodes w d = numbered d ≡ decoded (record_of w)

-- the seat that a record names; a short one names none, and the one given here stays as it is
abbrev pub seat_named : Record → ℕ
seat_named (whole kind seat number value) = seat
seat_named short = 0

-- a record that is a master reset
abbrev pub resets : Record → Bool
resets (whole kind seat number value) = eqb kind kinds.master_reset_kind
resets short = false
