-- A record's outcome is what it makes of its seat and the controller, stored back; a master reset resets the other seats besides.
use Rattle.std.specs.Prelude.{ℕ, zero, suc, Bool, true, false, List, [], ◌∷◌, map, ◌⊎◌, ◌≡◌, refl, eqb, get_or, set, Ok}
use Rattle.std.proofs.Common.{inl, inr, ⊎_elim, ap, ap₂, sym, ◌∙◌, eqb-true}
use Rattle.base.specs.Pick.{pick}
use Rattle.base.specs.PickLaws.{pick_false, pick_either, never, either_way}
use Rattle.base.specs.Refusals.{first_of, refusal_by}
use Rattle.base.specs.declared.Answer.{Answer}
use Rattle.base.specs.declared.Answer.TheVariants.{Done}
use Rattle.seat.specs.declared.Seat.{Seat}
use Rattle.seat.specs.Seats.{no_seat, reset}
use Rattle.controller.specs.declared.Controller.{Controller}
use Rattle.controller.specs.declared.Signalled as controller
use Rattle.controller.specs.Signals.{read, write, acknowledge}
use Rattle.controller.specs.Steps.{step}
use Rattle.controller.specs.Turns.{settled, output_of}
use Rattle.records.specs.declared.Touched.{Touched}
use Rattle.records.specs.declared.Event.{Event}
use Rattle.records.specs.declared.Event.TheVariants.{MasterReset, ReadController, WriteController, Acknowledge}
use Rattle.records.specs.Events.{Record, whole, short, early, event, event_of, decoded, seat_named, resets, Decoded}
use Rattle.records.specs.Parts.{besides, met_parts, dealt_parts, parted}
use Rattle.bench.specs.declared.Bench.{Bench}
use Rattle.bench.specs.declared.Outcome.{Outcome}
use Rattle.bench.specs.Seats.{chair, seat, with_seat, with_controller}
use Rattle.bench.specs.Refusals.{room_grounds}
use Rattle.bench.specs.Steps.{shown, after, answer_to, room_refusal, met, outcome, dealt}
use Rattle.bench.specs.LevelLaws.{reset_silent}
use Rattle.bench.specs.MeetLaws.{seat_back, seat_met, read_met, write_met, acknowledge_met, outcome_dealt}
use Rattle.bench.specs.Parts.{stored, partly}

module _ (b : Bench) (n : ℕ) where
  -- what is stored is what is met, or dealt
  abbrev Same : Event → Type 0
  Same e = stored b n (met_parts (seat b n) b.controller e) ≡ met b e

  abbrev SameDealt : Decoded → Type 0
  SameDealt d = stored b n (dealt_parts (seat b n) b.controller d) ≡ dealt b d

  -- where the seat stays, the bench with another controller is shown
  beside : (c : Controller) (a : Answer) → shown (with_controller (with_seat b n (seat b n)) c) a ≡ shown (with_controller b c) a
  beside c a = ap (λ (d : Bench). shown (with_controller d c) a) (seat_back b n)

  moved : (t : controller.Signalled) → stored b n (besides (seat b n) t) ≡ shown (with_controller b t.controller) t.answer
  moved t = beside t.controller t.answer

  read_same : (port : ℕ) → Same (ReadController port)
  unfolding met_parts
  read_same port = beside b.controller (step b.controller (read port)).answer ∙ read_met b port

  write_same : (port byte : ℕ) → Same (WriteController port byte)
  unfolding met_parts
  write_same port byte = moved (step b.controller (write port byte)) ∙ write_met b port byte

  acknowledge_same : Same Acknowledge
  unfolding met_parts
  acknowledge_same = moved (step b.controller acknowledge) ∙ acknowledge_met b

  event_same : (kind number value : ℕ) → eqb kind 5 ≡ false → Same (event_of kind n number value)
  unfolding event_of met_parts
  event_same kind number value other =
      pick_either Same (eqb kind 0) _ _ (seat_met b n _)
      (pick_either Same (eqb kind 1) _ _ (seat_met b n _)
      (pick_either Same (eqb kind 2) _ _ (seat_met b n _)
      (pick_either Same (eqb kind 3) _ _ (seat_met b n _)
      (pick_either Same (eqb kind 4) _ _ (seat_met b n _)
      (rw (pick_false _ _ _ other)
      (pick_either Same (eqb kind 6) _ _ (read_same number)
      (pick_either Same (eqb kind 7) _ _ (write_same number value) acknowledge_same)))))))

  taken_same : (r : Record) → Same (event r) → SameDealt (decoded r)
  unfolding decoded dealt_parts dealt
  taken_same r same = pick_either SameDealt (eqb (early r) 0) _ _ same (beside b.controller _)

record_same : (b : Bench) (r : Record) → resets r ≡ false → Same b (seat_named r) (event r)
record_same b (whole kind n number value) other = event_same b n kind number value other
record_same b short other = acknowledge_same b 0

pub parted_outcome : (b : Bench) (r : Record) → resets r ≡ false → partly b r ≡ outcome b r
parted_outcome b r other = taken_same b (seat_named r) r (record_same b r other) ∙ sym (outcome_dealt b r)

-- kind 5 is a master reset, whatever the other bytes
decoded_5 : (s n v : ℕ) → decoded (whole 5 s n v) ≡ Ok MasterReset
unfolding decoded early event_of refusal_by first_of pick
decoded_5 s n v = refl

pub reset_outcome : (b : Bench) (s n v : ℕ) → outcome b (whole 5 s n v) ≡ met b MasterReset
unfolding dealt
reset_outcome b s n v = outcome_dealt b (whole 5 s n v) ∙ ap (dealt b) (decoded_5 s n v)

pub resets_met : (b : Bench) (r : Record) → resets r ≡ true → met b MasterReset ≡ outcome b r
resets_met b (whole kind n number value) held =
    sym (ap (λ (k : ℕ). outcome b (whole k n number value)) (eqb-true kind 5 held) ∙ reset_outcome b n number value)
resets_met b short held = absurd (never held)

-- the same as code has it: the seat's number and its chair, what was touched, and the output, each by what it equals
pub parts_stored : (b : Bench) (r : Record) (m i : ℕ) (t : Touched) (high : Bool) → m ≡ seat_named r → i ≡ chair m → t ≡ parted (get_or b.seats i no_seat) b.controller r → high ≡ output_of t.controller
    → resets r ≡ false → ◌≡◌ {A = Outcome} (record { bench = record { seats = set b.seats i t.seat; controller = t.controller }; answer = t.answer; output = high }) (outcome b r)
unfolding seat with_seat
parts_stored b r m i t high named sits is shows other =
    let at : i ≡ chair (seat_named r) = sits ∙ ap chair named in
    ap {B = Outcome} (λ (x : Bool). record { bench = record { seats = set b.seats i t.seat; controller = t.controller }; answer = t.answer; output = x }) shows
    ∙ ap (λ (k : ℕ). shown (record { seats = set b.seats k t.seat; controller = t.controller }) t.answer) at
    ∙ ap (stored b (seat_named r)) (is ∙ ap (λ (k : ℕ). parted (get_or b.seats k no_seat) b.controller r) at)
    ∙ parted_outcome b r other

-- ---- a master reset

-- what was moved like all the others is there already
moved_alike : {A : Type 0} (f : A → A) (l : List A) (k : ℕ) (d : A) → set (map f l) k (f (get_or l k d)) ≡ map f l
moved_alike f [] k d = refl
moved_alike f (x ∷ l) zero d = refl
moved_alike f (x ∷ l) (suc k) d = ap (λ r. f x ∷ r) (moved_alike f l k d)

-- the seat and the controller of a master reset
reset_parted : (s : Seat) (c : Controller) (r : Record) → resets r ≡ true → parted s c r ≡ record { seat = reset s; controller = settled c 0; answer = Done }
unfolding dealt_parts met_parts
reset_parted s c (whole kind n number value) held = rw (eqb-true kind 5 held) (ap (dealt_parts s c) (decoded_5 n number value))
reset_parted s c short held = absurd (never held)

pub reset_shown : (b : Bench) → met b MasterReset ≡ shown (record { seats = map reset b.seats; controller = settled b.controller 0 }) Done
unfolding met room_refusal room_grounds refusal_by first_of pick after answer_to
reset_shown b = ap (λ (k : ℕ). shown (record { seats = map reset b.seats; controller = settled b.controller k }) Done) (reset_silent b.seats)

-- the same as code has it: every seat reset, and what was touched stored over one of them
pub reset_stored : (b : Bench) (r : Record) (i : ℕ) (t : Touched) (high : Bool) → t ≡ parted (get_or b.seats i no_seat) b.controller r → high ≡ output_of t.controller
    → resets r ≡ true → ◌≡◌ {A = Outcome} (record { bench = record { seats = set (map reset b.seats) i t.seat; controller = t.controller }; answer = t.answer; output = high }) (outcome b r)
reset_stored b r i t high is shows held =
    ap {B = Outcome} (λ (x : Bool). record { bench = record { seats = set (map reset b.seats) i t.seat; controller = t.controller }; answer = t.answer; output = x }) shows
    ∙ ap (λ (x : Touched). shown (record { seats = set (map reset b.seats) i x.seat; controller = x.controller }) x.answer)
    (is ∙ reset_parted (get_or b.seats i no_seat) b.controller r held)
    ∙ ap (λ (l : List Seat). shown (record { seats = l; controller = settled b.controller 0 }) Done) (moved_alike reset b.seats i no_seat)
    ∙ sym (reset_shown b)
    ∙ resets_met b r held

-- whatever the record, its answer and the output are told by the parts alone
pub parts_told : (b : Bench) (r : Record) (m i : ℕ) (t : Touched) (high : Bool) → m ≡ seat_named r → i ≡ chair m → t ≡ parted (get_or b.seats i no_seat) b.controller r → high ≡ output_of t.controller
    → (t.answer ≡ (outcome b r).answer) × (high ≡ (outcome b r).output)
parts_told b r m i t high named sits is shows =
    ⊎_elim
    (λ (held : resets r ≡ true).
    let o = reset_stored b r i t high is shows held in (ap (λ (x : Outcome). x.answer) o, ap (λ (x : Outcome). x.output) o))
    (λ (other : resets r ≡ false).
    let o = parts_stored b r m i t high named sits is shows other in (ap (λ (x : Outcome). x.answer) o, ap (λ (x : Outcome). x.output) o))
    (either_way (resets r))

-- so the parts are stored over the seats as they were, or over all of them reset; `was` is whichever way the code went
pub either_stored : {A B : Type 0} (b b' : Bench) (r : Record) (m i : ℕ) (t : Touched) → m ≡ seat_named r → i ≡ chair m → t ≡ parted (get_or b.seats i no_seat) b.controller r → (was : A ⊎ B)
    → (A → (resets r ≡ true) × (b'.seats ≡ map reset b.seats)) → (B → (resets r ≡ false) × (b'.seats ≡ b.seats))
    → ◌≡◌ {A = Bench} (record { seats = set b'.seats i t.seat; controller = t.controller }) (outcome b r).bench
either_stored b b' r m i t named sits is (inl x) reset-all untouched =
    rw (reset-all x).1 (ap (λ (o : Outcome). o.bench) (reset_stored b r i t _ is refl (reset-all x).0))
either_stored b b' r m i t named sits is (inr y) reset-all untouched =
    rw (untouched y).1 (ap (λ (o : Outcome). o.bench) (parts_stored b r m i t _ named sits is refl (untouched y).0))
