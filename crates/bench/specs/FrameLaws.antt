-- What an event leaves alone: a seat event the other seats, a controller event every seat; a master reset acts seat by seat.
use Rattle.std.specs.Prelude.{ℕ, zero, suc, ◌<◌, true, false, List, [], ◌∷◌, map, ◌≡◌, refl, eqb, length, set, Ok, Err}
use Rattle.std.proofs.Math.Path.{ap}
use Rattle.std.proofs.Common.{sym, subst, ◌∙◌, ⊎_elim, le_of_suc-le-suc, not-suc-le-zero, arith, length-set, get_or-set_other, eqb-true}
use Rattle.std.proofs.Math.ListN.{get_or}
use Rattle.std.proofs.Math.Seq.{get_or-set_same}
use Rattle.std.proofs.lemmas.Bool.{eqb-false}
use Rattle.base.specs.Pick.{pick}
use Rattle.base.specs.Refusals.{first_of, refusal_by}
use Rattle.base.specs.PickLaws.{pick_true, pick_false, pick_through, pick_same, either_way}
use Rattle.registers.specs.declared.SeatEvent.{SeatEvent}
use Rattle.seat.specs.declared.Seat.{Seat}
use Rattle.seat.specs.Seats.{no_seat, reset}
use Rattle.seat.specs.Steps.{stepped}
use Rattle.seat.specs.Acts.{acted_all}
use Rattle.records.specs.declared.Event.TheVariants.{OfSeat, MasterReset, ReadController, WriteController, Acknowledge}
use Rattle.records.specs.Events.{seat_count, Decoded}
use Rattle.records.specs.TouchLaws.{touched_seat}
use Rattle.bench.specs.declared.Bench.{Bench}
use Rattle.bench.specs.declared.Outcome.{Outcome}
use Rattle.bench.specs.Refusals.{room_grounds}
use Rattle.bench.specs.Seats.{chair, seat, with_seat}
use Rattle.bench.specs.Steps.{room_refusal, after, met, dealt}
use Rattle.bench.specs.Runs.{own}
use Rattle.bench.specs.MeetLaws.{seat_met}

-- ---- lists of seats, of any length

pub mapped_at : {A B : Type 0} (f : A → B) (l : List A) (n : ℕ) (d : A) (d' : B) → n < length l → get_or (map f l) n d' ≡ f (get_or l n d)
mapped_at f [] n d d' h = absurd (not-suc-le-zero h)
mapped_at f (x ∷ l) zero d d' h = refl
mapped_at f (x ∷ l) (suc n) d d' h = mapped_at f l n d d' (le_of_suc-le-suc h)

pub mapped_length : {A B : Type 0} (f : A → B) (l : List A) → length (map f l) ≡ length l
mapped_length f [] = refl
mapped_length f (x ∷ l) = ap suc (mapped_length f l)

pub chair_small : (n : ℕ) → chair n < seat_count
chair_small n = omega arith

-- "Eight seats, 0 to 7.": each has a chair of its own
pub chair_own : (n : ℕ) → n < seat_count → chair n ≡ n
chair_own n seat = omega arith

-- ---- an event on a seat

-- the seats after it: one chair is new
pub seats_after : (b : Bench) (n : ℕ) (e : SeatEvent)
    → (met b (OfSeat n e)).bench.seats ≡ set b.seats (chair n) (stepped (seat b n) e).seat
unfolding with_seat
seats_after b n e =
    ap (λ (o : Outcome). o.bench.seats) (sym (seat_met b n e)) ∙ ap (set b.seats (chair n)) (touched_seat (seat b n) b.controller n e)

module _ (b : Bench) (all : length b.seats ≡ seat_count) where
  within : (n : ℕ) → chair n < length b.seats
  within n = subst (λ (k : ℕ). chair n < k) (sym all) (chair_small n)

  pub own_seat : (n : ℕ) (e : SeatEvent) → seat (met b (OfSeat n e)).bench n ≡ (stepped (seat b n) e).seat
  unfolding seat
  own_seat n e = ap (λ l. get_or l (chair n) no_seat) (seats_after b n e) ∙ get_or-set_same b.seats (chair n) _ no_seat (within n)

  -- a master reset acts on each seat by itself
  pub reset_seat : (n : ℕ) → seat (met b MasterReset).bench n ≡ reset (seat b n)
  unfolding met room_refusal room_grounds refusal_by first_of pick after seat
  reset_seat n = mapped_at reset b.seats (chair n) no_seat no_seat (within n)

-- an event on a seat leaves the others
pub other_seat : (b : Bench) (n m : ℕ) (e : SeatEvent) → (chair m ≡ chair n → ⊥) → seat (met b (OfSeat n e)).bench m ≡ seat b m
unfolding seat
other_seat b n m e apart = ap (λ l. get_or l (chair m) no_seat) (seats_after b n e) ∙ get_or-set_other b.seats (chair n) (chair m) _ no_seat apart

-- a controller event leaves every seat
module _ (b : Bench) where
  pub read_leaves : (port : ℕ) → (met b (ReadController port)).bench.seats ≡ b.seats
  unfolding met after
  read_leaves port = pick_through (λ (o : Outcome). o.bench.seats) (eqb (room_refusal b (ReadController port)) 0) _ _ ∙ pick_same _ b.seats

  pub write_leaves : (port byte : ℕ) → (met b (WriteController port byte)).bench.seats ≡ b.seats
  unfolding met after
  write_leaves port byte = pick_through (λ (o : Outcome). o.bench.seats) (eqb (room_refusal b (WriteController port byte)) 0) _ _ ∙ pick_same _ b.seats

  pub acknowledge_leaves : (met b Acknowledge).bench.seats ≡ b.seats
  unfolding met after
  acknowledge_leaves = pick_through (λ (o : Outcome). o.bench.seats) (eqb (room_refusal b Acknowledge) 0) _ _ ∙ pick_same _ b.seats

-- ---- any decoded record, seen from one seat

reset_length : (b : Bench) → length (met b MasterReset).bench.seats ≡ length b.seats
unfolding met room_refusal room_grounds refusal_by first_of pick after
reset_length b = mapped_length reset b.seats

-- how many seats there are stays
pub as_many : (b : Bench) (d : Decoded) → length (dealt b d).bench.seats ≡ length b.seats
unfolding dealt
as_many b (Ok (OfSeat n e)) = ap length (seats_after b n e) ∙ length-set b.seats (chair n) _
as_many b (Ok MasterReset) = reset_length b
as_many b (Ok (ReadController port)) = ap length (read_leaves b port)
as_many b (Ok (WriteController port byte)) = ap length (write_leaves b port byte)
as_many b (Ok Acknowledge) = ap length (acknowledge_leaves b)
as_many b (Err number) = refl

-- the seats decide what stands at each
seat_by_seats : (a b : Bench) (n : ℕ) → a.seats ≡ b.seats → seat a n ≡ seat b n
unfolding seat
seat_by_seats a b n e = ap (λ l. get_or l (chair n) no_seat) e

pub seat_by_chair : (b : Bench) (m n : ℕ) → chair m ≡ chair n → seat b m ≡ seat b n
unfolding seat
seat_by_chair b m n e = ap (λ (k : ℕ). get_or b.seats k no_seat) e

-- seat n after a record is seat n after what the record does to seat n
pub seat_acts : (b : Bench) → length b.seats ≡ seat_count → (n : ℕ) (d : Decoded)
    → seat (dealt b d).bench n ≡ acted_all (seat b n) (own (chair n) d)
unfolding dealt own
seat_acts b all n (Ok (OfSeat m e)) =
    ⊎_elim
    (λ (here : eqb (chair m) (chair n) ≡ true).
    let same : chair m ≡ chair n = eqb-true _ _ here in
    seat_by_chair (met b (OfSeat m e)).bench n m (sym same) ∙ own_seat b all m e
    ∙ ap (λ (s : Seat). (stepped s e).seat) (seat_by_chair b m n same)
    ∙ sym (ap (acted_all (seat b n)) (pick_true _ _ _ here)))
    (λ (elsewhere : eqb (chair m) (chair n) ≡ false).
    other_seat b m n e (λ z. eqb-false _ _ elsewhere (sym z)) ∙ sym (ap (acted_all (seat b n)) (pick_false _ _ _ elsewhere)))
    (either_way (eqb (chair m) (chair n)))
seat_acts b all n (Ok MasterReset) = reset_seat b all n
seat_acts b all n (Ok (ReadController port)) = seat_by_seats _ b n (read_leaves b port)
seat_acts b all n (Ok (WriteController port byte)) = seat_by_seats _ b n (write_leaves b port byte)
seat_acts b all n (Ok Acknowledge) = seat_by_seats _ b n (acknowledge_leaves b)
seat_acts b all n (Err number) = refl
