-- Ticket 9: what is seen of a seat, and what it is, follows from how it was set and what happened to it.
use Prim.Native.Nat.{ℕ, ◌<◌}
use mathlib.Core.Bool.{true, false}
use mathlib.Core.List.{List, [], ◌∷◌, ◌++◌, map}
use mathlib.Core.Logic.{⊎_elim}
use mathlib.Core.Path.{◌≡◌, refl, ap, ap₂, sym, ◌∙◌}
use native.Mathlib.Omega.{arith}
use lib.Dec.{eqb}
use lib.ListN.{length, get_or, take, drop, take-append-drop}
use lib.Seq.{length-take-le}
use borrow.Author.Tests.{eqb-true}
use Rattle.std.specs.Prelude.{Option, unwrap_or}
use Rattle.base.specs.declared.Answer.{Answer}
use Rattle.base.specs.declared.Answer.TheVariants.{Done}
use Rattle.base.specs.ListLaws.{listed, listed_length, listed_at}
use Rattle.base.specs.PickLaws.{pick_true, pick_false, either_way}
use Rattle.base.specs.Refusals.{first_of, refusal_by}
use Rattle.base.specs.Pick.{pick}
use Rattle.queue.specs.declared.Character.{Character}
use Rattle.receiver.specs.Ledger.{held}
use Rattle.seat.specs.declared.Seat.{Seat}
use Rattle.seat.specs.Acts.{Act, event, resets, acted, acted_all}
use Rattle.seat.specs.Receiving.{side}
use Rattle.seat.specs.Seats.{no_seat, line, power_up}
use Rattle.seat.specs.Steps.{stepped}
use Rattle.records.specs.declared.Event.TheVariants.{OfSeat, MasterReset, ReadController, WriteController, Acknowledge}
use Rattle.records.specs.Events.{decoded, seat_count, Decoded}
use Rattle.bench.specs.declared.Bench.{Bench}
use Rattle.bench.specs.declared.Outcome.{Outcome}
use Rattle.bench.specs.Refusals.{room_grounds}
use Rattle.bench.specs.Seats.{chair, seat}
use Rattle.bench.specs.Tallies.{tallied_by, tallies_of}
use Rattle.bench.specs.Steps.{room_refusal, answer_to, met, dealt}
use Rattle.bench.specs.Runs.{own}
use Rattle.bench.specs.DoneLaws.{seat_answer}
use Rattle.bench.specs.FrameLaws.{chair_own, seat_by_chair, seat_acts}
use Rattle.bench.specs.MeetLaws.{outcome_dealt}
use Rattle.bench.specs.RunLaws.{all_kept}
use Rattle.seat_image.specs.Read.{length_of, found}
use Rattle.seat_image.specs.ReadLaws.{found_front}
use Rattle.image.specs.declared.Restored.{Restored}
use Rattle.image.proofs.FieldLaws.{room_at}
use Rattle.image.specs.Items.{Item, gives, restores, item_outcome, after_items}
use Rattle.image.specs.Layout.{version_of, place_in}
use Rattle.image.specs.Read.{seat_at, seats_in, bench_from}
use Rattle.image.specs.Refusals as image
use Rattle.image.proofs.RestoredLaws.{taken_of, restored_taken, restored_left}
use Rattle.std.specs.Prelude.{Ok, Err}
use Rattle.demands.specs.Neighbours.{Happening, does, reads, refuses, record_in, restoring, happening, happenings, register_answers, sent_in, View, view, views, Neighbours}

-- ---- a seat by itself

-- the seat after what happens to it, and the answer to it
abbrev happened : Seat → Happening → Seat
happened s (does a) = acted s a
happened s (reads version bytes) = unwrap_or (found version bytes) power_up
happened s refuses = s

abbrev answered : Seat → Act → Answer
answered s (event e) = (stepped s e).answer
answered s resets = Done

abbrev says : Seat → Happening → List Answer
says s (does a) = answered s a ∷ []
says s (reads version bytes) = []
says s refuses = []

-- what is seen of seat n with these answers
abbrev looks : ℕ → List Answer → Seat → View
looks n answers s =
    record {
      answers = answers;
      sent = sent_in answers;
      marks = map (λ (ch : Character). ch.marks) (held (side s));
      tallies = (tallied_by s n).five;
      line = line s;
    }

abbrev sees : ℕ → Seat → List Happening → List View
sees n s [] = []
sees n s (h ∷ hs) = looks n (says s h) (happened s h) ∷ sees n (happened s h) hs

abbrev happened_all : Seat → List Happening → Seat
happened_all s [] = s
happened_all s (h ∷ hs) = happened_all (happened s h) hs

sees_both : (n : ℕ) (s : Seat) (hs ks : List Happening) → sees n s (hs ++ ks) ≡ sees n s hs ++ sees n (happened_all s hs) ks
sees_both n s [] ks = refl
sees_both n s (h ∷ hs) ks = ap (λ (l : List View). looks n (says s h) (happened s h) ∷ l) (sees_both n (happened s h) hs ks)

happened_both : (s : Seat) (hs ks : List Happening) → happened_all s (hs ++ ks) ≡ happened_all (happened_all s hs) ks
happened_both s [] ks = refl
happened_both s (h ∷ hs) ks = happened_both (happened s h) hs ks

-- one thing that happens on a bench is seen as it is of the seat by itself
one : (n : ℕ) (o : Outcome) (s : Seat) (h : Happening) → seat o.bench n ≡ happened s h → register_answers h o.answer ≡ says s h
    → map (view n o) (h ∷ []) ≡ sees n s (h ∷ [])
unfolding tallies_of
one n o s h stands answers = λ i. looks n (answers i) (stands i) ∷ []

module _ (n : ℕ) (there : n < seat_count) where
  -- ---- a record

  module _ (b : Bench) (all : length b.seats ≡ seat_count) where
    done_by : (d : Decoded) → seat (dealt b d).bench n ≡ happened_all (seat b n) (map does (own n d))
    done_by d = seat_acts b all n d ∙ ap (λ (k : ℕ). acted_all (seat b n) (own k d)) (chair_own n there) ∙ alone (seat b n) (own n d)
      where
        alone : (s : Seat) (acts : List Act) → acted_all s acts ≡ happened_all s (map does acts)
        alone s [] = refl
        alone s (a ∷ rest) = alone (acted s a) rest

    reset_answer : (met b MasterReset).answer ≡ Done
    unfolding met room_refusal room_grounds refusal_by first_of pick answer_to
    reset_answer = refl

    seen_by : (d : Decoded) → map (view n (dealt b d)) (map does (own n d)) ≡ sees n (seat b n) (map does (own n d))
    unfolding dealt own
    seen_by (Ok (OfSeat m e)) =
        ⊎_elim
        (λ (here : eqb (chair m) n ≡ true).
        let acts : own n (Ok (OfSeat m e)) ≡ event e ∷ [] = pick_true _ _ _ here in
        let same : chair m ≡ chair n = eqb-true _ _ here ∙ sym (chair_own n there) in
        let answer : (met b (OfSeat m e)).answer ≡ (stepped (seat b n) e).answer
        = seat_answer b m e ∙ ap (λ (s : Seat). (stepped s e).answer) (seat_by_chair b m n same) in
        ap (λ (l : List Act). map (view n (met b (OfSeat m e))) (map does l)) acts
        ∙ one n (met b (OfSeat m e)) (seat b n) (does (event e))
        (done_by (Ok (OfSeat m e)) ∙ ap (λ (l : List Act). happened_all (seat b n) (map does l)) acts)
        (ap (λ (a : Answer). a ∷ []) answer)
        ∙ sym (ap (λ (l : List Act). sees n (seat b n) (map does l)) acts))
        (λ (elsewhere : eqb (chair m) n ≡ false).
        let acts : own n (Ok (OfSeat m e)) ≡ [] = pick_false _ _ _ elsewhere in
        ap (λ (l : List Act). map (view n (met b (OfSeat m e))) (map does l)) acts ∙ sym (ap (λ (l : List Act). sees n (seat b n) (map does l)) acts))
        (either_way (eqb (chair m) n))
    seen_by (Ok MasterReset) =
        one n (met b MasterReset) (seat b n) (does resets) (done_by (Ok MasterReset)) (ap (λ (a : Answer). a ∷ []) reset_answer)
    seen_by (Ok (ReadController port)) = refl
    seen_by (Ok (WriteController port byte)) = refl
    seen_by (Ok Acknowledge) = refl
    seen_by (Err number) = refl

  -- ---- a restore

  -- the record is read by its own bytes and the version alone
  read_alone : (p : List ℕ) → image.refusal p ≡ 0 → seat (bench_from p) n ≡ unwrap_or (found (version_of p) (record_in p n)) power_up
  unfolding seat bench_from seats_in
  read_alone p none =
      let v = version_of p in
      let l = drop (place_in v n) p in
      let room = room_at p (taken_of p none).header.long n there in
      ap (λ (k : ℕ). get_or (listed seat_count (seat_at p)) k no_seat) (chair_own n there) ∙ listed_at seat_count (seat_at p) n no_seat there
      ∙ ap (λ (r : List ℕ). unwrap_or (found v r) power_up) (sym (take-append-drop (length_of v) l))
      ∙ ap (λ (o : Option Seat). unwrap_or o power_up) (found_front v (take (length_of v) l) (drop (length_of v) l) (omega (arith, length-take-le (length_of v) l room)))

  -- no register answers to it
  no_answer : (p : List ℕ) (a : Answer) (s : Seat) → register_answers (restoring p n) a ≡ says s (restoring p n)
  no_answer p a s =
      ⊎_elim
      (λ (none : eqb (image.refusal p) 0 ≡ true).
      ap (λ (h : Happening). register_answers h a) (pick_true _ _ _ none) ∙ sym (ap (says s) (pick_true _ _ _ none)))
      (λ (some : eqb (image.refusal p) 0 ≡ false).
      ap (λ (h : Happening). register_answers h a) (pick_false _ _ _ some) ∙ sym (ap (says s) (pick_false _ _ _ some)))
      (either_way (eqb (image.refusal p) 0))

  eight_read : (p : List ℕ) → length (bench_from p).seats ≡ seat_count
  unfolding bench_from seats_in
  eight_read p = listed_length seat_count (seat_at p)

  -- ---- any item

  module _ (b : Bench) (all : length b.seats ≡ seat_count) where
    stands_after : (i : Item) → seat (item_outcome b i).bench n ≡ happened_all (seat b n) (happening n i)
    stands_after (gives r) = ap (λ (o : Outcome). seat o.bench n) (outcome_dealt b r) ∙ done_by b all (decoded r)
    stands_after (restores l at) =
        let p = drop at l in
        ⊎_elim
        (λ (none : eqb (image.refusal p) 0 ≡ true).
        ap (λ (t : Restored). seat t.bench n) (restored_taken b p (eqb-true _ _ none)) ∙ read_alone p (eqb-true _ _ none)
        ∙ sym (ap (happened (seat b n)) (pick_true _ _ _ none)))
        (λ (some : eqb (image.refusal p) 0 ≡ false).
        ap (λ (t : Restored). seat t.bench n) (restored_left b p some) ∙ sym (ap (happened (seat b n)) (pick_false _ _ _ some)))
        (either_way (eqb (image.refusal p) 0))

    seen_of : (i : Item) → map (view n (item_outcome b i)) (happening n i) ≡ sees n (seat b n) (happening n i)
    seen_of (gives r) =
        ap (λ (o : Outcome). map (view n o) (happening n (gives r))) (outcome_dealt b r) ∙ seen_by b all (decoded r)
    seen_of (restores l at) =
        one n (item_outcome b (restores l at)) (seat b n) (restoring (drop at l) n) (stands_after (restores l at))
        (no_answer (drop at l) (item_outcome b (restores l at)).answer (seat b n))

    seats_stay : (i : Item) → length (item_outcome b i).bench.seats ≡ seat_count
    seats_stay (gives r) = all_kept b r ∙ all
    seats_stay (restores l at) =
        let p = drop at l in
        ⊎_elim
        (λ (none : eqb (image.refusal p) 0 ≡ true).
        ap (λ (t : Restored). length t.bench.seats) (restored_taken b p (eqb-true _ _ none)) ∙ eight_read p)
        (λ (some : eqb (image.refusal p) 0 ≡ false). ap (λ (t : Restored). length t.bench.seats) (restored_left b p some) ∙ all)
        (either_way (eqb (image.refusal p) 0))

  -- ---- a lesson

  all_seen : (b : Bench) → length b.seats ≡ seat_count → (is : List Item) → views n b is ≡ sees n (seat b n) (happenings n is)
  all_seen b all [] = refl
  all_seen b all (i ∷ is) =
      ap₂ ◌++◌ (seen_of b all i) (all_seen (item_outcome b i).bench (seats_stay b all i) is)
      ∙ ap (λ (s : Seat). sees n (seat b n) (happening n i) ++ sees n s (happenings n is)) (stands_after b all i)
      ∙ sym (sees_both n (seat b n) (happening n i) (happenings n is))

  all_left : (b : Bench) → length b.seats ≡ seat_count → (is : List Item) → seat (after_items b is) n ≡ happened_all (seat b n) (happenings n is)
  all_left b all [] = refl
  all_left b all (i ∷ is) =
      all_left (item_outcome b i).bench (seats_stay b all i) is
      ∙ ap (λ (s : Seat). happened_all s (happenings n is)) (stands_after b all i)
      ∙ sym (happened_both (seat b n) (happening n i) (happenings n is))

pub neighbours : Neighbours
neighbours n l m there all every alike =
    record {
      seen = all_seen n there l.start all l.items ∙ ap₂ (sees n) alike.set_alike alike.same_events ∙ sym (all_seen n there m.start every m.items);
      left = all_left n there l.start all l.items ∙ ap₂ happened_all alike.set_alike alike.same_events
          ∙ sym (all_left n there m.start every m.items);
    }
