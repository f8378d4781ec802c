-- Ticket 9: two lessons in which one seat is set alike and the same happens to it. What the others do, and what the controller is told, may differ.
use Rattle.std.specs.Prelude.{ℕ, ◌<◌, Bool, List, [], ◌∷◌, ◌++◌, map, ◌≡◌, eqb, length, take, drop}
use Rattle.base.specs.Pick.{pick}
use Rattle.base.specs.declared.Answer.{Answer}
use Rattle.base.specs.declared.Answer.TheVariants.{Byte, Letter, Done, Sent, Idle, Break, Vector, Spurious, Place, Divisor, Refused}
use Rattle.queue.specs.declared.Character.{Character}
use Rattle.receiver.specs.Ledger.{held}
use Rattle.seat.specs.declared.Five.{Five}
use Rattle.seat.specs.Acts.{Act}
use Rattle.seat.specs.Receiving.{side}
use Rattle.seat.specs.Seats.{line}
use Rattle.records.specs.Events.{decoded, seat_count}
use Rattle.bench.specs.declared.Bench.{Bench}
use Rattle.bench.specs.declared.Outcome.{Outcome}
use Rattle.bench.specs.Seats.{seat}
use Rattle.bench.specs.Tallies.{tallies_of}
use Rattle.bench.specs.Runs.{own}
use Rattle.seat_image.specs.Read.{length_of}
use Rattle.image.specs.Layout.{version_of, place_in}
use Rattle.image.specs.Refusals.{refusal}
use Rattle.image.specs.Items.{Item, gives, restores, item_outcome, after_items}

-- a lesson: the bench that it starts with, and its items, which are records and restores. A save is none of them: it changes nothing
pub record Lesson : Type 0 where
  pub start : Bench
  pub items : List Item

-- ---- what happens to a seat

-- ticket 9: "one seat has the same events, master resets included"; "A restore is an event for each seat: the lessons must agree on its version, that seat's
-- record, and whether it is refused."
pub data Happening : Type 0 where
  does : Act → Happening
  reads : ℕ → List ℕ → Happening
  refuses : Happening

-- the bytes of seat n's record in an image, as long as its version has it
abbrev pub record_in : List ℕ → ℕ → List ℕ
record_in p n = take (length_of (version_of p)) (drop (place_in (version_of p) n) p)

abbrev pub restoring : List ℕ → ℕ → Happening
restoring p n = pick (eqb (refusal p) 0) (reads (version_of p) (record_in p n)) refuses

-- what happens to seat n by an item: nothing, where it is a record of another seat's, of the controller's, or of none
abbrev pub happening : ℕ → Item → List Happening
happening n (gives r) = map does (own n (decoded r))
happening n (restores l at) = restoring (drop at l) n ∷ []

abbrev pub happenings : ℕ → List Item → List Happening
happenings n [] = []
happenings n (i ∷ is) = happening n i ++ happenings n is

-- ---- what is seen of it

-- ticket 9: "register answers": those to the seat's own records, refused ones too, and to master resets; the answer to a restore is no register's
abbrev pub register_answers : Happening → Answer → List Answer
register_answers (does act) a = a ∷ []
register_answers (reads version bytes) a = []
register_answers refuses a = []

-- ticket 9: "characters sent"; document 01: "the byte sent; 100 idle; 200 break"
abbrev pub sent_by : Answer → List ℕ
sent_by (Byte b) = []
sent_by (Letter b f) = []
sent_by Done = []
sent_by (Sent b) = b ∷ []
sent_by Idle = []
sent_by Break = []
sent_by (Vector v) = []
sent_by (Spurious v) = []
sent_by (Place p) = []
sent_by (Divisor d) = []
sent_by (Refused n) = []

abbrev pub sent_in : List Answer → List ℕ
sent_in [] = []
sent_in (a ∷ rest) = sent_by a ++ sent_in rest

-- ticket 9: "that seat's register answers, characters sent, marks, tallies and line". The marks of a letter stand in its answer, and those that LSR shows in that; the
-- field has the marks of the characters that still wait, the oldest first. "Controller answers are left out", and so is the output
pub record View : Type 0 where
  pub answers : List Answer
  pub sent : List ℕ
  pub marks : List ℕ
  pub tallies : Five
  pub line : Bool

-- what is seen of seat n where this happens to it: the answer and the seat are those of the whole bench, by its outcome
abbrev pub view : ℕ → Outcome → Happening → View
view n o h =
    record {
      answers = register_answers h o.answer;
      sent = sent_in (register_answers h o.answer);
      marks = map (λ (ch : Character). ch.marks) (held (side (seat o.bench n)));
      tallies = (tallies_of o.bench n).five;
      line = line (seat o.bench n);
    }

-- at and after each of the seat's own items, in order; the answers are those of the whole bench in this lesson
abbrev pub views : ℕ → Bench → List Item → List View
views n b [] = []
views n b (i ∷ is) = map (view n (item_outcome b i)) (happening n i) ++ views n (item_outcome b i).bench is

-- ---- the statement

-- the bench has its eight seats: in a shorter list one that is not there could be taken for one that is
abbrev pub Whole : Lesson → Type 0
Whole l = length l.start.seats ≡ seat_count

-- ticket 9: "Both start with that seat set alike": all that a seat is; "one seat has the same events". Of the other seats and of the controller nothing is asked
pub record Alike (n : ℕ) (l m : Lesson) : Type 0 where
  pub set_alike : seat l.start n ≡ seat m.start n
  pub same_events : happenings n l.items ≡ happenings n m.items

-- ticket 9: "that seat's register answers, characters sent, marks, tallies and line are the same"; and what the seat is at the end. The beginning of a lesson is a lesson, so
-- that the seat is the same between its own items too, whatever the others have done
pub record Same (n : ℕ) (l m : Lesson) : Type 0 where
  pub seen : views n l.start l.items ≡ views n m.start m.items
  pub left : seat (after_items l.start l.items) n ≡ seat (after_items m.start m.items) n

-- ticket 9: "in two lessons where one seat has the same events, master resets included, and the others do anything": what is so of a seat in any two of these
abbrev pub InSuchLessons : (ℕ → Lesson → Lesson → Type 0) → Type 0
InSuchLessons So = (n : ℕ) (l m : Lesson) → n < seat_count → Whole l → Whole m → Alike n l m → So n l m

abbrev pub Neighbours : Type 0
Neighbours = InSuchLessons Same
