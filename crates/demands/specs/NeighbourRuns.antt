-- Ticket 9 in closed runs: two lessons of seat 2 with different neighbours, what is seen of it in both, and what is not the same.
use Rattle.std.specs.Prelude.{ℕ, Bool, true, false, List, [], ◌∷◌, ◌++◌, map, ◌≡◌, replicate}
use Rattle.base.specs.Answers.{refusal_of, value_of}
use Rattle.base.specs.Bits.{digit}
use Rattle.base.specs.declared.Answer.{Answer}
use Rattle.base.specs.declared.Answer.TheVariants.{Byte, Letter, Done, Sent, Idle, Refused}
use Rattle.registers.specs.declared.SeatEvent.TheVariants.{Read, Write, Arrival, Time}
use Rattle.seat.specs.Acts.{event, resets}
use Rattle.records.specs.Events.{Record, whole, short}
use Rattle.bench.specs.declared.Bench.{Bench}
use Rattle.bench.specs.Seats.{power_up, seat}
use Rattle.bench.specs.Runs.{after_all}
use Rattle.image.specs.Items.{Item, restores, given, item_outcome}
use Rattle.demands.specs.Neighbours.{Lesson, Happening, does, reads, refuses, View, happening, happenings, views, Whole, Alike, Same, InSuchLessons}
use Rattle.demands.specs.Tallies.{five_at}
use Rattle.demands.specs.TallyRuns.{told}

-- ---- images

-- what a record of either version has of a channel: IER 01, LCR 0B, MCR 08, scratch 77, the divisor 1, and 42 received with a parity mark
abbrev pub kept : List ℕ
kept =
    (0x01 ∷ 0x00 ∷ 0x0B ∷ 0x08 ∷ 0x00 ∷ 0x77 ∷ 0x00 ∷ 0x01 ∷ [])
    ++ replicate 25 0
    ++ (1 ∷ 0x42 ∷ replicate 15 0)
    ++ (1 ∷ replicate 15 0)

-- five arrived, four read, one queued
abbrev pub kept_five : List ℕ
kept_five = (5 ∷ 0 ∷ 0 ∷ 0 ∷ 4 ∷ 0 ∷ 0 ∷ 0 ∷ []) ++ replicate 8 0 ++ (1 ∷ 0 ∷ 0 ∷ 0 ∷ [])

-- an image of version 2 with that record for seat 2; of the controller this stage and base, of seat 1 this scratch register, and of seat 3 this IER and scratch register
abbrev pub saved : ℕ → ℕ → ℕ → ℕ → ℕ → List ℕ
saved stage base before ier scratch =
    (0x42 ∷ 0x45 ∷ 0x4E ∷ 2 ∷ 0 ∷ stage ∷ 0 ∷ base ∷ [])
    ++ replicate 99 0
    ++ (before ∷ replicate 80 0)
    ++ kept
    ++ kept_five
    ++ (ier ∷ 0 ∷ 0 ∷ 0 ∷ 0 ∷ scratch ∷ [])
    ++ replicate 424 0

-- one of version 1, with seat 2 as before and seven seats as at power-up
abbrev pub older : List ℕ
older = (0x42 ∷ 0x45 ∷ 0x4E ∷ 1 ∷ 0 ∷ []) ++ replicate 143 0 ++ kept ++ replicate 330 0

-- ---- the two lessons

-- seat 2 has eight bits with odd parity, at divisor 12; all else is as at power-up
abbrev pub quiet_before : List Record
quiet_before = whole 1 2 3 0x8B ∷ whole 1 2 0 0x0C ∷ whole 1 2 3 0x0B ∷ []

-- seat 2 alone, and a controller that nobody has set up: its line is let through; 41 arrives with a parity mark, and one with marks 8 is refused; what is no image is
-- refused, by 13; 41 is read, and 5A is sent; an image is read; the scratch register; a master reset; IIR
abbrev pub quiet : Lesson
quiet =
    record {
      start = after_all power_up quiet_before;
      items =
          given (whole 1 2 4 0x08 ∷ whole 1 2 1 0x01 ∷ whole 2 2 1 0x41 ∷ whole 2 2 8 0x41 ∷ [])
          ++ (restores (replicate 5 0) 0 ∷ [])
          ++ given (whole 0 2 0 0 ∷ whole 1 2 0 0x5A ∷ whole 4 2 0 0 ∷ whole 4 2 0 0 ∷ [])
          ++ (restores (saved 0 0 0 0 0) 0 ∷ [])
          ++ given (whole 0 2 7 0 ∷ whole 5 0 0 0 ∷ whole 0 2 2 0 ∷ []);
    }

-- base 40, edge mode; seat 3 has its line let through, and 55 has arrived there; seat 1 has 33 in its scratch register, and seat 2 is as before
abbrev pub busy_before : List Record
busy_before =
    whole 7 0 0 0x13
    ∷ whole 7 0 1 0x40
    ∷ whole 7 0 1 0x01
    ∷ whole 1 3 3 0x83
    ∷ whole 1 3 0 0x0C
    ∷ whole 1 3 3 0x03
    ∷ whole 1 3 4 0x08
    ∷ whole 1 3 1 0x01
    ∷ whole 2 3 0 0x55
    ∷ whole 1 1 7 0x33
    ∷ whole 1 2 3 0x8B
    ∷ whole 1 2 0 0x0C
    ∷ whole 1 2 3 0x0B
    ∷ []

-- the same of seat 2 among other events: another character at seat 3, records that are no event, and a seat that is not there; line 2 is granted as soon as it rises,
-- and ended; an image is refused by 15, for seat 3's record alone; the image that is read has other neighbours and another controller
abbrev pub busy : Lesson
busy =
    record {
      start = after_all power_up busy_before;
      items =
          given
          (whole 2 3 0 0x66
          ∷ short
          ∷ whole 1 2 4 0x08
          ∷ whole 9 2 0 0
          ∷ whole 1 2 1 0x01
          ∷ whole 0 10 0 0
          ∷ whole 2 2 1 0x41
          ∷ whole 8 0 0 0
          ∷ whole 2 2 8 0x41
          ∷ [])
          ++ (restores (saved 3 0x40 0x44 0x10 0) 0 ∷ [])
          ++ given
          (whole 7 0 0 0x20
          ∷ whole 0 2 0 0
          ∷ whole 1 2 0 0x5A
          ∷ whole 0 3 5 0
          ∷ whole 4 2 0 0
          ∷ whole 4 3 0 0
          ∷ whole 4 2 0 0
          ∷ [])
          ++ (restores (0xFF ∷ saved 3 0x40 0x44 0x01 0x11) 1 ∷ [])
          ++ given (whole 0 2 7 0 ∷ whole 1 3 7 0x22 ∷ whole 5 9 9 9 ∷ whole 8 0 0 0 ∷ whole 0 2 2 0 ∷ []);
    }

-- ---- what happens to seat 2

-- in both, item by item
abbrev pub happened : List Happening
happened =
    does (event (Write 4 0x08))
    ∷ does (event (Write 1 0x01))
    ∷ does (event (Arrival 1 0x41))
    ∷ does (event (Arrival 8 0x41))
    ∷ refuses
    ∷ does (event (Read 0))
    ∷ does (event (Write 0 0x5A))
    ∷ does (event Time)
    ∷ does (event Time)
    ∷ reads 2 (kept ++ kept_five)
    ∷ does (event (Read 7))
    ∷ does resets
    ∷ does (event (Read 2))
    ∷ []

-- ---- what is seen of seat 2

-- the five in the order of the ticket
abbrev pub seen_as : List Answer → List ℕ → List ℕ → ℕ → ℕ → ℕ → ℕ → ℕ → Bool → View
seen_as answers sent marks arrived read lost dropped queued high =
    record {
      answers = answers;
      sent = sent;
      marks = marks;
      tallies = record { arrived = arrived; read = read; lost = lost; dropped = dropped; queued = queued };
      line = high;
    }

-- item by item; the two without an answer are the restores
abbrev pub expected : List View
expected =
    seen_as (Done ∷ []) [] [] 0 0 0 0 0 false
    ∷ seen_as (Done ∷ []) [] [] 0 0 0 0 0 false
    ∷ seen_as (Done ∷ []) [] (1 ∷ []) 1 0 0 0 1 true
    ∷ seen_as (Refused 6 ∷ []) [] (1 ∷ []) 1 0 0 0 1 true
    ∷ seen_as [] [] (1 ∷ []) 1 0 0 0 1 true
    ∷ seen_as (Letter 0x41 (record { marks = 1; behind = 0 }) ∷ []) [] [] 1 1 0 0 0 false
    ∷ seen_as (Done ∷ []) [] [] 1 1 0 0 0 false
    ∷ seen_as (Idle ∷ []) [] [] 1 1 0 0 0 false
    ∷ seen_as (Sent 0x5A ∷ []) (0x5A ∷ []) [] 1 1 0 0 0 false
    ∷ seen_as [] [] (1 ∷ []) 5 4 0 0 1 true
    ∷ seen_as (Byte 0x77 ∷ []) [] (1 ∷ []) 5 4 0 0 1 true
    ∷ seen_as (Done ∷ []) [] [] 5 4 0 1 0 false
    ∷ seen_as (Byte 0x01 ∷ []) [] [] 5 4 0 1 0 false
    ∷ []

-- the premises are met by the two, so that whatever is said of such lessons is said of these (`spoken_of`); and the statement says this of them
pub record NeighboursMet : Type 0 where
  pub quiet_whole : Whole quiet
  pub busy_whole : Whole busy
  pub quiet_happens : happenings 2 quiet.items ≡ happened
  pub busy_happens : happenings 2 busy.items ≡ happened
  pub alike : Alike 2 quiet busy
  pub spoken_of : InSuchLessons (λ n l m. n ≡ 2 → l ≡ quiet → m ≡ busy → ⊥) → ⊥
  pub same : Same 2 quiet busy
  pub seen : views 2 busy.start busy.items ≡ expected

-- ---- what is not the same

-- the output after each of the seat's own items, in order, and the number that it is refused by
abbrev pub outputs_at : ℕ → Bench → List Item → List ℕ
outputs_at n b [] = []
outputs_at n b (i ∷ is) =
    map (λ (h : Happening). digit (item_outcome b i).output) (happening n i) ++ outputs_at n (item_outcome b i).bench is

abbrev pub refusals_at : ℕ → Bench → List Item → List ℕ
refusals_at n b [] = []
refusals_at n b (i ∷ is) =
    map (λ (h : Happening). refusal_of (item_outcome b i).answer) (happening n i) ++ refusals_at n (item_outcome b i).bench is

-- seat 3 is set otherwise, the outputs differ at the seat's own items, and so does the number by which a restore is refused. A premise that fixes the other seats too would
-- not speak of these two lessons; a statement whose answers carry the output, or whose restores tell their number, would be false of them
pub record NoMoreAlike : Type 0 where
  pub quiet_neighbour : told (five_at 3 quiet.start) ≡ 0 ∷ 0 ∷ 0 ∷ 0 ∷ 0 ∷ []
  pub busy_neighbour : told (five_at 3 busy.start) ≡ 1 ∷ 0 ∷ 0 ∷ 0 ∷ 1 ∷ []
  pub neighbours_fixed : ((k : ℕ) → seat quiet.start k ≡ seat busy.start k) → ⊥
  pub quiet_outputs : outputs_at 2 quiet.start quiet.items ≡ 0 ∷ 0 ∷ 0 ∷ 0 ∷ 0 ∷ 0 ∷ 0 ∷ 0 ∷ 0 ∷ 0 ∷ 0 ∷ 0 ∷ 0 ∷ []
  pub busy_outputs : outputs_at 2 busy.start busy.items ≡ 1 ∷ 1 ∷ 1 ∷ 0 ∷ 0 ∷ 1 ∷ 1 ∷ 1 ∷ 1 ∷ 0 ∷ 0 ∷ 0 ∷ 0 ∷ []
  pub outputs_carried : outputs_at 2 quiet.start quiet.items ≡ outputs_at 2 busy.start busy.items → ⊥
  pub quiet_refusals : refusals_at 2 quiet.start quiet.items ≡ 0 ∷ 0 ∷ 0 ∷ 6 ∷ 13 ∷ 0 ∷ 0 ∷ 0 ∷ 0 ∷ 0 ∷ 0 ∷ 0 ∷ 0 ∷ []
  pub busy_refusals : refusals_at 2 busy.start busy.items ≡ 0 ∷ 0 ∷ 0 ∷ 6 ∷ 15 ∷ 0 ∷ 0 ∷ 0 ∷ 0 ∷ 0 ∷ 0 ∷ 0 ∷ 0 ∷ []
  pub numbers_told : refusals_at 2 quiet.start quiet.items ≡ refusals_at 2 busy.start busy.items → ⊥

-- ---- each agreement is needed

-- what the answers of seat 2 say, and its five after each item of its own
abbrev pub values_seen : Bench → List Item → List (List ℕ)
values_seen b is = map (λ (v : View). map value_of v.answers) (views 2 b is)

abbrev pub fives_seen : Bench → List Item → List (List ℕ)
fives_seen b is = map (λ (v : View). told v.tallies) (views 2 b is)

-- a seat that is set otherwise; one reset more; an image of another version, whose record is the first 66 bytes of the other's; another record; a refused restore
pub record AgreementsNeeded : Type 0 where
  pub set_so : values_seen power_up (given (whole 0 2 7 0 ∷ [])) ≡ (0x00 ∷ []) ∷ []
  pub set_otherwise : values_seen (after_all power_up (whole 1 2 7 0x5A ∷ [])) (given (whole 0 2 7 0 ∷ [])) ≡ (0x5A ∷ []) ∷ []
  pub no_reset : values_seen (after_all power_up (whole 1 2 1 0x01 ∷ [])) (given (whole 0 2 1 0 ∷ [])) ≡ (0x01 ∷ []) ∷ []
  pub reset : values_seen (after_all power_up (whole 1 2 1 0x01 ∷ [])) (given (whole 5 0 0 0 ∷ whole 0 2 1 0 ∷ [])) ≡ (0x00 ∷ []) ∷ (0x00 ∷ []) ∷ []
  pub version_2 : fives_seen power_up (restores (saved 0 0 0 0 0) 0 ∷ []) ≡ (5 ∷ 4 ∷ 0 ∷ 0 ∷ 1 ∷ []) ∷ []
  pub version_1 : fives_seen power_up (restores older 0 ∷ []) ≡ (1 ∷ 0 ∷ 0 ∷ 0 ∷ 1 ∷ []) ∷ []
  pub another_record : fives_seen power_up (restores ((0x42 ∷ 0x45 ∷ 0x4E ∷ 2 ∷ []) ++ replicate 700 0) 0 ∷ []) ≡ (0 ∷ 0 ∷ 0 ∷ 0 ∷ 0 ∷ []) ∷ []
  pub refused : fives_seen power_up (restores (saved 0 0 0 0x10 0) 0 ∷ []) ≡ (0 ∷ 0 ∷ 0 ∷ 0 ∷ 0 ∷ []) ∷ []

-- ---- nothing less is said

-- seat 2 in FIFO mode with 41 waiting, which is a cause, and its line not let through
abbrev pub one_waiting : List Record → Lesson
one_waiting rs =
    record {
      start = after_all power_up (whole 1 2 3 0x8B ∷ whole 1 2 0 0x0C ∷ whole 1 2 3 0x0B ∷ whole 1 2 2 0x01 ∷ whole 1 2 1 0x01 ∷ whole 2 2 0 0x41 ∷ []);
      items = given rs;
    }

abbrev pub restoring_both : List ℕ → List ℕ → Lesson
restoring_both p q = record { start = power_up; items = restores p 0 ∷ restores q 0 ∷ [] }

-- two lessons are not the same for seat 2 where they differ in one thing that is seen of it: an answer, the number of a refusal, an answer to the last of nine records, the mark of
-- the second character that waits, a tally, the line, or only in what the seat is at the end
pub record NothingLess : Type 0 where
  pub answers : Same 2 (one_waiting (whole 0 2 7 0 ∷ [])) (one_waiting (whole 0 2 3 0 ∷ [])) → ⊥
  pub refused_answers : Same 2 (one_waiting (whole 2 2 8 0x41 ∷ [])) (one_waiting (whole 0 2 8 0 ∷ [])) → ⊥
  pub last_answers : Same 2 (one_waiting (replicate 8 (whole 0 2 7 0) ++ (whole 0 2 7 0 ∷ []))) (one_waiting (replicate 8 (whole 0 2 7 0) ++ (whole 0 2 3 0 ∷ []))) → ⊥
  pub marks : Same 2 (one_waiting (whole 2 2 1 0x42 ∷ whole 5 0 0 0 ∷ [])) (one_waiting (whole 2 2 0 0x42 ∷ whole 5 0 0 0 ∷ [])) → ⊥
  pub tallies : Same 2 (restoring_both older (saved 0 0 0 0 0)) (restoring_both (saved 0 0 0 0 0) (saved 0 0 0 0 0)) → ⊥
  pub line : Same 2 (one_waiting (whole 1 2 4 0x08 ∷ whole 1 2 4 0x00 ∷ [])) (one_waiting (whole 1 2 4 0x00 ∷ whole 1 2 4 0x00 ∷ [])) → ⊥
  pub left : Same 2 (one_waiting (whole 1 2 7 0x5A ∷ [])) (one_waiting (whole 1 2 7 0x5B ∷ [])) → ⊥
