-- The time-out of a seat of the bench: how long it lasts over any run, and runs from power-up that show it.
use Rattle.std.specs.Prelude.{ℕ, ◌<◌, Bool, true, false, List, [], ◌∷◌, ◌++◌, map, ◌≡◌, length, replicate}
use Rattle.base.specs.Answers.{value_of}
use Rattle.registers.specs.declared.SeatEvent.TheVariants.{Arrival}
use Rattle.channel.specs.Parts.{in_loopback}
use Rattle.seat.specs.Steps.{refusal}
use Rattle.seat.specs.Acts.{event}
use Rattle.seat.specs.Lasting.{timeout_count, ends_in}
use Rattle.records.specs.Events.{Record, whole, decoded, seat_count}
use Rattle.bench.specs.declared.Bench.{Bench}
use Rattle.bench.specs.Seats.{chair, seat, power_up}
use Rattle.bench.specs.Steps.{outcome}
use Rattle.bench.specs.Runs.{own, own_all, after_all}
use Rattle.demands.specs.Edges.{divided}

-- the time-out count of seat n
abbrev pub timeout_at : ℕ → Bench → ℕ
timeout_at n b = timeout_count (seat b n)

-- among these records is an event of seat n, or a master reset, that ends a time-out there
abbrev pub ends_at : ℕ → Bench → List Record → Bool
ends_at n b rs = ends_in (seat b n) (own_all (chair n) rs)

-- what a run leaves of a time-out at seat n, and what one record more does to it
pub record LastsAt (n : ℕ) (b : Bench) (rs : List Record) : Type 0 where
  -- ticket 5: "an arrival sets back only one that has not": one that has stays over every run in which nothing ends it, whatever arrives there, is
  -- refused, or is done to the other seats and the controller
  pub stays : timeout_at n b ≡ 4 → ends_at n b rs ≡ false → timeout_at n (after_all b rs) ≡ 4
  -- what ends it leaves nothing counted
  pub ends : (r : Record) → ends_at n (after_all b rs) (r ∷ []) ≡ true → timeout_at n (outcome (after_all b rs) r).bench ≡ 0
  -- ticket 5: it "sets a smaller one to 0": an arrival there that is not refused, outside loopback
  pub set_back : (r : Record) (marks byte : ℕ) → own (chair n) (decoded r) ≡ event (Arrival marks byte) ∷ []
      → in_loopback (seat (after_all b rs) n).channel ≡ false → refusal (seat (after_all b rs) n) (Arrival marks byte) ≡ 0 → timeout_at n (after_all b rs) < 4
      → timeout_at n (outcome (after_all b rs) r).bench ≡ 0

-- from any bench with all its seats
abbrev pub TimeOutLasts : Type 0
TimeOutLasts = (n : ℕ) (b : Bench) (rs : List Record) → length b.seats ≡ seat_count → LastsAt n b rs

-- ---- seat 0 in FIFO mode at trigger 14, IER bit 0 set: a character arrives, and so many character times pass

abbrev pub arrival : Record
arrival = whole 2 0 0 0x01

abbrev pub time : Record
time = whole 4 0 0 0

abbrev pub waiting : ℕ → List Record
waiting n = divided 1 ++ (whole 1 0 2 0xC1 ∷ whole 1 0 1 0x01 ∷ arrival ∷ replicate n time)

-- the time-out count of seat 0 after these records, and what its IIR shows then
abbrev pub counted : List Record → ℕ
counted rs = timeout_at 0 (after_all power_up rs)

abbrev pub named : List Record → ℕ
named rs = value_of (outcome (after_all power_up rs) (whole 0 0 2 0)).answer

-- three character times, and an arrival after them; four, and an arrival after them
abbrev pub around_the_fourth : List (List Record)
around_the_fourth = waiting 3 ∷ (waiting 3 ++ (arrival ∷ [])) ∷ waiting 4 ∷ (waiting 4 ++ (arrival ∷ [])) ∷ []

-- ticket 5: "an arrival leaves a count of 4 at 4 and sets a smaller one to 0"; and IIR names what is left
abbrev pub AtArrival : Type 0
AtArrival = (map counted around_the_fourth ≡ 3 ∷ 0 ∷ 4 ∷ 4 ∷ []) × (map named around_the_fourth ≡ 0xC1 ∷ 0xC1 ∷ 0xCC ∷ 0xCC ∷ [])

-- what does not end one: sixteen arrivals, of which the last finds the queue full, and one that is refused; reads of LSR and IIR; new modem levels; writes
-- of THR, IER and MCR; LCR bit 7, and a read of register 0 with it; an FCR write with bit 2 and not bit 1; a character time; an RBR read at seat 1,
-- and an ICW1
abbrev pub untouched : List Record
untouched =
    replicate 16 arrival
    ++ (whole 2 0 8 0 ∷ whole 0 0 5 0 ∷ whole 0 0 2 0 ∷ whole 3 0 0 15 ∷ whole 1 0 0 0x02 ∷ whole 1 0 1 0x0F ∷ whole 1 0 4 0x08
    ∷ whole 1 0 3 0x80 ∷ whole 0 0 0 0 ∷ whole 1 0 3 0x00 ∷ whole 1 0 2 0xC5 ∷ time ∷ whole 0 1 0 0 ∷ whole 7 0 0 0x13 ∷ [])

-- the premises of TimeOutLasts are met by a run, and so is what it says of it
pub record Untouched : Type 0 where
  pub happened : timeout_at 0 (after_all power_up (waiting 4)) ≡ 4
  pub none_ends : ends_at 0 (after_all power_up (waiting 4)) untouched ≡ false
  pub stays : timeout_at 0 (after_all (after_all power_up (waiting 4)) untouched) ≡ 4

-- an RBR read; FCR writes that empty the receive queue, and that change bit 0; a master reset
abbrev pub endings : List Record
endings = whole 0 0 0 0 ∷ whole 1 0 2 0xC3 ∷ whole 1 0 2 0x00 ∷ whole 5 0 0 0 ∷ []

-- ticket 5: "a time-out that has happened is cleared by reading a character"; and by each of the others
abbrev pub TimeOutEnds : Type 0
TimeOutEnds = map (λ r. counted (waiting 4 ++ untouched ++ (r ∷ []))) endings ≡ 0 ∷ 0 ∷ 0 ∷ 0 ∷ []
