-- Ticket 8, the tallies under each seat, from any valid bench: over any run of items, restores among the records, and record by record.
use Rattle.std.specs.Prelude.{ℕ, ◌+◌, ◌<◌, ◌≤◌, Bool, true, false, not, ◌&&◌, ◌||◌, List, [], ◌∷◌, ◌++◌, ◌≡◌, eqb, length, drop}
use Rattle.base.specs.Pick.{pick}
use Rattle.base.specs.Bits.{bit}
use Rattle.base.specs.Answers.{refusal_of}
use Rattle.base.specs.Subsequences.{Subsequence}
use Rattle.base.specs.declared.Answer.TheVariants.{Done, Refused}
use Rattle.receiver.specs.Ledger.{characters, bytes}
use Rattle.registers.specs.declared.SeatEvent.{SeatEvent}
use Rattle.registers.specs.declared.SeatEvent.TheVariants.{Read, Write, Arrival, Levels, Time}
use Rattle.registers.specs.Refusals.{refusal}
use Rattle.channel.specs.declared.Channel.{Channel}
use Rattle.channel.specs.Parts.{master_reset}
use Rattle.channel.specs.Status as channel-status
use Rattle.channel.specs.Steps as channel-step
use Rattle.seat.specs.declared.Five.{Five}
use Rattle.seat.specs.Seats.{line, five}
use Rattle.seat.specs.Acts.{Act, event, resets}
use Rattle.seat.specs.Moves.{all_dropped, moved}
use Rattle.records.specs.Events.{Record, whole, seat_count, decoded}
use Rattle.bench.specs.declared.Bench.{Bench}
use Rattle.bench.specs.Seats.{seat}
use Rattle.bench.specs.Tallies.{tallies_of}
use Rattle.bench.specs.Valid.{valid}
use Rattle.bench.specs.Steps.{outcome}
use Rattle.bench.specs.Runs.{after_all, own, own_all}
use Rattle.image.specs.Items.{Item, gives, restores, given, after_items}
use Rattle.image.specs.Read.{bench_from}
use Rattle.image.specs.Refusals as image
use Rattle.demands.specs.Loopback.{record_of, channel_at}
use Rattle.demands.specs.SeatLedger.{arrived_at, read_at, lost_at, dropped_at, queued_at}

-- the five of a seat on the bench
abbrev pub five_at : ℕ → Bench → Five
five_at n b = five (seat b n)

-- ---- over a run of items

-- ticket 8: "Arrived is defined from the events (and a restored image)": the bench from which a run counts, which is that of the start or of the last accepted
-- restore, and the records since
pub record Since : Type 0 where
  pub from : Bench
  pub records : List Record

abbrev pub since : Since → Item → Since
since s (gives r) = record { from = s.from; records = s.records ++ (r ∷ []) }
since s (restores l at) = pick (eqb (image.refusal (drop at l)) 0) (record { from = bench_from (drop at l); records = [] }) s

abbrev pub since_all : Since → List Item → Since
since_all s [] = s
since_all s (i ∷ is) = since_all (since s i) is

abbrev pub counting : Bench → List Item → Since
counting b is = since_all (record { from = b; records = [] }) is

-- over records alone the counting begins at the start, with all of them since; an accepted restore begins it anew; a refused one is not noticed
pub record CountingBegins : Type 0 where
  pub records : (b : Bench) (rs : List Record) → counting b (given rs) ≡ record { from = b; records = rs }
  pub accepted : (b : Bench) (is : List Item) (l : List ℕ) (at : ℕ) (rs : List Record) → image.refusal (drop at l) ≡ 0
      → counting b (is ++ (restores l at ∷ given rs)) ≡ record { from = bench_from (drop at l); records = rs }
  pub refused : (b : Bench) (is js : List Item) (l : List ℕ) (at : ℕ) → eqb (image.refusal (drop at l)) 0 ≡ false
      → counting b (is ++ (restores l at ∷ js)) ≡ counting b (is ++ js)

-- ticket 8: "Arrived is defined from the events (and a restored image), and the other four add up to it; characters read keep the order of arrival.": of seat n,
-- from a bench at which the counting begins, over these records, to the bench that is there now
pub record KeepsTallies (n : ℕ) (b : Bench) (rs : List Record) (now : Bench) : Type 0 where
  pub arrived : (five_at n now).arrived ≡ (five_at n b).arrived + length (arrived_at outcome n b rs)
  pub read : (five_at n now).read ≡ (five_at n b).read + length (read_at outcome n b rs)
  pub lost : (five_at n now).lost ≡ (five_at n b).lost + lost_at outcome n b rs
  pub dropped : (five_at n now).dropped ≡ (five_at n b).dropped + dropped_at outcome n b rs
  pub queued : (five_at n now).queued ≡ length (queued_at n now)
  pub sum : (five_at n now).read + (five_at n now).lost + (five_at n now).dropped + (five_at n now).queued ≡ (five_at n now).arrived
  pub largest : (five_at n now).arrived ≤ 0xFFFFFFFF
  pub in_order : Subsequence (bytes (characters (read_at outcome n b rs)) ++ queued_at n now) (queued_at n b ++ bytes (arrived_at outcome n b rs))

abbrev pub TalliesAddUp : Type 0
TalliesAddUp = (n : ℕ) (b : Bench) (is : List Item) → valid b ≡ true → KeepsTallies n (counting b is).from (counting b is).records (after_items b is)

-- ---- record by record

-- what is said of each seat of each valid bench
abbrev pub AtValid : (ℕ → Bench → Type 0) → Type 0
AtValid Said = (n : ℕ) (b : Bench) → n < seat_count → valid b ≡ true → Said n b

-- an event of the seat moves its tallies as `moved` of the room seat says, where it is accepted; a master reset drops; nothing else moves any
pub record Moves (n : ℕ) (b : Bench) : Type 0 where
  pub own_event : (e : SeatEvent)
      → five_at n (outcome b (record_of n e)).bench
      ≡ pick (eqb (refusal_of (outcome b (record_of n e)).answer) 0) (moved (channel_at n b) (five_at n b) e) (five_at n b)
  pub reset : (s k v : ℕ) → five_at n (outcome b (whole 5 s k v)).bench ≡ all_dropped (five_at n b)
  pub others : (r : Record) → own n (decoded r) ≡ [] → five_at n (outcome b r).bench ≡ five_at n b

abbrev pub TalliesMove : Type 0
TalliesMove = AtValid Moves

-- an event that would receive: ticket 8: "a loopback reception counts as arrived, an outside arrival in loopback does not"
abbrev pub would_receive : Channel → SeatEvent → Bool
would_receive c (Read number) = false
would_receive c (Write number byte) = false
would_receive c (Arrival marks byte) = not (bit 4 c.settings.mcr)
would_receive c (Levels levels) = false
would_receive c Time = bit 4 c.settings.mcr && c.transmitter.busy

-- ticket 8: "19, last in order, where arrived would pass its largest value": exactly where no other ground holds, the tally of arrived is at its largest, and
-- the event would receive; and then nothing changes
pub record Full (n : ℕ) (b : Bench) : Type 0 where
  pub exactly : (e : SeatEvent)
      → eqb (refusal_of (outcome b (record_of n e)).answer) 19
      ≡ (eqb (refusal (channel_at n b).settings e) 0 && (would_receive (channel_at n b) e && eqb (five_at n b).arrived 0xFFFFFFFF))
  pub unchanged : (r : Record) → refusal_of (outcome b r).answer ≡ 19 → (outcome b r).bench ≡ b

abbrev pub FullExactly : Type 0
FullExactly = AtValid Full

-- ---- a bench without tallies

-- a channel by itself, over what is done to its seat
abbrev pub channel_after : Channel → List Act → Channel
channel_after c [] = c
channel_after c (event e ∷ rest) = channel_after (channel-step.stepped c e).channel rest
channel_after c (resets ∷ rest) = channel_after (master_reset c) rest

-- a record is one of this seat's, or a master reset
abbrev pub touches : List Act → Bool
touches [] = false
touches (a ∷ rest) = true

-- one of the records of seat n is refused by 19
abbrev pub own_full : ℕ → Bench → List Record → Bool
own_full n b [] = false
own_full n b (r ∷ rs) = (touches (own n (decoded r)) && eqb (refusal_of (outcome b r).answer) 19) || own_full n (outcome b r).bench rs

-- over any records of which none of the seat's own is refused by 19: the seat's channel, its line and the answer to whatever comes next are those of the channel by itself
pub record Without (n : ℕ) (b : Bench) (rs : List Record) : Type 0 where
  pub channel : channel_at n (after_all b rs) ≡ channel_after (channel_at n b) (own_all n rs)
  pub line : line (seat (after_all b rs) n) ≡ channel-status.line (channel_after (channel_at n b) (own_all n rs))
  pub answer : (e : SeatEvent) → eqb (refusal_of (outcome (after_all b rs) (record_of n e)).answer) 19 ≡ false
      → (outcome (after_all b rs) (record_of n e)).answer ≡ (channel-step.stepped (channel_after (channel_at n b) (own_all n rs)) e).answer

abbrev pub WithoutTallies : Type 0
WithoutTallies =
    (n : ℕ) (b : Bench) (rs : List Record) → n < seat_count → length b.seats ≡ seat_count
    → own_full n b rs ≡ false → Without n b rs

-- ---- the call

-- ticket 8: "Beside each channel stand five 32-bit tallies": the call tells those of the seat that it is asked for, and of a seat that is not there none
pub record Told (n : ℕ) (b : Bench) : Type 0 where
  pub there : n < 8 → tallies_of b n ≡ record { answer = Done; five = five_at n b }
  pub nowhere : 8 ≤ n → tallies_of b n ≡ record { answer = Refused 1; five = record { arrived = 0; read = 0; lost = 0; dropped = 0; queued = 0 } }

abbrev pub TalliesTold : Type 0
TalliesTold = (n : ℕ) (b : Bench) → Told n b
