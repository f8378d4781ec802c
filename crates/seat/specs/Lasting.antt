-- How long a time-out lasts at a seat, over its events and master resets.
use Rattle.std.specs.Prelude.{◌≡◌, ℕ, ◌<◌, Bool, true, false, ◌||◌, List, [], ◌∷◌}
use Rattle.receiver.specs.Lasting as side
use Rattle.registers.specs.declared.SeatEvent.TheVariants.{Arrival}
use Rattle.channel.specs.Parts.{in_loopback}
use Rattle.channel_laws.specs.Lasting.{ending_event}
use Rattle.seat.specs.declared.Seat.{Seat}
use Rattle.seat.specs.Steps.{refusal}
use Rattle.seat.specs.Acts.{Act, event, resets, acted, acted_all}
use Rattle.seat.specs.Receiving as receiving

-- the time-out count of its receive side
abbrev pub timeout_count : Seat → ℕ
timeout_count s = side.timeout_count (receiving.side s)

-- what ends a time-out: the events of `ending_event`, and a master reset
abbrev pub ending : Seat → Act → Bool
ending s (event e) = ending_event s.channel e
ending s resets = true

-- one of these acts does
abbrev pub ends_in : Seat → List Act → Bool
ends_in s [] = false
ends_in s (a ∷ rest) = ending s a || ends_in (acted s a) rest

-- what some acts leave of a time-out, and what one more does to it
pub record Lasting (s : Seat) (acts : List Act) : Type 0 where
  -- ticket 5: "an arrival sets back only one that has not": one that has stays, as long as nothing ends it; also over events that are refused
  pub stays : timeout_count s ≡ 4 → ends_in s acts ≡ false → timeout_count (acted_all s acts) ≡ 4
  -- what ends it leaves nothing counted
  pub ends : (a : Act) → ending (acted_all s acts) a ≡ true → timeout_count (acted (acted_all s acts) a) ≡ 0
  -- ticket 5: it "sets a smaller one to 0", a count below 4, where it is not refused, and the seat is not in loopback
  pub set_back : (marks byte : ℕ) → in_loopback (acted_all s acts).channel ≡ false
      → refusal (acted_all s acts) (Arrival marks byte) ≡ 0 → timeout_count (acted_all s acts) < 4
      → timeout_count (acted (acted_all s acts) (event (Arrival marks byte))) ≡ 0
