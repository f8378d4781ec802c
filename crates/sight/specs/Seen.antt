-- What is seen of a bench is what the software would read there, and no reading disturbs it.
use Rattle.std.specs.Prelude.{ℕ, ◌<◌, true, false, ◌&&◌, ◌||◌, ◌≡◌, ltb, eqb, replicate}
use Rattle.base.specs.Bits.{bit, bits}
use Rattle.base.specs.ListLaws.{listed}
use Rattle.base.specs.declared.Answer.{Answer}
use Rattle.base.specs.declared.Answer.TheVariants.{Byte}
use Rattle.registers.specs.declared.SeatEvent.TheVariants.{Read}
use Rattle.channel.specs.Steps.{stepped}
use Rattle.seat.specs.Seats.{five, line}
use Rattle.controller.specs.Words as controller
use Rattle.bench.specs.declared.Bench.{Bench}
use Rattle.bench.specs.Seats.{power_up, seat}
use Rattle.bench.specs.Steps as bench
use Rattle.bench.specs.Valid.{valid}
use Rattle.bench.specs.Wired.{Wired}
use Rattle.sight.specs.Sights.{sight_of, look_at}
use Rattle.sight.specs.InUse.{with_named}

pub record AsRead (b : Bench) : Type 0 where
  -- of each seat: the LSR that a read answers with, and the tally of the characters still queued
  pub lsr : (n : ℕ) → (stepped (seat b n).channel (Read 5)).answer ≡ Byte (look_at (sight_of b) n).lsr
  pub queued : (n : ℕ) → (five (seat b n)).queued ≡ (look_at (sight_of b) n).queued
  -- of the controller: what its ports show, and the output
  pub requests : b.controller.operation.selected ≡ false → controller.shown b.controller 0 ≡ (sight_of b).requests
  pub service : b.controller.operation.selected ≡ true → controller.shown b.controller 0 ≡ (sight_of b).service
  pub mask : controller.shown b.controller 1 ≡ (sight_of b).mask
  pub output : (a : Answer) → (bench.shown b a).output ≡ (sight_of b).output
  -- seat n is line n of the controller
  pub levels : Wired b → (n : ℕ) → n < 8 → bit n (sight_of b).levels ≡ line (seat b n)
  -- the bits that are told of a number make that number, on a bench that power-up and records can make
  pub lsr_bits : (n : ℕ) → bits (listed 8 (λ k. bit k (look_at (sight_of b) n).lsr)) ≡ (look_at (sight_of b) n).lsr
  pub queued_bits : valid b ≡ true → (n : ℕ) → bits (listed 5 (λ k. bit k (look_at (sight_of b) n).queued)) ≡ (look_at (sight_of b) n).queued

abbrev pub SeenAsRead : Type 0
SeenAsRead = (b : Bench) → AsRead b

-- "those that a record of the lesson names (kinds 0 to 4, seat up to 7)": with them, those that were in use before, and no other
abbrev pub SeatsNamed : Type 0
SeatsNamed =
    (used kind seat n : ℕ) → bit n (with_named used kind seat) ≡ (bit n used || ltb kind 5 && ltb seat 8 && eqb n seat)

-- at power-up nothing is received and nothing to send, and the controller is at rest
abbrev pub PowerUpSeen : Type 0
PowerUpSeen =
    sight_of power_up
    ≡ record { output = false; levels = 0; requests = 0; service = 0; mask = 0; seats = replicate 8 (record { lsr = 0x60; queued = 0 }) }
