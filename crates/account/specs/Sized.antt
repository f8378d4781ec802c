-- What is known of the numbers that are told.
use Rattle.std.specs.Prelude.{ℕ, ◌^◌, ◌<◌}
use Rattle.base.specs.Answers.{refusal_of, figures_of}
use Rattle.records.specs.Events.{Record, whole, short}
use Rattle.bench.specs.declared.Bench.{Bench}
use Rattle.bench.specs.Steps.{outcome}
use Rattle.account.specs.Told.{channel_at}

-- an event is a record of four bytes
abbrev pub OfBytes : Record → Type 0
OfBytes (whole kind seat number value) = (kind < 256) × (seat < 256) × (number < 256) × (value < 256)
OfBytes short = Unit {0}

-- the numbers that are told are as large as the code has them by their types: the record's is of 64 bits, and each other is a byte
pub record Sized (b : Bench) (n : ℕ) (r : Record) : Type 0 where
  pub number : n < 2 ^ 64
  pub bytes : OfBytes r
  pub refusal : refusal_of (outcome b r).answer < 256
  pub behind : (figures_of (outcome b r).answer).behind < 256
  pub queued : (k : ℕ) → (channel_at (outcome b r).bench k).receiver.queue.count < 256
  pub waiting : (k : ℕ) → (channel_at (outcome b r).bench k).transmitter.queue.count < 256
