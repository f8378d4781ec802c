-- What reaches the two sides of a channel: an arrival, a character time, a THR write and an RBR read are each one call of a side, and nothing
-- else moves.
use Rattle.std.specs.Prelude.{ℕ, Bool, true, false, ◌&&◌, ◌≡◌}
use Rattle.std.proofs.Math.Bool.{not}
use Rattle.std.proofs.Math.Path.{refl, ap}
use Rattle.std.proofs.Common.{◌∙◌}
use Rattle.base.specs.Pick.{pick}
use Rattle.base.specs.PickLaws.{pick_false}
use Rattle.base.specs.declared.Answer.TheVariants.{Letter, Done}
use Rattle.receiver.specs.declared.Receiver.{Receiver}
use Rattle.receiver.specs.Receiver.{received, got, waited}
use Rattle.transmitter.specs.Transmitter.{written, shifted}
use Rattle.registers.specs.declared.Register.TheVariants.{RbrThr}
use Rattle.registers.specs.Registers.{plain_register, register_at}
use Rattle.channel.specs.declared.Channel.{Channel}
use Rattle.channel.specs.declared.Stepped.{Stepped}
use Rattle.registers.specs.declared.SeatEvent.TheVariants.{Read, Write, Arrival, Time}
use Rattle.channel.specs.Parts.{with_receiver, with_transmitter, divisor_shown, fifo, in_loopback}
use Rattle.channel.specs.Effects.{answer_at, after_read, after_write, receives, heard_outside, after_arrival, heard_back, after_time}
use Rattle.channel.specs.Steps.{effect, stepped}
use Rattle.registers.proofs.RefusalLaws.{undivided, accepts}
use Rattle.channel_laws.specs.RefusalLaws.{done}
use Rattle.channel_laws.specs.ReadLaws.{read_at}
use Rattle.channel_laws.specs.BackLaws.{write_at}

module _ (c : Channel) where
  -- "character arrives": "000"; outside loopback it is received
  pub arrival_received : in_loopback c ≡ false → (marks byte : ℕ) → accepts c.settings (Arrival marks byte) ≡ true
      → stepped c (Arrival marks byte)
      ≡ record { channel = with_receiver c (received (fifo c) c.receiver (record { «data» = byte; marks = marks })); answer = Done }
  unfolding effect after_arrival heard_outside receives
  arrival_received outside marks byte served =
      done c (Arrival marks byte) served
      ∙ ap {B = Stepped} (λ (r : Receiver). record { channel = with_receiver c r; answer = Done }) (pick_false _ _ _ outside)

  -- "a character in the shift register leaves, cut to the word length; the oldest queued moves in"; "in FIFO mode with a character in the receive
  -- queue the time-out count rises, up to 4", once the receive side has heard what leaves in loopback
  pub time_shifts : undivided c.settings ≡ false
      → (stepped c Time).channel
      ≡ record { settings = c.settings; receiver = waited (fifo c) (heard_back c); transmitter = shifted c.transmitter; modem = c.modem }
  unfolding effect after_time
  time_shifts going = ap (λ s. s.channel) (done c Time (ap not going))

  -- it hears nothing outside loopback, and nothing of an empty shift register
  pub none_back : (in_loopback c && c.transmitter.busy) ≡ false → heard_back c ≡ c.receiver
  unfolding heard_back
  none_back none = pick_false _ _ _ none

  -- with LCR bit 7 clear, register 0 is the RBR for reads and the THR for writes
  module _ (plain : divisor_shown c ≡ false) where
    register_0 : register_at (divisor_shown c) 0 ≡ RbrThr
    unfolding register_at plain_register pick
    register_0 = ap (λ (shown : Bool). register_at shown 0) plain

    -- "THR write queues the byte and clears the holding-empty flag."
    pub thr_writes : (byte : ℕ)
        → stepped c (Write 0 byte) ≡ record { channel = with_transmitter c (written (fifo c) c.transmitter byte); answer = Done }
    unfolding after_write
    thr_writes byte = write_at c 0 byte RbrThr refl register_0

    -- "RBR read takes the oldest character and sets the time-out count to 0." Ticket 6: "The RBR answer gains these figures"
    pub rbr_gets : stepped c (Read 0)
        ≡ record { channel = with_receiver c (got c.receiver).receiver; answer = Letter (got c.receiver).byte (got c.receiver).figures }
    unfolding after_read answer_at
    rbr_gets = read_at c 0 RbrThr refl register_0
