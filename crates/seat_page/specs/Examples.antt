-- Pages of seats by examples, line by line as a class sees them.
use Rattle.std.specs.Prelude.{ℕ, true, false, List, [], ◌∷◌, ◌≡◌, replicate}
use Prim.Native.String.{String}
use Rattle.page.specs.Pages.{shown}
use Rattle.page.specs.Examples.{lines}
use Rattle.queue.specs.declared.Character.{Character}
use Rattle.queue.specs.Queue.{no_character}
use Rattle.seat.specs.declared.Seat.{Seat}
use Rattle.seat.specs.Seats.{power_up}
use Rattle.seat_page.specs.SeatPages.{seat_page}

abbrev pub Told : Seat → ℕ → List String → Type 0
Told s n told = shown (seat_page s n) ≡ lines told

-- a character with its marks
abbrev pub ch : ℕ → ℕ → Character
ch byte marks = record { «data» = byte; marks = marks }

-- 16450 mode: a G with a framing error came over a character that nobody had read, and CTS has changed; A is being sent and B waits
abbrev pub troubled : Seat
troubled =
    record {
      tallies = record { arrived = 2; read = 0; lost = 1; dropped = 0 };
      channel =
          record {
            settings = record { ier = 0x05; fcr = 0; lcr = 0x03; mcr = 0x08; scratch = 0; dll = 12; dlm = 0 };
            receiver =
                record { queue = record { slots = ch 0x47 2 ∷ replicate 15 no_character; count = 1 }; overrun = true; kept = 2; timeout = 0; last = 0 };
            transmitter = record { queue = record { slots = ch 0x42 0 ∷ replicate 15 no_character; count = 1 }; busy = true; shift = 0x41; flag = false };
            modem = record { levels = 1; changes = 1 };
          };
    }

-- FIFO mode, in loopback: sixteen characters, the second with a parity error and the third a break
abbrev pub full : Seat
full =
    record {
      tallies = record { arrived = 300; read = 284; lost = 0; dropped = 0 };
      channel =
          record {
            settings = record { ier = 0; fcr = 0x81; lcr = 0x03; mcr = 0x10; scratch = 0; dll = 12; dlm = 0 };
            receiver =
                record {
                  queue =
                      record {
                        slots =
                            ch 0x41 0
                            ∷ ch 0x42 1
                            ∷ ch 0x00 6
                            ∷ ch 0x44 0
                            ∷ ch 0x45 0
                            ∷ ch 0x46 0
                            ∷ ch 0x47 0
                            ∷ ch 0x48 0
                            ∷ ch 0x49 0
                            ∷ ch 0x4A 0
                            ∷ ch 0x4B 0
                            ∷ ch 0x4C 0
                            ∷ ch 0x4D 0
                            ∷ ch 0x4E 0
                            ∷ ch 0x4F 0
                            ∷ ch 0x50 0
                            ∷ [];
                        count = 16;
                      };
                  overrun = false;
                  kept = 0;
                  timeout = 4;
                  last = 0x40;
                };
            transmitter = record { queue = record { slots = replicate 16 no_character; count = 0 }; busy = false; shift = 0; flag = true };
            modem = record { levels = 15; changes = 0 };
          };
    }

pub record Examples : Type 0 where
  pub idle :
      Told power_up 0
      ("            seat 0: LSR 60: holding-empty empty; IIR 01: no cause; MSR 00: none"
      ∷ "            line low; received 0; to send 0; arrived 0; read 0; lost 0"
      ∷ "            dropped 0; queued 0"
      ∷ [])
  pub in_trouble :
      Told troubled 2
      ("            seat 2: LSR 0B: data overrun framing; IIR 06: line trouble"
      ∷ "            MSR 11: CTS-changed CTS; line high; received 1; 47 'G' with framing"
      ∷ "            to send 1; 42 'B'; shift register 41 'A'; kept marks framing"
      ∷ "            arrived 2; read 0; lost 1; dropped 0; queued 1"
      ∷ [])
  pub all_sixteen :
      Told full 7
      ("            seat 7: LSR E1: data holding-empty empty marked; IIR C1: no cause"
      ∷ "            MSR 00: none; line low; loopback; received 16; 41 'A'"
      ∷ "            42 'B' with parity; 00 with framing break; 44 'D'; 45 'E'; 46 'F'"
      ∷ "            47 'G'; 48 'H'; 49 'I'; 4A 'J'; 4B 'K'; 4C 'L'; 4D 'M'; 4E 'N'"
      ∷ "            4F 'O'; 50 'P'; to send 0; time-out count 4; holding-empty flag"
      ∷ "            arrived 300; read 284; lost 0; dropped 0; queued 16"
      ∷ [])
