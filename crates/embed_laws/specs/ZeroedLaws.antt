-- The bench at power-up is zeroed, and it is the only bench that is.
use Rattle.std.specs.Prelude.{ℕ, zero, suc, Bool, true, false, not, List, [], ◌∷◌, map, ◌≡◌, refl, eqb, length, replicate}
use Rattle.std.proofs.Common.{ap₂, arith, eqb-true}
use Rattle.base.specs.PickLaws.{both_hold, never}
use Rattle.queue.specs.Queue.{no_character, empty_queue}
use Rattle.queue.specs.declared.Character.{Character}
use Rattle.queue.specs.declared.Queue.{Queue}
use Rattle.receiver.specs.Receiver.{quiet}
use Rattle.receiver.specs.declared.Receiver.{Receiver}
use Rattle.transmitter.specs.Transmitter.{still}
use Rattle.transmitter.specs.declared.Transmitter.{Transmitter}
use Rattle.channel.specs.Parts as channel
use Rattle.registers.specs.declared.Settings.{Settings}
use Rattle.channel.specs.declared.Modem.{Modem}
use Rattle.channel.specs.declared.Channel.{Channel}
use Rattle.controller.specs.State as controller
use Rattle.controller.specs.declared.Lines.{Lines}
use Rattle.controller.specs.declared.Setup.{Setup}
use Rattle.controller.specs.declared.Operation.{Operation}
use Rattle.controller.specs.declared.Controller.{Controller}
use Rattle.seat.specs.declared.Tallies.{Tallies}
use Rattle.seat.specs.declared.Seat.{Seat}
use Rattle.seat.specs.Tallies.{no_tallies}
use Rattle.seat.specs.Seats as seat
use Rattle.records.specs.Events.{seat_count}
use Rattle.bench.specs.declared.Bench.{Bench}
use Rattle.bench.specs.Seats.{power_up}
use Rattle.embed_laws.specs.Zeroed.{all_hold, nought, each_of}
use Rattle.embed_laws.specs.Zeroed.{character_tests, queue_tests, settings_tests, receiver_tests, transmitter_tests, modem_tests, channel_tests}
use Rattle.embed_laws.specs.Zeroed.{lines_tests, setup_tests, operation_tests, controller_tests, tallies_tests, seat_tests, bench_tests}
use Rattle.embed_laws.specs.Zeroed.{zero_character, zero_queue, zero_settings, zero_receiver, zero_transmitter, zero_modem, zero_channel, zero_lines}
use Rattle.embed_laws.specs.Zeroed.{zero_setup, zero_operation, zero_controller, zero_tallies, zero_seat, zeroed}

pub power_up_zeroed : zeroed power_up ≡ true
power_up_zeroed = refl

-- ---- from the tests to the parts

abbrev AllHold : List Bool → Type 0
AllHold [] = Unit {0}
AllHold (b ∷ bs) = (b ≡ true) × AllHold bs

held : (bs : List Bool) → all_hold bs ≡ true → AllHold bs
held [] e = tt
held (b ∷ bs) e = let p : _ = both_hold b (all_hold bs) e in (p.0, held bs p.1)

is_0 : (n : ℕ) → nought n ≡ true → n ≡ 0
is_0 n e = eqb-true n 0 e

is_no : (b : Bool) → not b ≡ true → b ≡ false
is_no true e = absurd (never e)
is_no false e = refl

-- n things that can only be x are n times x
all_are : {A : Type 0} (test : A → Bool) (x : A) → ((y : A) → test y ≡ true → y ≡ x)
    → (n : ℕ) (l : List A) → length l ≡ n → AllHold (map test l) → l ≡ replicate n x
all_are test x is zero [] e t = refl
all_are test x is zero (y ∷ l) e t = absurd (omega arith)
all_are test x is (suc n) [] e t = absurd (omega arith)
all_are test x is (suc n) (y ∷ l) e t = ap₂ ◌∷◌ (is y t.0) (all_are test x is n l (omega arith) t.1)

each_is : {A : Type 0} (n : ℕ) (test : A → Bool) (x : A) → ((y : A) → test y ≡ true → y ≡ x)
    → (l : List A) → each_of n test l ≡ true → l ≡ replicate n x
each_is n test x is l e =
    let p : (eqb (length l) n ≡ true) × (all_hold (map test l) ≡ true) = both_hold (eqb (length l) n) (all_hold (map test l)) e in
    all_are test x is n l (eqb-true (length l) n p.0) (held (map test l) p.1)

character_is : (c : Character) → zero_character c ≡ true → c ≡ no_character
character_is c e =
    let h : AllHold (character_tests c) = held (character_tests c) e in
    λ i. record {
      «data» = is_0 c.«data» h.0 i;
      marks = is_0 c.marks h.1.0 i;
    }

queue_is : (q : Queue) → zero_queue q ≡ true → q ≡ empty_queue
queue_is q e =
    let h : AllHold (queue_tests q) = held (queue_tests q) e in
    λ i. record {
      slots = each_is 16 zero_character no_character character_is q.slots h.0 i;
      count = is_0 q.count h.1.0 i;
    }

settings_is : (s : Settings) → zero_settings s ≡ true → s ≡ (channel.power_up).settings
settings_is s e =
    let h : AllHold (settings_tests s) = held (settings_tests s) e in
    λ i. record {
      ier = is_0 s.ier h.0 i;
      fcr = is_0 s.fcr h.1.0 i;
      lcr = is_0 s.lcr h.1.1.0 i;
      mcr = is_0 s.mcr h.1.1.1.0 i;
      scratch = is_0 s.scratch h.1.1.1.1.0 i;
      dll = is_0 s.dll h.1.1.1.1.1.0 i;
      dlm = is_0 s.dlm h.1.1.1.1.1.1.0 i;
    }

receiver_is : (r : Receiver) → zero_receiver r ≡ true → r ≡ quiet
receiver_is r e =
    let h : AllHold (receiver_tests r) = held (receiver_tests r) e in
    λ i. record {
      queue = queue_is r.queue h.0 i;
      overrun = is_no r.overrun h.1.0 i;
      kept = is_0 r.kept h.1.1.0 i;
      timeout = is_0 r.timeout h.1.1.1.0 i;
      last = is_0 r.last h.1.1.1.1.0 i;
    }

transmitter_is : (t : Transmitter) → zero_transmitter t ≡ true → t ≡ still
transmitter_is t e =
    let h : AllHold (transmitter_tests t) = held (transmitter_tests t) e in
    λ i. record {
      queue = queue_is t.queue h.0 i;
      busy = is_no t.busy h.1.0 i;
      shift = is_0 t.shift h.1.1.0 i;
      flag = is_no t.flag h.1.1.1.0 i;
    }

modem_is : (m : Modem) → zero_modem m ≡ true → m ≡ (channel.power_up).modem
modem_is m e =
    let h : AllHold (modem_tests m) = held (modem_tests m) e in
    λ i. record {
      levels = is_0 m.levels h.0 i;
      changes = is_0 m.changes h.1.0 i;
    }

channel_is : (c : Channel) → zero_channel c ≡ true → c ≡ channel.power_up
channel_is c e =
    let h : AllHold (channel_tests c) = held (channel_tests c) e in
    λ i. record {
      settings = settings_is c.settings h.0 i;
      receiver = receiver_is c.receiver h.1.0 i;
      transmitter = transmitter_is c.transmitter h.1.1.0 i;
      modem = modem_is c.modem h.1.1.1.0 i;
    }

lines_is : (l : Lines) → zero_lines l ≡ true → l ≡ (controller.power_up).lines
lines_is l e =
    let h : AllHold (lines_tests l) = held (lines_tests l) e in
    λ i. record {
      levels = is_0 l.levels h.0 i;
      latches = is_0 l.latches h.1.0 i;
    }

setup_is : (s : Setup) → zero_setup s ≡ true → s ≡ (controller.power_up).setup
setup_is s e =
    let h : AllHold (setup_tests s) = held (setup_tests s) e in
    λ i. record {
      stage = is_0 s.stage h.0 i;
      level = is_no s.level h.1.0 i;
      base = is_0 s.base h.1.1.0 i;
      automatic = is_no s.automatic h.1.1.1.0 i;
    }

operation_is : (o : Operation) → zero_operation o ≡ true → o ≡ (controller.power_up).operation
operation_is o e =
    let h : AllHold (operation_tests o) = held (operation_tests o) e in
    λ i. record {
      mask = is_0 o.mask h.0 i;
      service = is_0 o.service h.1.0 i;
      first = is_0 o.first h.1.1.0 i;
      rotation = is_no o.rotation h.1.1.1.0 i;
      special = is_no o.special h.1.1.1.1.0 i;
      selected = is_no o.selected h.1.1.1.1.1.0 i;
    }

controller_is : (c : Controller) → zero_controller c ≡ true → c ≡ controller.power_up
controller_is c e =
    let h : AllHold (controller_tests c) = held (controller_tests c) e in
    λ i. record {
      lines = lines_is c.lines h.0 i;
      setup = setup_is c.setup h.1.0 i;
      operation = operation_is c.operation h.1.1.0 i;
    }

tallies_is : (t : Tallies) → zero_tallies t ≡ true → t ≡ no_tallies
tallies_is t e =
    let h : AllHold (tallies_tests t) = held (tallies_tests t) e in
    λ i. record {
      arrived = is_0 t.arrived h.0 i;
      read = is_0 t.read h.1.0 i;
      lost = is_0 t.lost h.1.1.0 i;
      dropped = is_0 t.dropped h.1.1.1.0 i;
    }

seat_is : (s : Seat) → zero_seat s ≡ true → s ≡ seat.power_up
seat_is s e =
    let h : AllHold (seat_tests s) = held (seat_tests s) e in
    λ i. record {
      tallies = tallies_is s.tallies h.0 i;
      channel = channel_is s.channel h.1.0 i;
    }

-- a zeroed bench is the bench at power-up
pub zeroed_is : (b : Bench) → zeroed b ≡ true → b ≡ power_up
zeroed_is b e =
    let h : AllHold (bench_tests b) = held (bench_tests b) e in
    λ i. record {
      seats = each_is seat_count zero_seat seat.power_up seat_is b.seats h.0 i;
      controller = controller_is b.controller h.1.0 i;
    }
