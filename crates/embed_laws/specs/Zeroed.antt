-- A bench in which every number is 0 and every yes or no is no, part by part.
use Rattle.std.specs.Prelude.{ℕ, Bool, true, not, ◌&&◌, List, [], ◌∷◌, map, eqb, length}
use Rattle.queue.specs.declared.Character.{Character}
use Rattle.queue.specs.declared.Queue.{Queue}
use Rattle.receiver.specs.declared.Receiver.{Receiver}
use Rattle.transmitter.specs.declared.Transmitter.{Transmitter}
use Rattle.registers.specs.declared.Settings.{Settings}
use Rattle.channel.specs.declared.Modem.{Modem}
use Rattle.channel.specs.declared.Channel.{Channel}
use Rattle.controller.specs.declared.Lines.{Lines}
use Rattle.controller.specs.declared.Setup.{Setup}
use Rattle.controller.specs.declared.Operation.{Operation}
use Rattle.controller.specs.declared.Controller.{Controller}
use Rattle.seat.specs.declared.Tallies.{Tallies}
use Rattle.seat.specs.declared.Seat.{Seat}
use Rattle.records.specs.Events.{seat_count}
use Rattle.bench.specs.declared.Bench.{Bench}

-- all of these tests hold
abbrev pub all_hold : List Bool → Bool
all_hold [] = true
all_hold (b ∷ bs) = b && all_hold bs

abbrev pub nought : ℕ → Bool
nought n = eqb n 0

-- n things, all of which pass a test
abbrev pub each_of : {A : Type 0} → ℕ → (A → Bool) → List A → Bool
each_of n test l = eqb (length l) n && all_hold (map test l)

abbrev pub character_tests : Character → List Bool
character_tests c = nought c.«data» ∷ nought c.marks ∷ []

abbrev pub zero_character : Character → Bool
zero_character c = all_hold (character_tests c)

abbrev pub queue_tests : Queue → List Bool
queue_tests q = each_of 16 zero_character q.slots ∷ nought q.count ∷ []

abbrev pub zero_queue : Queue → Bool
zero_queue q = all_hold (queue_tests q)

abbrev pub settings_tests : Settings → List Bool
settings_tests s = nought s.ier ∷ nought s.fcr ∷ nought s.lcr ∷ nought s.mcr ∷ nought s.scratch ∷ nought s.dll ∷ nought s.dlm ∷ []

abbrev pub zero_settings : Settings → Bool
zero_settings s = all_hold (settings_tests s)

abbrev pub receiver_tests : Receiver → List Bool
receiver_tests r = zero_queue r.queue ∷ not r.overrun ∷ nought r.kept ∷ nought r.timeout ∷ nought r.last ∷ []

abbrev pub zero_receiver : Receiver → Bool
zero_receiver r = all_hold (receiver_tests r)

abbrev pub transmitter_tests : Transmitter → List Bool
transmitter_tests t = zero_queue t.queue ∷ not t.busy ∷ nought t.shift ∷ not t.flag ∷ []

abbrev pub zero_transmitter : Transmitter → Bool
zero_transmitter t = all_hold (transmitter_tests t)

abbrev pub modem_tests : Modem → List Bool
modem_tests m = nought m.levels ∷ nought m.changes ∷ []

abbrev pub zero_modem : Modem → Bool
zero_modem m = all_hold (modem_tests m)

abbrev pub channel_tests : Channel → List Bool
channel_tests c = zero_settings c.settings ∷ zero_receiver c.receiver ∷ zero_transmitter c.transmitter ∷ zero_modem c.modem ∷ []

abbrev pub zero_channel : Channel → Bool
zero_channel c = all_hold (channel_tests c)

abbrev pub lines_tests : Lines → List Bool
lines_tests l = nought l.levels ∷ nought l.latches ∷ []

abbrev pub zero_lines : Lines → Bool
zero_lines l = all_hold (lines_tests l)

abbrev pub setup_tests : Setup → List Bool
setup_tests s = nought s.stage ∷ not s.level ∷ nought s.base ∷ not s.automatic ∷ []

abbrev pub zero_setup : Setup → Bool
zero_setup s = all_hold (setup_tests s)

abbrev pub operation_tests : Operation → List Bool
operation_tests o = nought o.mask ∷ nought o.service ∷ nought o.first ∷ not o.rotation ∷ not o.special ∷ not o.selected ∷ []

abbrev pub zero_operation : Operation → Bool
zero_operation o = all_hold (operation_tests o)

abbrev pub controller_tests : Controller → List Bool
controller_tests c = zero_lines c.lines ∷ zero_setup c.setup ∷ zero_operation c.operation ∷ []

abbrev pub zero_controller : Controller → Bool
zero_controller c = all_hold (controller_tests c)

abbrev pub tallies_tests : Tallies → List Bool
tallies_tests t = nought t.arrived ∷ nought t.read ∷ nought t.lost ∷ nought t.dropped ∷ []

abbrev pub zero_tallies : Tallies → Bool
zero_tallies t = all_hold (tallies_tests t)

abbrev pub seat_tests : Seat → List Bool
seat_tests s = zero_tallies s.tallies ∷ zero_channel s.channel ∷ []

abbrev pub zero_seat : Seat → Bool
zero_seat s = all_hold (seat_tests s)

abbrev pub bench_tests : Bench → List Bool
bench_tests b = each_of seat_count zero_seat b.seats ∷ zero_controller b.controller ∷ []

abbrev pub zeroed : Bench → Bool
zeroed b = all_hold (bench_tests b)
