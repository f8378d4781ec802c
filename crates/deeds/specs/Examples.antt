-- What was done by examples, as a class reads them.
use Rattle.std.specs.Prelude.{true, false, ◌≡◌}
use Rattle.text.specs.Quoted.{quoted}
use Rattle.controller.specs.State.{power_up}
use Rattle.deeds.specs.Done.{whole_done, word_at1, controller_read_done, cut_done}

-- at a controller that has just been switched on
pub record Examples : Type 0 where
  pub reads : whole_done 0 2 5 0 false power_up ≡ quoted "seat 2 reads LSR"
  pub reads_above : whole_done 0 2 9 0 false power_up ≡ quoted "seat 2 reads register 9"
  pub writes : whole_done 1 2 3 0x83 false power_up ≡ quoted "seat 2 writes LCR 83"
  pub writes_divisor : whole_done 1 2 0 0x0C true power_up ≡ quoted "seat 2 writes DLL 0C"
  pub sends : whole_done 1 7 0 0x47 false power_up ≡ quoted "seat 7 writes THR 47 'G'"
  pub writes_above : whole_done 1 9 200 0x47 false power_up ≡ quoted "seat 9 writes register 200 47"
  pub arrives : whole_done 2 2 0 0x47 false power_up ≡ quoted "47 'G' arrives at seat 2"
  pub arrives_marked : whole_done 2 0 6 0x00 false power_up ≡ quoted "00 arrives at seat 0 with framing break"
  pub inputs : whole_done 3 1 0 9 false power_up ≡ quoted "modem inputs of seat 1: CTS DCD"
  pub no_inputs : whole_done 3 1 0 0 false power_up ≡ quoted "modem inputs of seat 1: none"
  pub time : whole_done 4 3 0 0 false power_up ≡ quoted "a character time at seat 3"
  pub reset : whole_done 5 0 0 0 false power_up ≡ quoted "master reset of all eight seats"
  pub reads_requests : whole_done 6 0 0 0 false power_up ≡ quoted "controller reads requests"
  pub reads_service : controller_read_done 0 true ≡ quoted "controller reads in service"
  pub reads_mask : whole_done 6 0 1 0 false power_up ≡ quoted "controller reads mask"
  pub reads_port : whole_done 6 0 2 0 false power_up ≡ quoted "controller reads port 2"
  pub begins : whole_done 7 0 0 0x13 false power_up ≡ quoted "controller writes ICW1 13"
  pub ends : whole_done 7 0 0 0x20 false power_up ≡ quoted "controller writes OCW2 20"
  pub selects : whole_done 7 0 0 0x0B false power_up ≡ quoted "controller writes OCW3 0B"
  pub too_soon : whole_done 7 0 1 0x40 false power_up ≡ quoted "controller writes port 1 40"
  pub second : word_at1 1 ≡ quoted "ICW2"
  pub fourth : word_at1 2 ≡ quoted "ICW4"
  pub masks : word_at1 3 ≡ quoted "OCW1"
  pub writes_port : whole_done 7 0 2 0x40 false power_up ≡ quoted "controller writes port 2 40"
  pub acknowledges : whole_done 8 0 0 0 false power_up ≡ quoted "acknowledge"
  pub no_kind : whole_done 9 0 0 0 false power_up ≡ quoted "a record of kind 9"
  pub cut_off : cut_done ≡ quoted "a record cut off"
