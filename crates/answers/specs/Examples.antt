-- What came of a record by examples, as a class reads them.
use Rattle.std.specs.Prelude.{true, false, [], ◌≡◌}
use Rattle.base.specs.declared.Answer.TheVariants.{Byte, Letter, Done, Sent, Idle, Break, Vector, Spurious, Refused}
use Rattle.text.specs.Quoted.{quoted}
use Rattle.answers.specs.Came.{came_of}

pub record Examples : Type 0 where
  pub letter : came_of 0 0 false false false (Letter 0x47 (record { marks = 0; behind = 0 })) ≡ quoted "RBR 47 'G'"
  pub behind : came_of 0 0 false false false (Letter 0x0D (record { marks = 1; behind = 15 })) ≡ quoted "RBR 0D with parity, 15 behind"
  pub again : came_of 0 0 false false true (Letter 0x47 (record { marks = 0; behind = 0 })) ≡ quoted "RBR 47 'G' again: nothing waits"
  pub cause : came_of 0 2 false false false (Byte 0xCC) ≡ quoted "IIR CC: time-out"
  pub line_status : came_of 0 5 true false false (Byte 0x60) ≡ quoted "LSR 60: holding-empty empty"
  pub modem_status : came_of 0 6 false false false (Byte 0x10) ≡ quoted "MSR 10: CTS"
  pub divisor : came_of 0 1 true false false (Byte 0x0C) ≡ quoted "DLM 0C"
  pub scratch : came_of 0 7 false false false (Byte 0x5A) ≡ quoted "SCRATCH 5A"
  pub requests : came_of 6 0 false false false (Byte 0x24) ≡ quoted "requests 24: lines 2 5"
  pub service : came_of 6 0 false true false (Byte 0x04) ≡ quoted "in service 04: line 2"
  pub mask : came_of 6 1 false true false (Byte 0x00) ≡ quoted "mask 00: no line"
  pub sent : came_of 4 0 false false false (Sent 0x47) ≡ quoted "sent 47 'G'"
  pub idle : came_of 4 0 false false false Idle ≡ quoted "nothing is sent"
  pub broken : came_of 4 0 false false false Break ≡ quoted "break is sent"
  pub vector : came_of 8 0 false false false (Vector 0x42) ≡ quoted "vector 42: line 2"
  pub spurious : came_of 8 0 false false false (Spurious 0x47) ≡ quoted "vector 47: spurious"
  pub done : came_of 1 3 false false false Done ≡ []
  pub refused : came_of 0 9 false false false (Refused 2) ≡ quoted "refused 2: register above 7, port above 1"
