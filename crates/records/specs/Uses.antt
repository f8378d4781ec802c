-- Which bytes of a record its kind uses.
use Rattle.std.specs.Prelude.{ℕ, Bool, true, ◌||◌, ◌≡◌, eqb}
use Rattle.records.specs.Kinds as kinds
use Rattle.records.specs.Events.{uses_seat}

-- "0 read register seat, register, - the byte"; "1 write register seat, register, byte 000"; "2 character arrives seat, marks (1 parity, 2
-- framing, 4 break), data 000"; "6 read controller -, port the byte"; "7 write controller -, port, byte 000"
abbrev pub uses_number : ℕ → Bool
uses_number kind = eqb kind kinds.read_register_kind || eqb kind kinds.write_register_kind || eqb kind kinds.arrival_kind || eqb kind kinds.read_controller_kind || eqb kind kinds.write_controller_kind

-- "1 write register seat, register, byte 000"; "2 character arrives seat, marks (1 parity, 2 framing, 4 break), data 000"; "3 modem inputs
-- seat, -, levels (1 CTS, 2 DSR, 4 RI, 8 DCD; set = active) 000"; "7 write controller -, port, byte 000"
abbrev pub uses_value : ℕ → Bool
uses_value kind = eqb kind kinds.write_register_kind || eqb kind kinds.arrival_kind || eqb kind kinds.modem_inputs_kind || eqb kind kinds.write_controller_kind

-- "Bytes that a kind does not use are not looked at.": two records of a kind agree on the bytes that it uses
pub record Agree (kind s n v s' n' v' : ℕ) : Type 0 where
  pub seats : uses_seat kind ≡ true → s ≡ s'
  pub numbers : uses_number kind ≡ true → n ≡ n'
  pub values : uses_value kind ≡ true → v ≡ v'
