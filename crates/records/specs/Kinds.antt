-- The kinds of events by name: the numbers of document 01's list.
use Rattle.std.specs.Prelude.{ℕ}

-- "0 read register"
abbrev pub read_register_kind : ℕ
read_register_kind = 0

-- "1 write register"
abbrev pub write_register_kind : ℕ
write_register_kind = 1

-- "2 character arrives"
abbrev pub arrival_kind : ℕ
arrival_kind = 2

-- "3 modem inputs"
abbrev pub modem_inputs_kind : ℕ
modem_inputs_kind = 3

-- "4 one character time passes"
abbrev pub character_time_kind : ℕ
character_time_kind = 4

-- "5 master reset of all eight seats"
abbrev pub master_reset_kind : ℕ
master_reset_kind = 5

-- "6 read controller"
abbrev pub read_controller_kind : ℕ
read_controller_kind = 6

-- "7 write controller"
abbrev pub write_controller_kind : ℕ
write_controller_kind = 7

-- "8 acknowledge"
abbrev pub acknowledge_kind : ℕ
acknowledge_kind = 8
