-- The table of causes has the rows of the definition.
use Rattle.std.specs.Prelude.{ℕ, map, ◌≡◌}
use Rattle.registers.specs.declared.Settings.{Settings}
use Rattle.receiver.specs.declared.Receiver.{Receiver}
use Rattle.transmitter.specs.declared.Transmitter.{Transmitter}
use Rattle.status.specs.Status.{causes}
use Rattle.status.specs.StatusLaws.{line_trouble_lem}
use Rattle.status.specs.Table.{table, standing, asked}

-- ticket 3: "Same answers, same promise.": the rows of the table, asked of the conditions that hold, are the causes that document 01
-- lists, in their order
pub table_followed : (s : Settings) (r : Receiver) (t : Transmitter) (changes : ℕ)
    → map (asked s.ier (standing s r t changes)) table ≡ causes s r t changes
unfolding causes
table_followed s r t changes = rw line_trouble_lem
