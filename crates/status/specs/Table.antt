-- The table of causes as the code walks it. What is promised stays with `cause_of` of Status: the law of TableLaws says that the rows are the same.
use Rattle.std.specs.Prelude.{ℕ, Bool, List, [], ◌∷◌}
use Rattle.base.specs.Bits.{bit}
use Rattle.registers.specs.declared.Settings.{Settings}
use Rattle.registers.specs.Words.{trigger}
use Rattle.registers.specs.Modem.{some_change}
use Rattle.receiver.specs.declared.Receiver.{Receiver}
use Rattle.receiver.specs.Receiver.{troubled, data_stands, timeout_stands}
use Rattle.transmitter.specs.declared.Transmitter.{Transmitter}
use Rattle.status.specs.declared.Row.{Row}
use Rattle.status.specs.declared.standing.Standing.{Standing}
use Rattle.status.specs.declared.standing.When.{When}
use Rattle.status.specs.declared.standing.When.TheVariants.{Trouble, Data, Timeout, Flag, Change}
use Rattle.status.specs.Status.{Cause}

-- ticket 3: "Make it follow a table of causes in order of priority, one row each.": a row is the code of a cause, the bit of the IER that enables
-- it, and when it stands
abbrev pub table : List Row
table =
    record { 0 = 0x06; 1 = 2; 2 = Trouble }
    ∷ record { 0 = 0x04; 1 = 0; 2 = Data }
    ∷ record { 0 = 0x0C; 1 = 0; 2 = Timeout }
    ∷ record { 0 = 0x02; 1 = 1; 2 = Flag }
    ∷ record { 0 = 0x00; 1 = 3; 2 = Change }
    ∷ []

-- which conditions hold, by these settings, these two sides and these changes
abbrev pub standing : Settings → Receiver → Transmitter → ℕ → Standing
standing s r t changes =
    record {
      trouble = troubled (bit 0 s.fcr) r;
      «data» = data_stands (bit 0 s.fcr) (trigger s.fcr) r;
      timeout = timeout_stands r;
      flag = t.flag;
      change = some_change changes;
    }

-- whether the one that a row asks for is among them
abbrev pub holds : Standing → When → Bool
holds s Trouble = s.trouble
holds s Data = s.«data»
holds s Timeout = s.timeout
holds s Flag = s.flag
holds s Change = s.change

-- a row as a cause, by an IER and the conditions that hold
abbrev pub asked : ℕ → Standing → Row → Cause
asked ier stood row = record { code = row.0; enabled = bit row.1 ier; stands = holds stood row.2 }
