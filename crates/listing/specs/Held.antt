-- A record as the code holds it: its four bytes, unless the input cuts it off.
use Rattle.std.specs.Prelude.{Option, Some, None}
use Rattle.base.specs.declared.Whole.{Whole}
use Rattle.records.specs.Events.{Record, short, record_of}

-- the record that it holds
abbrev pub held_record : Option Whole → Record
held_record None = short
held_record (Some w) = record_of w
