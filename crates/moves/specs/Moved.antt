-- What moved: pieces in the order of docs/TELLING.md, each only where it has changed by the record.
use Rattle.std.specs.Prelude.{ℕ, suc, Bool, not, ◌&&◌, List, [], ◌∷◌, ◌++◌, eqb}
use denote.Ref.{Bor}
use Rattle.base.specs.Pick.{pick}
use Rattle.base.specs.Bits.{bit}
use Rattle.text.specs.Quoted.{quoted}
use Rattle.text.specs.Line.{decimal}
use Rattle.receiver.specs.Receiver.{timeout_stands}
use Rattle.registers.specs.Loopback.{looped}
use Rattle.channel.specs.declared.Channel.{Channel}
use Rattle.channel.specs.Status.{lsr, msr}
use Rattle.records.specs.Events.{uses_seat, seat_above}
use Rattle.rank.specs.Rank.{line_at}
use Rattle.controller.specs.declared.Controller.{Controller}
use Rattle.controller.specs.State.{ready}
use Rattle.controller.specs.Turns.{output_of}

-- a number that has changed, behind its words
unfoldable pub counted : List ℕ → ℕ → ℕ → List ℕ
counted words before after = pick (eqb before after) [] (words ++ decimal after)

-- what is now so and was not, or was so and is not
unfoldable pub turned : Bool → Bool → List ℕ → List ℕ → List ℕ
turned before after on off = pick after (pick before [] on) (pick before off [])

-- the same of a bit
abbrev pub bit_turned : ℕ → ℕ → ℕ → List ℕ → List ℕ → List ℕ
bit_turned k before after on off = turned (bit k before) (bit k after) on off

-- a bit that is set and cleared, by its name; and bits from k on, each by its own
abbrev pub latch_moved : ℕ → ℕ → ℕ → List ℕ → List ℕ
latch_moved k before after name = bit_turned k before after (name ++ quoted " set") (name ++ quoted " cleared")

abbrev pub latches_moved : ℕ → ℕ → ℕ → List (Bor (List ℕ)) → List (List ℕ)
latches_moved k before after [] = []
latches_moved k before after (name ∷ names) = latch_moved k before after name.now ∷ latches_moved (suc k) before after names

-- ---- the seat that the record names

-- "queued N", "the number in the receive queue"; "to send N", "the number in the transmit queue"; "`shift register loaded`, `shift register
-- empty`", "whether a byte is in it"
unfoldable pub queues_moved : Channel → Channel → List (List ℕ)
queues_moved c c' =
    counted (quoted "queued ") c.receiver.queue.count c'.receiver.queue.count
    ∷ counted (quoted "to send ") c.transmitter.queue.count c'.transmitter.queue.count
    ∷ turned c.transmitter.busy c'.transmitter.busy (quoted "shift register loaded") (quoted "shift register empty")
    ∷ []

-- "`overrun set`, `overrun cleared`; so `parity`, `framing`, `break`": "LSR bits 1, 2, 3, 4, a piece each"
unfoldable pub troubles_moved : ℕ → ℕ → List (List ℕ)
troubles_moved before after =
    bit_turned 1 before after (quoted "overrun set") (quoted "overrun cleared")
    ∷ bit_turned 2 before after (quoted "parity set") (quoted "parity cleared")
    ∷ bit_turned 3 before after (quoted "framing set") (quoted "framing cleared")
    ∷ bit_turned 4 before after (quoted "break set") (quoted "break cleared")
    ∷ []

-- "`time-out set`, `time-out cleared`": "whether the time-out count is 4"; "`holding-empty flag set`, `holding-empty flag cleared`": "the flag"
unfoldable pub flags_moved : Channel → Channel → List (List ℕ)
flags_moved c c' =
    turned (timeout_stands c.receiver) (timeout_stands c'.receiver) (quoted "time-out set") (quoted "time-out cleared")
    ∷ turned c.transmitter.flag c'.transmitter.flag (quoted "holding-empty flag set") (quoted "holding-empty flag cleared")
    ∷ []

-- "`CTS-changed set`, `CTS-changed cleared`; so `DSR-changed`, `RI-ended`, `DCD-changed`": "MSR bits 0 to 3, a piece each"
unfoldable pub changes_moved : ℕ → ℕ → List (List ℕ)
changes_moved before after =
    bit_turned 0 before after (quoted "CTS-changed set") (quoted "CTS-changed cleared")
    ∷ bit_turned 1 before after (quoted "DSR-changed set") (quoted "DSR-changed cleared")
    ∷ bit_turned 2 before after (quoted "RI-ended set") (quoted "RI-ended cleared")
    ∷ bit_turned 3 before after (quoted "DCD-changed set") (quoted "DCD-changed cleared")
    ∷ []

-- "`loopback on`, `loopback off`": "MCR bit 4"
unfoldable pub loopback_moved : Channel → Channel → List ℕ
loopback_moved c c' = turned (looped c.settings.mcr) (looped c'.settings.mcr) (quoted "loopback on") (quoted "loopback off")

unfoldable pub channel_moved : Channel → Channel → List (List ℕ)
channel_moved c c' =
    queues_moved c c'
    ++ (troubles_moved (lsr c) (lsr c') ++ (flags_moved c c' ++ (changes_moved (msr c) (msr c') ++ (loopback_moved c c' ∷ []))))

-- "of the seat that the record names, for kinds 0 to 4 and a seat up to 7; of other records there are none of them"
unfoldable pub seat_moved : Channel → Channel → ℕ → ℕ → List (List ℕ)
seat_moved c c' kind n = pick (uses_seat kind && not (seat_above n)) (channel_moved c c') []

-- ---- the controller

-- "line N", and what happened to it
unfoldable pub line_words : ℕ → List ℕ → List ℕ
line_words n words = quoted "line " ++ (decimal n ++ words)

-- line n of two sets
unfoldable pub line_turned : ℕ → ℕ → ℕ → List ℕ → List ℕ → List ℕ
line_turned n before after on off = bit_turned n before after (line_words n on) (line_words n off)

-- "a piece a line, line 0 first"
unfoldable pub lines_turned : ℕ → ℕ → List ℕ → List ℕ → List (List ℕ)
lines_turned before after on off =
    line_turned 0 before after on off
    ∷ line_turned 1 before after on off
    ∷ line_turned 2 before after on off
    ∷ line_turned 3 before after on off
    ∷ line_turned 4 before after on off
    ∷ line_turned 5 before after on off
    ∷ line_turned 6 before after on off
    ∷ line_turned 7 before after on off
    ∷ []

-- "the first-ranked line"
abbrev pub first_line : Controller → ℕ
first_line k = line_at k.operation.first 0

-- "line N ranks first"
unfoldable pub first_moved : ℕ → ℕ → List ℕ
first_moved before after = pick (eqb before after) [] (line_words after (quoted " ranks first"))

-- "`controller ready`, `controller not ready`"
unfoldable pub ready_moved : Controller → Controller → List ℕ
ready_moved k k' = turned (ready k.setup) (ready k'.setup) (quoted "controller ready") (quoted "controller not ready")

-- "`output rises`, `output falls`": "the interrupt output"
unfoldable pub output_moved : Controller → Controller → List ℕ
output_moved k k' = turned (output_of k) (output_of k') (quoted "output rises") (quoted "output falls")

-- "`line N rises`, `line N falls`": "the levels that the controller sees"; "`line N in service`, `line N out of service`": "the lines in service, the
-- same"
unfoldable pub controller_moved : Controller → Controller → List (List ℕ)
controller_moved k k' =
    ready_moved k k'
    ∷ (lines_turned k.lines.levels k'.lines.levels (quoted " rises") (quoted " falls")
    ++ (lines_turned k.operation.service k'.operation.service (quoted " in service") (quoted " out of service")
    ++ (first_moved (first_line k) (first_line k') ∷ output_moved k k' ∷ [])))
