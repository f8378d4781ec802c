-- The page of a seat. docs/TELLING.md has its pieces under `--show`: the state.
use Rattle.std.specs.Prelude.{ℕ, Bool, true, false, List, [], ◌∷◌, ◌++◌, map, eqb, replicate}
use Rattle.base.specs.Pick.{pick}
use Rattle.text.specs.Line.{space, decimal}
use Rattle.text.specs.Quoted.{quoted}
use Rattle.page.specs.Pieces.{letter}
use Rattle.page.specs.Pages.{headed, joined_all, ended}
use Rattle.page.specs.declared.Page.{Page}
use Rattle.names.specs.Words.{iir_words, lsr_said, msr_said, marks_named, marks_said}
use Rattle.queue.specs.declared.Character.{Character}
use Rattle.queue.specs.declared.Queue.{Queue}
use Rattle.queue.specs.Queue.{contents}
use Rattle.receiver.specs.declared.Receiver.{Receiver}
use Rattle.transmitter.specs.declared.Transmitter.{Transmitter}
use Rattle.channel.specs.declared.Channel.{Channel}
use Rattle.channel.specs.Parts.{in_loopback}
use Rattle.channel.specs.Status.{lsr, iir, msr, line}
use Rattle.seat.specs.declared.Five.{Five}
use Rattle.seat.specs.declared.Seat.{Seat}
use Rattle.seat.specs.Seats.{five}

-- "A head is 12 blanks, the name and `: `, as in `seat 2: ` and `controller: `."
unfoldable pub seat_head : ℕ → List ℕ
seat_head n = replicate 12 space ++ (quoted "seat " ++ (decimal n ++ quoted ": "))

-- "1. LSR, IIR and MSR, each as a read would tell it, and nothing changes"
unfoldable pub read_pieces : Channel → List (List ℕ)
read_pieces c = lsr_said (lsr c) ∷ iir_words (iir c) ∷ msr_said (msr c) ∷ []

-- "`line high` or `line low`"
unfoldable pub line_words : Channel → List ℕ
line_words c = pick (line c) (quoted "line high") (quoted "line low")

-- "2. `line high` or `line low`; `loopback` where it is on"; "A piece that is empty is left out."
unfoldable pub line_pieces : Channel → List (List ℕ)
line_pieces c = line_words c ∷ pick (in_loopback c) (quoted "loopback") [] ∷ []

-- "a letter, and its marks as in an arrival"; of a queue whose characters have none, "a letter each"
unfoldable pub character_words : Bool → Character → List ℕ
character_words marks ch = letter ch.«data» ++ pick marks (marks_said ch.marks) []

-- "the number in the receive queue; then, oldest first, a piece for each character there", and so of the transmit queue
unfoldable pub queue_pieces : List ℕ → Bool → Queue → List (List ℕ)
queue_pieces words marks q = (words ++ decimal q.count) ∷ map (character_words marks) (contents q)

-- "`shift register L`, a letter, where a byte is in it"
unfoldable pub shift_words : Transmitter → List ℕ
shift_words t = pick t.busy (quoted "shift register " ++ letter t.shift) []

-- "3. `received N`", "4. `to send N`"
unfoldable pub queues_pieces : Channel → List (List ℕ)
queues_pieces c =
    queue_pieces (quoted "received ") true c.receiver.queue
    ++ (queue_pieces (quoted "to send ") false c.transmitter.queue ++ (shift_words c.transmitter ∷ []))

-- "`time-out count N` where it is not 0"
unfoldable pub timeout_words : Receiver → List ℕ
timeout_words r = pick (eqb r.timeout 0) [] (quoted "time-out count " ++ decimal r.timeout)

-- "`kept marks` and their words, each behind a blank, where there are any"
unfoldable pub kept_words : Receiver → List ℕ
kept_words r = pick (eqb r.kept 0) [] (quoted "kept marks" ++ marks_named r.kept)

-- "5. `time-out count N` where it is not 0; `holding-empty flag` where it is set; `kept marks`"
unfoldable pub flag_pieces : Channel → List (List ℕ)
flag_pieces c = timeout_words c.receiver ∷ pick c.transmitter.flag (quoted "holding-empty flag") [] ∷ kept_words c.receiver ∷ []

-- "6. `arrived N`, `read N`, `lost N`, `dropped N`, `queued N`: the tallies"
unfoldable pub tally_pieces : Five → List (List ℕ)
tally_pieces t =
    (quoted "arrived " ++ decimal t.arrived)
    ∷ (quoted "read " ++ decimal t.read)
    ∷ (quoted "lost " ++ decimal t.lost)
    ∷ (quoted "dropped " ++ decimal t.dropped)
    ∷ (quoted "queued " ++ decimal t.queued)
    ∷ []

unfoldable pub channel_pieces : Channel → List (List ℕ)
channel_pieces c = read_pieces c ++ (line_pieces c ++ (queues_pieces c ++ flag_pieces c))

-- "Pieces of a seat"
unfoldable pub seat_pieces : Seat → List (List ℕ)
seat_pieces s = channel_pieces s.channel ++ tally_pieces (five s)

unfoldable pub seat_page : Seat → ℕ → Page
seat_page s n = ended (joined_all (headed (seat_head n)) (seat_pieces s))
