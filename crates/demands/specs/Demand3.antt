-- Demand 3 for the bench: its premises over the bench and its records, its conclusion over what the acknowledges answer.
use Rattle.std.specs.Prelude.{ℕ, Bool, true, false, not, List, [], ◌∷◌, ◌++◌, ◌≡◌, ◌⊎◌, Ok, Err}
use Rattle.base.specs.declared.Answer.{Answer}
use Rattle.base.specs.declared.Answer.TheVariants.{Vector}
use Rattle.controller.specs.Turns.{vector}
use Rattle.controller.specs.declared.Controller.{Controller}
use Rattle.turn.specs.Waiting.{Start, word, MayWrite, paid}
use Rattle.turn.specs.Demand3.{InTurn}
use Rattle.seat.specs.Seats.{line}
use Rattle.records.specs.declared.Event.TheVariants.{OfSeat, MasterReset, ReadController, WriteController, Acknowledge}
use Rattle.records.specs.Events.{Record, decoded, Decoded}
use Rattle.bench.specs.declared.Bench.{Bench}
use Rattle.bench.specs.Seats.{seat, power_up}
use Rattle.bench.specs.Runs.{after_all}
use Rattle.bench.specs.Steps.{outcome}
use Rattle.bench.specs.Wired.{Wired}

-- The tender: with no initialisation, set-priority, special-mask, rotation on or off, or other end command meanwhile, and unmasked. A write is
-- none of these and leaves the mask bit of line n clear; an acknowledge comes only where no end is owed; anything else may come: every event
-- of every seat, a master reset, a read, and whatever is refused
abbrev pub Calm : ℕ → Bool → Decoded → Type 0
Calm n owed (Ok (OfSeat m e)) = Unit
Calm n owed (Ok MasterReset) = Unit
Calm n owed (Ok (ReadController port)) = Unit
Calm n owed (Ok (WriteController port byte)) = MayWrite n byte (word port byte)
Calm n owed (Ok Acknowledge) = owed ≡ false
Calm n owed (Err number) = Unit

-- The tender: without automatic end every grant is followed by one rotating non-specific end before the next acknowledge. Whether an end is
-- owed after the record
abbrev pub owing : Controller → Bool → Decoded → Bool
owing c owed (Ok (OfSeat m e)) = owed
owing c owed (Ok MasterReset) = owed
owing c owed (Ok (ReadController port)) = owed
owing c owed (Ok (WriteController port byte)) = paid owed (word port byte)
owing c owed (Ok Acknowledge) = not c.setup.automatic
owing c owed (Err number) = owed

-- the answer of an acknowledge; any other record has none to show here
abbrev pub heard : Decoded → Answer → List Answer
heard (Ok (OfSeat m e)) a = []
heard (Ok MasterReset) a = []
heard (Ok (ReadController port)) a = []
heard (Ok (WriteController port byte)) a = []
heard (Ok Acknowledge) a = a ∷ []
heard (Err number) a = []

-- what the acknowledges among the records answer, first to last
abbrev pub told : Bench → List Record → List Answer
told b [] = []
told b (r ∷ rs) = heard (decoded r) (outcome b r).answer ++ told (outcome b r).bench rs

-- The tender: until it is granted. The record is an acknowledge, and its answer names line n
abbrev pub Names : ℕ → Controller → Decoded → Answer → Type 0
Names n c d a = heard d a ≡ Vector (vector c.setup n) ∷ []

-- The tender: let its line stay high and unmasked until it is granted. Every record is calm, and the bench after it is as a rule asks; from the
-- record on that names line n, nothing is asked
abbrev pub KeptWaitingBy : (ℕ → Bench → Type 0) → ℕ → Bool → Bench → List Record → Type 0
KeptWaitingBy stays n owed b [] = Unit
KeptWaitingBy stays n owed b (r ∷ rs) =
    Calm n owed (decoded r)
    × (Names n b.controller (decoded r) (outcome b r).answer
    ⊎ (stays n (outcome b r).bench × KeptWaitingBy stays n (owing b.controller owed (decoded r)) (outcome b r).bench rs))

-- the rule: the line of seat n is high
abbrev pub High : ℕ → Bench → Type 0
High n b = line (seat b n) ≡ true

abbrev pub KeptWaiting : ℕ → Bool → Bench → List Record → Type 0
KeptWaiting n owed b rs = KeptWaitingBy High n owed b rs

-- The tender: only seats ahead of it at the start are granted before it, each at most once, and the eighth acknowledge at the latest names it.
-- The start is that of one controller, its line n that of seat n
unfoldable pub Demand3 : Type 0
Demand3 = (b : Bench) (n : ℕ) (rs : List Record) → Wired b → Start b.controller n → KeptWaiting n false b rs → InTurn b.controller n (told b rs)

-- and from power-up on nothing is asked of the bench: it is the one that any records leave
abbrev pub Demand3FromPowerUp : Type 0
Demand3FromPowerUp = (before : List Record) (n : ℕ) (rs : List Record) → Start (after_all power_up before).controller n
    → KeptWaiting n false (after_all power_up before) rs → InTurn (after_all power_up before).controller n (told (after_all power_up before) rs)
