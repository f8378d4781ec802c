-- The premises of demand 3: the start, and what may reach the controller while a line waits.
use Rattle.std.specs.Prelude.{ℕ, ◌/◌, ◌%◌, ◌<◌, Bool, true, false, not, List, [], ◌∷◌, ◌≡◌, ◌⊎◌, eqb}
use Rattle.base.specs.Pick.{pick}
use Rattle.base.specs.Bits.{bit}
use Rattle.base.specs.declared.Answer.TheVariants.{Vector}
use Rattle.rank.specs.Sets.{has}
use Rattle.controller.specs.State.{ready}
use Rattle.controller.specs.Signals.{Signal, levels, read, write, acknowledge}
use Rattle.controller.specs.Turns.{requests, vector}
use Rattle.controller.specs.Words.{is_icw1, is_ocw3}
use Rattle.controller.specs.Refusals.{icw1_served}
use Rattle.controller.specs.Steps.{step}
use Rattle.controller.specs.declared.Controller.{Controller}
use Rattle.turn.specs.Runs.{after}

-- The tender: the controller is ready, nothing in service, special mask off; automatic end with rotation is on, or automatic end is off;
-- and the request of line t stands, unmasked
pub record Start (c : Controller) (t : ℕ) : Type 0 where
  pub line : t < 8
  pub up : ready c.setup ≡ true
  pub idle : c.operation.service ≡ 0
  pub plain : c.operation.special ≡ false
  pub turns : ((c.setup.automatic ≡ true) × (c.operation.rotation ≡ true)) ⊎ (c.setup.automatic ≡ false)
  pub stands : has (requests c) t ≡ true
  pub unmasked : has c.operation.mask t ≡ false

-- what demand 3 tells apart among the words written to a ready controller: the mask, the rotating non-specific end, those that it bars,
-- and those that do no harm (OCW2 010, a selection for reading, and every word that is refused)
pub data Word : Type 0 where
  mask : Word
  rotating : Word
  barred : Word
  harmless : Word

-- The tender bars initialisation, set-priority, special-mask, rotation on or off, and any other end command
unfoldable pub word0 : ℕ → Word
word0 b =
    pick (is_icw1 b) (pick (icw1_served b) barred harmless)
    (pick (is_ocw3 b) (pick (bit 2 b) harmless (pick (bit 6 b) barred harmless))
    (pick (eqb (b / 32 % 8) 0b101) rotating (pick (eqb (b / 32 % 8) 0b010) harmless barred)))

-- and at any port
unfoldable pub word : ℕ → ℕ → Word
word port b = pick (eqb port 0) (word0 b) (pick (eqb port 1) mask harmless)

-- The tender lets the masks of other lines move: its own mask bit stays clear
abbrev pub MayWrite : ℕ → ℕ → Word → Type 0
MayWrite t b mask = has b t ≡ false
MayWrite t b rotating = Unit
MayWrite t b barred = ⊥
MayWrite t b harmless = Unit

-- The tender: its line stays high. An acknowledge comes only where no end is owed
abbrev pub May : ℕ → Bool → Signal → Type 0
May t owed (levels high) = has high t ≡ true
May t owed (read port) = Unit
May t owed (write port b) = MayWrite t b (word port b)
May t owed acknowledge = owed ≡ false

-- The tender: without automatic end every grant is followed by one rotating non-specific end before the next acknowledge. So an
-- acknowledge owes an end, and a rotating end pays it
abbrev pub paid : Bool → Word → Bool
paid owed mask = owed
paid owed rotating = false
paid owed barred = owed
paid owed harmless = owed

-- whether an end is owed after a signal
abbrev pub owes : Controller → Bool → Signal → Bool
owes c owed (levels high) = owed
owes c owed (read port) = owed
owes c owed (write port b) = paid owed (word port b)
owes c owed acknowledge = not c.setup.automatic

-- The tender: until it is granted. The signal is an acknowledge that names line t
abbrev pub Names : ℕ → Controller → Signal → Type 0
Names t c (levels high) = ⊥
Names t c (read port) = ⊥
Names t c (write port b) = ⊥
Names t c acknowledge = (step c acknowledge).answer ≡ Vector (vector c.setup t)

-- each signal may come, by a rule that says which, until one names the line; after that nothing is asked
abbrev pub WaitsBy : (ℕ → Bool → Signal → Type 0) → ℕ → Bool → Controller → List Signal → Type 0
WaitsBy may t owed c [] = Unit
WaitsBy may t owed c (signal ∷ rest) = may t owed signal × (Names t c signal ⊎ WaitsBy may t (owes c owed signal) (after c signal) rest)

-- and by the tender's rule
abbrev pub Waits : ℕ → Bool → Controller → List Signal → Type 0
Waits t owed c signals = WaitsBy May t owed c signals
