-- Closed runs from power-up, by computation: the premises of demand 3 are met, and the eighth acknowledge is the first that names line 7.
use Prim.Native.Nat.{ℕ}
use mathlib.Core.Bool.{false}
use mathlib.Core.List.{List, [], ◌∷◌, ◌++◌}
use mathlib.Core.Path.{◌≡◌, refl}
use mathlib.Core.Logic.{inl, inr}
use native.Mathlib.Omega.{arith}
use Rattle.base.specs.declared.Answer.{Answer}
use Rattle.base.specs.declared.Answer.TheVariants.{Vector}
use Rattle.turn.specs.Waiting.{Start}
use Rattle.turn.specs.Demand3.{InTurn}
use Rattle.records.specs.Events.{Record, whole, short}
use Rattle.bench.specs.declared.Bench.{Bench}
use Rattle.bench.specs.Seats.{power_up}
use Rattle.bench.specs.Runs.{after_all}
use Rattle.demands.specs.Demand3.{told, KeptWaiting}
use Rattle.demands.proofs.Demand3.{demand_3_from_power_up}
use Rattle.demands.proofs.Opened.{laid_open}

-- seat n calls: MCR 08, IER 08, and CTS becomes active
unfoldable pub calls : ℕ → List Record
calls n = whole 1 n 4 0x08 ∷ whole 1 n 1 0x08 ∷ whole 3 n 0 1 ∷ []

unfoldable pub all_call : List Record
all_call = calls 0 ++ calls 1 ++ calls 2 ++ calls 3 ++ calls 4 ++ calls 5 ++ calls 6 ++ calls 7

-- the acknowledge
unfoldable pub asks : Record
asks = whole 8 0 0 0

unfoldable pub in_order : List Answer
in_order = Vector 0x40 ∷ Vector 0x41 ∷ Vector 0x42 ∷ Vector 0x43 ∷ Vector 0x44 ∷ Vector 0x45 ∷ Vector 0x46 ∷ Vector 0x47 ∷ []

-- the premises hold, and these are the answers
abbrev pub Closed : Bench → List Record → List Answer → Type 0
Closed b rs answers = Start b.controller 7 × KeptWaiting 7 false b rs × (told b rs ≡ answers)

-- ---- level mode, automatic end with rotation, all eight seats call

unfoldable pub set_automatic : List Record
set_automatic = whole 7 0 0 0x1B ∷ whole 7 0 1 0x40 ∷ whole 7 0 1 0x03 ∷ whole 7 0 0 0x80 ∷ all_call

unfoldable pub eight : List Record
eight = asks ∷ asks ∷ asks ∷ asks ∷ asks ∷ asks ∷ asks ∷ asks ∷ []

pub automatic_closed : Closed (after_all power_up set_automatic) eight in_order
unfolding laid_open in_order set_automatic all_call calls eight asks
automatic_closed = (
  record { line = omega arith; up = refl; idle = refl; plain = refl; turns = inl (refl, refl); stands = refl; unmasked = refl },
  (refl, inr (refl, (refl, inr (refl, (refl, inr (refl, (refl, inr (refl, (refl, inr (refl, (refl, inr (refl, (refl, inr (refl, (refl, inl refl))))))))))))))),
  refl,
)

automatic_in_turn : InTurn (after_all power_up set_automatic).controller 7 (told (after_all power_up set_automatic) eight)
automatic_in_turn = demand_3_from_power_up set_automatic 7 eight automatic_closed.0 automatic_closed.1

-- ---- edge mode, ends by command, all eight seats call: a seat that is named has its MSR read, so that its line falls, the grant is ended
-- with rotation, and the seat calls again at once

set_manual : List Record
set_manual = whole 7 0 0 0x13 ∷ whole 7 0 1 0x40 ∷ whole 7 0 1 0x01 ∷ all_call

serves : ℕ → List Record
serves n = asks ∷ whole 0 n 6 0 ∷ whole 7 0 0 0xA0 ∷ whole 3 n 0 0 ∷ []

served_each : List Record
served_each = serves 0 ++ serves 1 ++ serves 2 ++ serves 3 ++ serves 4 ++ serves 5 ++ serves 6 ++ (asks ∷ [])

manual_closed : Closed (after_all power_up set_manual) served_each in_order
unfolding laid_open in_order set_manual all_call calls served_each serves asks
manual_closed = (
  record { line = omega arith; up = refl; idle = refl; plain = refl; turns = inr refl; stands = refl; unmasked = refl },
  (refl, inr (refl, (tt, inr (refl, (tt, inr (refl, (tt, inr (refl, (refl, inr (refl, (tt, inr (refl, (tt, inr (refl, (tt, inr (refl, (refl, inr (refl, (tt, inr (refl, (tt, inr (refl, (tt, inr (refl, (refl, inr (refl, (tt, inr (refl, (tt, inr (refl, (tt, inr (refl, (refl, inr (refl, (tt, inr (refl, (tt, inr (refl, (tt, inr (refl, (refl, inr (refl, (tt, inr (refl, (tt, inr (refl, (tt, inr (refl, (refl, inr (refl, (tt, inr (refl, (tt, inr (refl, (tt, inr (refl, (refl, inl refl))))))))))))))))))))))))))))))))))))))))))))))))))))))))),
  refl,
)

manual_in_turn : InTurn (after_all power_up set_manual).controller 7 (told (after_all power_up set_manual) served_each)
manual_in_turn = demand_3_from_power_up set_manual 7 served_each manual_closed.0 manual_closed.1

-- ---- from there, with masks that move, OCW2 010, which does nothing, reads of the controller and of seat 7 itself, a line of another seat
-- that falls, and records that are refused: the third acknowledge names line 7

restless : List Record
restless =
    whole 7 0 1 0x7E ∷ asks ∷ whole 7 0 0 0x40 ∷ whole 7 0 0 0x10 ∷ whole 9 0 0 0 ∷ whole 0 8 0 0 ∷ short ∷ whole 7 0 0 0xA0
    ∷ whole 6 0 1 0 ∷ whole 0 1 6 0 ∷ whole 0 7 5 0 ∷ whole 7 0 1 0x6F ∷ whole 7 0 0 0x0B ∷ asks ∷ whole 7 0 0 0xA0 ∷ whole 3 2 0 16
    ∷ whole 7 2 2 0xC7 ∷ whole 7 0 1 0x00 ∷ whole 7 0 1 0x7F ∷ asks ∷ []

restless_closed : Closed (after_all power_up set_manual) restless (Vector 0x40 ∷ Vector 0x44 ∷ Vector 0x47 ∷ [])
unfolding laid_open set_manual all_call calls restless asks
restless_closed = (
  record { line = omega arith; up = refl; idle = refl; plain = refl; turns = inr refl; stands = refl; unmasked = refl },
  (refl, inr (refl, (refl, inr (refl, (tt, inr (refl, (tt, inr (refl, (tt, inr (refl, (tt, inr (refl, (tt, inr (refl, (tt, inr (refl, (tt, inr (refl, (tt, inr (refl, (tt, inr (refl, (refl, inr (refl, (tt, inr (refl, (refl, inr (refl, (tt, inr (refl, (tt, inr (refl, (tt, inr (refl, (refl, inr (refl, (refl, inr (refl, (refl, inl refl))))))))))))))))))))))))))))))))))))))),
  refl,
)
