-- What Once and Free refuse: contracts such as these, which would leave a second outcome or shut out a caller.
use Prim.Native.Nat.{◌<◌}
use mathlib.Core.Path.{◌≡◌, refl, ap}
use mathlib.Core.Logic.{∥∥₁_elim}
use mathlib.Core.HLevel.{⊥_prop}
use mathlib.Core.List.{[]}
use native.Mathlib.Omega.{arith}
use base.Logic.{SProp, ent, emp, via}
use contract.Monad.{conj, conj_i, fact, fact_i}
use contract.Lifetimes.{Lfts}
use denote.Triple.Entry.{Args, Res}
use denote.Triple.Clauses.{Ended, Lasts, at_exit}
use borrow.Fn.World.{w₀}
use lib.ListN.{length}
use Rattle.records.specs.Events.{whole, seat_count}
use Rattle.bench.specs.declared.Bench.{Bench}
use Rattle.bench.specs.Seats.{power_up}
use Rattle.bench.specs.Steps.{outcome}
use Rattle.c_word.specs.Word.{word_of}
use Rattle.embed.specs.contracts as embed
use Rattle.rates.specs.contracts as rates
use Rattle.demands.specs.Once.{Free, Once, Proved, Written}
use Rattle.demands.proofs.Once.{Fact, clauses, closed, plainly}

-- the model in which the toolchain closes its theorems
abbrev Model : Type 1
Model = w₀.M

-- what follows from nothing there is so
so : (φ : Type 0) → (φ → ⊥) → ent w₀.𝓤 (emp w₀.𝓤) (fact w₀.𝓤 φ) → ⊥
so φ never e = ∥∥₁_elim (e.apply w₀.𝓤.one tt) ⊥_prop (λ t. never t.0)

-- a contract for the types of a call that says this fact
abbrev OnceSaid : (T : Ended) → Fact T → Type 2
OnceSaid T φ = Once Model T (clauses T (plainly T φ)) (closed T (plainly T φ))

second : (T : Ended) (φ : Fact T) (κ : Lfts T.signature.lifetimes) (a : Args T.signature κ) (r s : Res T.signature κ) (v w : Lasts T κ a)
    → φ κ a r (at_exit T κ a v) → φ κ a s (at_exit T κ a w) → ((r ≡ s) × (v ≡ w) → ⊥) → OnceSaid T φ → ⊥
second T φ κ a r s v w p q differ one =
    let P : SProp w₀.𝓤 = fact w₀.𝓤 (φ κ a r (at_exit T κ a v)) in
    let Q : SProp w₀.𝓤 = fact w₀.𝓤 (φ κ a s (at_exit T κ a w)) in
    so ((r ≡ s) × (v ≡ w)) differ
    (via w₀.𝓤 (conj w₀.𝓤 P Q)
    (conj_i w₀.𝓤 P Q (fact_i w₀.𝓤 (φ κ a r (at_exit T κ a v)) (emp w₀.𝓤) p) (fact_i w₀.𝓤 (φ κ a s (at_exit T κ a w)) (emp w₀.𝓤) q))
    (one.once w₀.𝓤 w₀.𝓛 w₀.𝓜.mem w₀.𝓡.run κ a tt tt r s v w))

abbrev no_seats : Bench
no_seats = record { seats = []; controller = power_up.controller }

-- power-up for C, if it said of the lent bench only that power-up is power-up: a bench without seats would do
abbrev power_up_is_power_up : Fact embed.hailstoat_power_up.ended
power_up_is_power_up κ a r e = power_up ≡ power_up

pub power_up_left_open : OnceSaid embed.hailstoat_power_up.ended power_up_is_power_up → ⊥
power_up_left_open =
    second embed.hailstoat_power_up.ended power_up_is_power_up ([], tt) (record { ref_ptr = (0, 0); ghost_name = 0; now = power_up }, tt) tt tt
    (power_up, tt) (no_seats, tt) refl refl
    (λ same. let seats : seat_count ≡ 0 = ap (λ (v : _). length v.0.seats) same.1 in omega arith)

-- an event for C, if it told the right word and said nothing of the lent bench
abbrev word_alone : Fact embed.hailstoat_event.ended
word_alone κ (bench, (kind, (seat, (number, (value, _))))) r e =
    r ≡ word_of (outcome bench.now (whole kind seat number value)).answer (outcome bench.now (whole kind seat number value)).output

pub event_left_open : OnceSaid embed.hailstoat_event.ended word_alone → ⊥
event_left_open =
    second embed.hailstoat_event.ended word_alone ([], tt) (record { ref_ptr = (0, 0); ghost_name = 0; now = power_up }, (0, (0, (0, (0, tt))))) _ _
    (power_up, (tt, (tt, (tt, (tt, tt))))) (no_seats, (tt, (tt, (tt, (tt, tt))))) refl refl
    (λ same. let seats : seat_count ≡ 0 = ap (λ (v : _). length v.0.seats) same.1 in omega arith)

-- the divisor, if it were told only to those who name a clock of the list
abbrev clocks_only : Written Model rates.divisor.ended
clocks_only 𝓤 𝓛 mem run κ a = record { ghost = Unit {0}; requires = λ g. fact 𝓤 (a.1.0 < 3); ensures = λ g r e. emp 𝓤 }

pub clock_asked_for : (proved : Proved Model rates.divisor.ended) → Free Model rates.divisor.ended clocks_only proved → ⊥
clock_asked_for proved f = so (3 < 3) (λ less. omega arith) ((f.free w₀.𝓤 w₀.𝓛 w₀.𝓜.mem w₀.𝓡.run tt (0, (3, tt))).1 tt)
