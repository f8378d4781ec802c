-- What the toolchain reads from the contracts of the public entries in the code: the results that they let through. What is passed by value is
-- at the exit what it was.
use Rattle.std.specs.Prelude.{ℕ, ◌≡◌, drop}
use Rattle.base.specs.declared.Answer.{Answer}
use Rattle.base.specs.declared.Whole.{Whole}
use Rattle.rates.specs.Rates.{divisor_of}
use Rattle.rates.proofs.divisor.Reads as of-divisor
use Rattle.controller.specs.Steps.{placed}
use Rattle.records.specs.Events.{Record, whole, short}
use Rattle.bench.specs.declared.Bench.{Bench}
use Rattle.bench.specs.declared.Outcome.{Outcome}
use Rattle.bench.specs.Steps.{outcome}
use Rattle.bench.proofs.Bench.step.Reads as of-step
use Rattle.bench.proofs.Bench.step_short.Reads as of-step-short
use Rattle.bench.proofs.Bench.place.Reads as of-place
use Rattle.image.specs.declared.Restored.{Restored}
use Rattle.image.specs.Refusals.{restored}
use Rattle.image.specs.Written.{Saves}
use Rattle.image.proofs.restore.Reads as of-restore
use Rattle.image.proofs.save.Reads as of-save

-- "An event is a four-byte record: kind, seat, number, value.", as the code is handed it
abbrev pub handed : ℕ → ℕ → ℕ → ℕ → Whole
handed kind seat number value = record { kind = kind; seat = seat; number = number; value = value }

-- `Bench::step` and `Bench::step_short`
abbrev pub Ensured : Bench → Record → Outcome → Type 0
Ensured b (whole kind seat number value) o = of-step.Post tt (b, (handed kind seat number value, tt)) o (b, (handed kind seat number value, tt))
Ensured b short o = of-step-short.Post tt (b, tt) o (b, tt)

-- `Bench::place`
abbrev pub EnsuredPlace : Bench → ℕ → Answer → Type 0
EnsuredPlace b n a = of-place.Post tt (b, (n, tt)) a (b, (n, tt))

-- `rates::divisor`
abbrev pub EnsuredDivisor : ℕ → ℕ → Answer → Type 0
EnsuredDivisor rate clock a = of-divisor.Post tt (rate, (clock, tt)) a (rate, (clock, tt))

-- each lets the definition's result through, and no other
pub record ContractsSay : Type 0 where
  pub step : (b : Bench) (r : Record) (o : Outcome) → (Ensured b r o → o ≡ outcome b r) × (o ≡ outcome b r → Ensured b r o)
  pub place : (b : Bench) (n : ℕ) (a : Answer) → (EnsuredPlace b n a → a ≡ placed b.controller n) × (a ≡ placed b.controller n → EnsuredPlace b n a)
  pub divisor : (rate clock : ℕ) (a : Answer) → (EnsuredDivisor rate clock a → a ≡ divisor_of rate clock) × (a ≡ divisor_of rate clock → EnsuredDivisor rate clock a)
  -- `image::restore` and `image::save`: of the bench, what is lent, and the place; the buffer at the entry and at the exit
  pub restore : (κ a e : _) (r : Restored) → of-restore.Post κ a r e → r ≡ restored a.0 (drop a.1.1.0 a.1.0.now)
  pub save : (κ a e : _) (r : Answer) → of-save.Post κ a r e → Saves a.0 a.1.1.0 a.1.0.now e.1.0.now r
