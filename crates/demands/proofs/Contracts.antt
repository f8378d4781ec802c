-- The contracts of the entries are the definitions' results.
use mathlib.Core.Path.{◌≡◌}
use Rattle.records.specs.Events.{Record, whole, short}
use Rattle.bench.specs.declared.Bench.{Bench}
use Rattle.bench.specs.declared.Outcome.{Outcome}
use Rattle.bench.specs.Steps.{outcome}
use Rattle.demands.specs.Contracts.{Ensured, ContractsSay}

pub step_says : (b : Bench) (r : Record) (o : Outcome) → (Ensured b r o → o ≡ outcome b r) × (o ≡ outcome b r → Ensured b r o)
step_says b (whole kind seat number value) o = (λ e. e, λ e. e)
step_says b short o = (λ e. e, λ e. e)

pub contracts_say : ContractsSay
contracts_say = record { step = step_says; place = λ b n a. (λ e. e, λ e. e); divisor = λ rate clock a. (λ e. e, λ e. e); restore = λ κ a e r p. p; save = λ κ a e r p. p }
