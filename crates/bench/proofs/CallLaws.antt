-- What the contracts of some calls require: every seat begins at power-up, and the output asked for is the one that the last record told.
use Prim.Native.Nat.{ℕ}
use mathlib.Core.Bool.{Bool}
use mathlib.Core.Path.{◌≡◌, ap, sym, ◌∙◌}
use lib.ListN.{get_or-replicate}
use Rattle.base.specs.declared.Whole.{Whole}
use Rattle.seat.specs.Seats.{no_seat}
use Rattle.seat.specs.Seats as one
use Rattle.controller.specs.Turns.{output_of}
use Rattle.records.specs.Events.{record_of, seat_count}
use Rattle.bench.specs.declared.Bench.{Bench}
use Rattle.bench.specs.declared.Outcome.{Outcome}
use Rattle.bench.specs.Seats.{chair, seat}
use Rattle.bench.specs.FrameLaws.{chair_small}
use Rattle.bench.specs.OutcomeLaws.{outcome_output}
use Rattle.bench.proofs.Bench.power_up.Reads as power_up_lem
use Rattle.bench.proofs.Bench.step.Reads as step
use Rattle.bench.proofs.Bench.output.Reads as output

-- "Power-up": of the eight seats none is left out
pub each_seat : (κ e : _) (b : Bench) (n : ℕ) → power_up_lem.Post κ tt b e → seat b n ≡ one.power_up
unfolding seat
each_seat κ e b n p = ap (λ (x : Bench). seat x n) p ∙ get_or-replicate seat_count (chair n) one.power_up no_seat (chair_small n)

-- "output after the event"
pub output_told : (κ κ' e e' : _) (b : Bench) (w : Whole) (o : Outcome) (high : Bool)
    → step.Post κ (b, (w, tt)) o e → output.Post κ' (o.bench, tt) high e' → high ≡ o.output
output_told κ κ' e e' b w o high p p' =
    p' ∙ ap (λ (x : Outcome). output_of x.bench.controller) p
    ∙ sym (outcome_output b (record_of w)) ∙ ap (λ (x : Outcome). x.output) (sym p)
