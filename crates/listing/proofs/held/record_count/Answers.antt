use Rattle.std.proofs.Common.{ℕ, ◌≡◌, ◌+◌, ◌/◌, ◌%◌, min, true, false, eqb, ⊎_elim, ◌∙◌, arith, eqb-true}
use Rattle.std.proofs.lemmas.Bool.{eqb-false}
use Rattle.base.specs.Pick.{pick}
use Rattle.base.specs.PickLaws.{either_way}
use Rattle.listing.specs.Places.{record_count}
use Rattle.listing.proofs.held.record_count.Goals as goal

rounded_up : (n : ℕ) → n / 4 + min 1 (n % 4) ≡ record_count true n
unfolding record_count pick
rounded_up n =
    ⊎_elim
    (λ (even : eqb (n % 4) 0 ≡ true). rw even (omega (arith, eqb-true (n % 4) 0 even)))
    (λ (odd : eqb (n % 4) 0 ≡ false). rw odd (omega (arith, eqb-false (n % 4) 0 odd)))
    (either_way (eqb (n % 4) 0))

pub returns-then-last : goal.returns-then-last
returns-then-last c = rw c.if-last.true (c.div_ceil.ensures ∙ rounded_up c.args.bytes)

pub returns : goal.returns
unfolding record_count pick
returns c = rw c.if-last.false
