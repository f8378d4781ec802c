use Rattle.std.proofs.Common.{◌≡◌, position, eqb, rules, tests, arith, sym, ◌∙◌}
use Rattle.std.proofs.lemmas.Iterator.{YieldsList-from_slice}
use Rattle.std.proofs.lemmas.Iterator.Search.{position_from_yields_List}
use Rattle.rates.specs.Rates.{divisors_of, rates_of, everywhere}
use Rattle.rates.proofs.Rows.{row_found, row_missing, no_longer, rate_given, rate_refused}
use Rattle.rates.proofs.rate.Goals as goal

pub bounds-row : goal.bounds-row
unfolding rates_of everywhere
bounds-row c =
    let ds = divisors_of c.args.clock in
    let at : c.position.result ≡ position (λ d. eqb d c.args.divisor) ds =
    position_from_yields_List (λ d. eqb d c.args.divisor) _ _ _ c.position.ensures.ran (YieldsList-from_slice ds (cc)) (λ x b q k. search (rules, tests)) in
    omega (arith, row_found c.args.divisor ds c.in-Some.row (sym at ∙ c.in-Some.is), no_longer c.args.clock)

pub returns-in-Some : goal.returns-in-Some
unfolding rates_of everywhere
returns-in-Some c =
    let ds = divisors_of c.args.clock in
    let at : c.position.result ≡ position (λ d. eqb d c.args.divisor) ds =
    position_from_yields_List (λ d. eqb d c.args.divisor) _ _ _ c.position.ensures.ran (YieldsList-from_slice ds (cc)) (λ x b q k. search (rules, tests)) in
    let found = row_found c.args.divisor ds c.in-Some.row (sym at ∙ c.in-Some.is) in
    rate_given c.args.divisor c.args.clock c.in-Some.row found.0 found.1

pub returns-in-None : goal.returns-in-None
returns-in-None c =
    let ds = divisors_of c.args.clock in
    let at : c.position.result ≡ position (λ d. eqb d c.args.divisor) ds =
    position_from_yields_List (λ d. eqb d c.args.divisor) _ _ _ c.position.ensures.ran (YieldsList-from_slice ds (cc)) (λ x b q k. search (rules, tests)) in
    rate_refused c.args.divisor c.args.clock (row_missing c.args.divisor ds (sym at ∙ c.in-None.is))
