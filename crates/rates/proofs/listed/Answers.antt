use Rattle.std.proofs.Common.{◌≡◌, position, eqb, rules, tests, arith, sym, ◌∙◌}
use Rattle.std.proofs.lemmas.Iterator.{YieldsList-from_slice}
use Rattle.std.proofs.lemmas.Iterator.Search.{position_from_yields_List}
use Rattle.rates.specs.Rates.{rates_of, everywhere}
use Rattle.rates.proofs.Rows.{row_found, row_missing, listed_by, refused_by}
use Rattle.rates.proofs.listed.Goals as goal

pub returns-in_err-row : goal.returns-in_err-row
unfolding rates_of everywhere
returns-in_err-row c =
    let at : c.position.result ≡ position (λ r. eqb r c.args.rate) (rates_of 0) =
    position_from_yields_List (λ r. eqb r c.args.rate) _ _ _ c.position.ensures.ran (YieldsList-from_slice (rates_of 0) (cc)) (λ x b q k. search (rules, tests)) in
    rw c.from_residual.ensures (sym (refused_by c.args.rate c.args.clock (row_missing c.args.rate (rates_of 0) (sym at ∙ c.in_err-row.was))))

pub returns : goal.returns
unfolding rates_of everywhere
returns c =
    let at : c.position.result ≡ position (λ r. eqb r c.args.rate) (rates_of 0) =
    position_from_yields_List (λ r. eqb r c.args.rate) _ _ _ c.position.ensures.ran (YieldsList-from_slice (rates_of 0) (cc)) (λ x b q k. search (rules, tests)) in
    let found = row_found c.args.rate (rates_of 0) c.in_ok-row.row (sym at ∙ c.in_ok-row.was) in
    rw c.copied.ensures (listed_by c.args.rate c.args.clock c.in_ok-row.row c.get.result found.0 (rw (← c.divisors.ensures) c.get.ensures.lookup.0) (rw (← c.divisors.ensures) (c.get.ensures.lookup.4 (omega arith) 0)))
