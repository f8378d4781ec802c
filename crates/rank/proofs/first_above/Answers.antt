use Rattle.std.proofs.Common.{rules, tests, sym, ap, ◌∙◌}
use Rattle.std.specs.Prelude.{ℕ, Option}
use Rattle.std.specs.Option.{unwrap_or}
use Rattle.rank.specs.Sets.{has}
use Rattle.rank.specs.Rank.{place_found}
use Rattle.rank.proofs.RankLaws.{first_up_to}
use Rattle.rank.proofs.AboveLaws.{first_above, found_above}
use Rattle.rank.proofs.first_above.Goals as goal

pub returns : goal.returns
returns c = let a = c.args in
    found_above _ _ (first_up_to a.first (has a.s)) (first_up_to a.first (has a.others)) _ (c.unwrap_or-bar.ensures ∙ ap (λ (p : Option ℕ). unwrap_or p 8) c.first_place.ensures) _ c.first_place-2.ensures _
    (λ x t k. search (rules, tests)) _ c.filter.ensures
    ∙ ap place_found (sym (first_above a.first (has a.s) (has a.others)))
