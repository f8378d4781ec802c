use Rattle.std.proofs.Common.{rules, sym, ap, ◌∙◌, ℕ, true, false}
use Rattle.std.specs.Prelude.{◌≡◌}
use Rattle.std.proofs.lemmas.Iterator.{first_from_Range}
use Rattle.base.specs.Pick.{pick}
use Rattle.rank.specs.Sets.{has}
use Rattle.rank.specs.SetLaws.{has_none}
use Rattle.rank.specs.Rank.{line_at, first_place, place_found}
use Rattle.rank.proofs.RankLaws.{first_none, found_first}
use Rattle.rank.proofs.first_place.Goals as goal

-- no line is in the empty set
pub returns-then-s-eq0 : goal.returns-then-s-eq0
unfolding place_found pick
returns-then-s-eq0 c = let a = c.args in
    sym (ap place_found (first_none a.first (has a.s) (λ n h. ap (λ (x : ℕ). has x n) c.if-s-eq0.true ∙ has_none n)))

pub returns : goal.returns
unfolding first_place
returns c = let a = c.args in
    found_first (λ k. has a.s (line_at a.first k)) _
    (first_from_Range _ _ _ _ (λ k. has a.s (line_at a.first k) ≡ true) (λ k. has a.s (line_at a.first k) ≡ false) c.find.ensures.ran
    (λ x q k. search rules)
    (λ x q k. (search rules, search rules)))
