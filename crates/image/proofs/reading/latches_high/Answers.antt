use Rattle.std.proofs.Common.{ℕ, ◌<◌, ◌≡◌, not, ◌||◌, ap, ◌∙◌, arith, rules, tests}
use Rattle.std.proofs.lemmas.Iterator.{YieldsList-from_range}
use Rattle.std.proofs.lemmas.Iterator.Search.{all_from_yields_List}
use Rattle.base.specs.Bits.{bit}
use Rattle.channel_image.proofs.SmallLaws.{every_all}
use Rattle.channel_image.specs.PartLaws.{every_same}
use Rattle.controller.specs.Valid.{latches_high}
use Rattle.rank.specs.Sets.{has, line}
use Rattle.image.proofs.reading.latches_high.Goals as goal

own : (n : ℕ) → n < 8 → n ≡ line n
own n below = omega (arith, below)

pub returns : goal.returns
unfolding latches_high
returns c =
    let a = c.args in
    all_from_yields_List (λ n. not (bit n a.latches) || bit n a.levels) _ _ _ c.all.ensures.ran (YieldsList-from_range 0 8 8 (cc) (omega arith))
    (λ x b q k. search (rules, tests))
    ∙ every_all 8 (λ n. not (bit n a.latches) || bit n a.levels)
    ∙ every_same 8 (λ n. not (bit n a.latches) || bit n a.levels) (λ n. not (has a.latches n) || has a.levels n)
    (λ n below. ap (λ (k : ℕ). not (bit k a.latches) || bit k a.levels) (own n below))
