use Rattle.std.proofs.Common.{leb, rules, ◌∙◌, tests}
use Rattle.std.proofs.lemmas.Iterator.{YieldsList-from_slice}
use Rattle.std.proofs.lemmas.Iterator.Adapters.{YieldsList-from_skip}
use Rattle.std.proofs.lemmas.Iterator.Search.{all_from_yields_List}
use Rattle.channel_image.proofs.SmallLaws.{small_all}
use Rattle.channel_image.proofs.tests.sixteen_small.Goals as goal

pub returns : goal.returns
returns c =
    let b = c.args.bytes.now in
    all_from_yields_List (λ x. leb x c.args.most) _ _ _ c.all.ensures.ran
    (YieldsList-from_skip c.args.n (YieldsList-from_slice b cc) cc)
    (λ x b q k. search (rules, tests))
    ∙ small_all b c.args.n c.args.most c.requires
