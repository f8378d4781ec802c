use Prim.Native.Nat.{ℕ, ◌≤◌}
use mathlib.Core.Path.{◌≡◌, ◌∙◌}
use lib.ListN.{length}
use native.Mathlib.Omega.{arith}
use Rattle.page.specs.Pieces.{no_piece, with}
use Rattle.page.specs.PieceLaws.{with_append}
use Rattle.page.specs.Pages.{no_page, put}
use Rattle.page.specs.PageLaws.{put_append}
use Rattle.timeline.specs.Dump.{time}
use Rattle.timeline.proofs.Behind.{in_one, from_start, put_said}
use Rattle.timeline.proofs.Lengths.{time_length}
use Rattle.timeline.proofs.steps.at.Goals as goal

pub returns : goal.returns
unfolding time
returns c = let n : ℕ = c.args.n in
    let said : c.text-time.result ≡ with no_piece (time n) =
    from_start with with_append c.empty.ensures
    (in_one with with_append c.text.ensures
    (in_one with with_append c.decimal.ensures c.text-time.ensures)) in
    let few : length (time n) ≤ 68 = omega (arith, time_length n (omega arith)) in
    from_start put put_append c.empty-2.ensures c.add.ensures ∙ put_said no_page (time n) said few
