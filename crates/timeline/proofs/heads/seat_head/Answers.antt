use Rattle.timeline.proofs.Behind.{in_one, from_start}
use Rattle.page.specs.PageLaws.{put_append}
use Rattle.page.specs.Pages.{no_page, put}
use mathlib.Core.List.{List, ◌++◌}
use Prim.Native.Nat.{ℕ}
use mathlib.Core.Path.{sym, ap, ◌∙◌}
use Rattle.text.specs.Quoted.{quoted}
use Rattle.timeline.specs.Dump.{scope, upscope, scoped, seat_head}
use Rattle.timeline.proofs.Bits.{declared_seat}
use Rattle.timeline.proofs.heads.seat_head.Goals as goal

pub returns : goal.returns
unfolding seat_head scoped
returns c = let n : ℕ = c.args.n in
    from_start put put_append c.empty.ensures
    (in_one put put_append c.open-begun.ensures (in_one put put_append (in_one put put_append c.declare_number-lsr.ensures c.declare_number-queued.ensures) c.text.ensures))
    ∙ ap (λ (l : List ℕ). put no_page (scope (quoted "seat") n ++ (l ++ upscope))) (sym (declared_seat n))
