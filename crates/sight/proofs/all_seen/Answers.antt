use Rattle.std.proofs.Common.{get_or, sym, ◌∙◌, rules}
use Rattle.base.specs.ListLaws.{written_out, listed_same}
use Rattle.seat.specs.Seats.{no_seat}
use Rattle.sight.specs.Sights.{no_look, look_of}
use Rattle.sight.proofs.all_seen.Goals as goal

pub returns : goal.returns
returns c = let items : _ = c.map.ensures.items in
    let ys : _ = c.map.result in
    sym (written_out 8 ys no_look items.long)
    ∙ listed_same 8 (λ n. get_or ys n no_look) (λ n. look_of (get_or c.args.s n no_seat)) (λ n below. let at : _ = items.at n no_seat no_look below in let call : _ = at.2 in search rules)
