use Rattle.std.proofs.Common.{Bool, false, ap, ◌∙◌, get_or, List, rules}
use Rattle.base.specs.Bits.{bits}
use Rattle.base.specs.ListLaws.{listed_same}
use Rattle.channel_image.proofs.FilledLaws.{mapped}
use Rattle.seat.specs.Seats.{no_seat, line}
use Rattle.image.specs.ReadLaws.{lines_written}
use Rattle.image.proofs.reading.lines_of.Goals as goal

pub returns : goal.returns
returns c =
    let high = c.map-high.result in
    c.byte_of.ensures
    ∙ ap (λ (l : List Bool). bits l)
    (listed_same 8 (λ k. get_or high k false) (λ k. line (get_or c.args.seats k no_seat))
    (λ k below. mapped _ _ c.args.seats high 8 line no_seat false (λ x y p q called. search rules) c.map-high.ensures.items k below))
    ∙ lines_written c.args.seats (search rules)
