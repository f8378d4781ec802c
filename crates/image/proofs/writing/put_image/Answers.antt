use mathlib.Core.List.{List, ◌++◌}
use mathlib.Core.Path.{ap, sym, ◌∙◌}
use Prim.Native.Nat.{ℕ, ◌+◌}
use lib.Seq.{sets}
use Rattle.base.specs.StoreLaws.{sets_append}
use Rattle.image.specs.Written.{header, controller_bytes, records_of, image_of}
use Rattle.image.proofs.writing.put_image.Goals as goal

pub returns : goal.returns
unfolding image_of controller_bytes
returns c = let a : _ = c.args in
    let records : _ = records_of 8 a.bench.seats in
    c.put_seats.ensures
    ∙ ap (λ (l : List ℕ). sets l (a.at + 16) records) c.put_front.ensures
    ∙ sym (sets_append (header ++ controller_bytes a.bench.controller) records a.out.now a.at)
