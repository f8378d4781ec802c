use Rattle.std.proofs.Common.{◌≡◌, ◌∙◌, ap, arith, rules, [], ◌∷◌}
use Rattle.std.specs.List.{flat_map}
use Rattle.base.specs.StoreLaws.{copied_at}
use Rattle.seat.specs.Seats.{queued}
use Rattle.seat_image.specs.WordLaws.{le_word}
use Rattle.seat_image.specs.Words.{word_bytes}
use Rattle.seat_image.specs.Written.{tally_bytes}
use Rattle.seat_image.proofs.writing.put_tallies.Goals as goal

pub returns : goal.returns
unfolding tally_bytes word_bytes
returns c =
    let t = c.args.seat.tallies in
    let a = c.to_le_bytes.ensures ∙ le_word t.arrived (search rules) in
    let r = c.to_le_bytes-2.ensures ∙ le_word t.read (search rules) in
    let l = c.to_le_bytes-3.ensures ∙ le_word t.lost (search rules) in
    let d = c.to_le_bytes-4.ensures ∙ le_word t.dropped (search rules) in
    let q = c.to_le_bytes-5.ensures ∙ le_word c.from-queued.result (search rules) ∙ ap word_bytes c.from-queued.ensures in
    let block : c.as_flattened.result.now ≡ tally_bytes t (queued c.args.seat)
    = c.as_flattened.ensures.value ∙ (λ i. flat_map (λ x. x) (a i ∷ r i ∷ l i ∷ d i ∷ q i ∷ [])) in
    rw (c.copy_from_slice.ensures.after, block)
    (copied_at 66 86 c.args.out.now (tally_bytes t (queued c.args.seat)) (omega arith) (omega arith))
