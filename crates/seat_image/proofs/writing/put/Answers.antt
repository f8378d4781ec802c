use Prim.Native.Nat.{ℕ, ◌+◌, ◌≤◌}
use mathlib.Core.List.{List}
use mathlib.Core.Path.{ap, sym, ◌∙◌}
use native.Mathlib.Omega.{arith}
use lib.ListN.{length}
use lib.Seq.{sets}
use Rattle.base.specs.StoreLaws.{sets_append}
use Rattle.channel_image.specs.Written.{channel_bytes}
use Rattle.channel_image.proofs.WrittenLaws.{channel_length_lem}
use Rattle.seat.specs.Seats.{queued}
use Rattle.seat_image.specs.Written.{tally_bytes, record_of}
use Rattle.base.specs.PickLaws.{pick_true, pick_false}
use borrow.Author.Tests.{le-leb, lt-leb}
use Rattle.seat_image.proofs.writing.put.Goals as goal

pub returns-then-out-lt-LENGTH : goal.returns-then-out-lt-LENGTH
returns-then-out-lt-LENGTH c = let none = lt-leb _ _ c.if-out-lt-LENGTH.true in
    record { answer = sym none; bytes = sym (pick_false _ _ _ none) }

pub returns : goal.returns
unfolding record_of
returns c = let room = le-leb _ _ c.if-out-lt-LENGTH.false in
    let a : _ = c.args in
    let s : _ = a.seat in
    let l : _ = a.out.now in
    let block = tally_bytes s.tallies (queued s) in
    let fits : 66 ≤ length l = omega arith in
    let channel = c.put.ensures.bytes ∙ pick_true _ _ _ (le-leb 66 (length l) fits) in
    record {
      answer = sym room;
      bytes =
          c.put_tallies.ensures
          ∙ ap (λ (m : List ℕ). sets m 66 block) channel
          ∙ sym (sets_append (channel_bytes s.channel) block l 0 ∙ ap (λ (n : ℕ). sets (sets l 0 (channel_bytes s.channel)) (0 + n) block) (channel_length_lem s.channel))
          ∙ sym (pick_true _ _ _ room);
    }
