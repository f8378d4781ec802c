use Prim.Native.Nat.{ℕ, ◌≤◌}
use mathlib.Core.List.{List}
use mathlib.Core.Path.{◌≡◌, refl, sym, ◌∙◌}
use native.Mathlib.Omega.{arith}
use lib.ListN.{take, drop, replicate}
use lib.Seq.{length-take-le}
use Rattle.base.specs.PickLaws.{not_both}
use Rattle.sheets.specs.Numbers.{number, room}
use Rattle.sheets.proofs.Cuts.{least}
use Rattle.sheets.proofs.Fits.{part_fits, part_short, part_text}
use Rattle.sheets.proofs.Zeros.{take_zeros}
use Rattle.sheets.proofs.Numbers.reply.Goals as goal

pub put_written-requires : goal.put_written-requires
put_written-requires c =
    let few : c.min-room.result ≤ 13 = omega (arith, c.min-room.ensures) in (
      part_short _ _ _ _ _ c.write-written.result c.write-written.ensures (omega (arith, length-take-le {A = ℕ} c.min-room.result (replicate 13 0) few)),
      part_fits _ _ _ _ c.write-written.new.out c.write-written.result c.write-written.ensures _ c.write-written.auto.out,
    )

pub returns : goal.returns
returns c = let s = c.args.self in
    let few : c.min-room.result ≤ 13 = omega (arith, c.min-room.ensures) in
    let cut : c.min-room.result ≡ room (number 3 s) = c.min-room.ensures ∙ rw c.from.ensures (least 13 (number 3 s)) in
    let zeros : ◌≡◌ {A = List ℕ} (take c.min-room.result (replicate 13 0)) (replicate (room (number 3 s)) 0) =
    rw (← cut) (take_zeros c.min-room.result 13 few) in
    record {
      answer = λ yes. (
        c.put_written.result,
        refl,
        record {
          written = c.write-written.result;
          buffer = c.write-written.new.out;
          writes = rw (← c.byte-clock.ensures, ← c.byte.ensures, ← zeros) c.write-written.ensures;
          told = rw (← part_text _ _ _ _ c.write-written.new.out c.write-written.result c.write-written.ensures (drop c.min-room.result (replicate 13 0)) c.write-written.auto.out) c.put_written.ensures;
        },
      );
      none = λ no. absurd (not_both (sym c.are_four.ensures ∙ c.if-not-are_four.false) no);
    }
