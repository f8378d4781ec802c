-- No head is cut.
use Rattle.std.specs.Prelude.{ℕ, ◌≤◌, ◌<◌, length}
use Rattle.std.proofs.Common.{arith, length-append}
use Rattle.text.specs.Line.{decimal}
use Rattle.text.specs.Quoted.{quoted}
use Rattle.text.specs.DecimalLaws.{decimal_length}
use Rattle.page.specs.Pieces.{piece_most}
use Rattle.seat_page.specs.SeatPages.{seat_head}

pub seat_head_short : (n : ℕ) → n < 256 → length (seat_head n) ≤ piece_most
unfolding seat_head
seat_head_short n small =
    let digits : length (decimal n) ≤ 3 = decimal_length 2 n (omega arith) in
    let name = length-append (decimal n) (quoted ": ") in
    omega (arith, name)
