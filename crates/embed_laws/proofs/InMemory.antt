-- A bench as it lies in memory, by the machine that gives programs their meaning: how many bytes it has, and that zeroed memory is the bench
-- at power-up. So what a C program holds after `= {0}` may be lent as it is. And where the tallies lie, in a seat and as they are handed out.
use mathlib.Core.Path.{◌≡◌, refl}
use Prim.Native.Nat.{ℕ, zero, suc, ◌+◌}
use mathlib.Core.List.{List, ◌∷◌, ◌++◌}
use mathlib.Core.Option.{some}
use lib.ListN.{replicate}
use mir.Syntax.{ty_int, w32}
use mir.Mem.{Cell, byte, poison}
use prog.Memory.{size, enc, dec, field_of}
use denote.Struct.Laws as LL
use Rattle.channel.proofs.Channel.TheLaws as C'
use Rattle.seat.proofs.Seat.TheLaws as S'
use Rattle.seat.proofs.Tallies.TheLaws as T'
use Rattle.seat.proofs.Five.TheLaws as F'
use Rattle.bench.specs.Seats.{power_up}
use Rattle.bench.specs.contracts.Bench as B
use Rattle.bench.proofs.Bench.TheLaws as B'
use Rattle.embed.specs.Bytes.{tallies_bytes, channel_bytes, seat_bytes, controller_bytes, bench_bytes, five_bytes}

bench_bytes_lem : size B'.mir ≡ bench_bytes
bench_bytes_lem = refl

abbrev zeros : List Cell
zeros = replicate bench_bytes (byte 0)

-- read as a bench, zeros are the bench at power-up
zeros_read : dec B'.mir zeros ≡ some (LL.val B.the_type B'.the_laws power_up)
zeros_read = refl

-- the bytes of eight seats that are fields, each 0, with two behind each seat that are no field's, and the controller's
abbrev fields : Cell → Cell → List Cell
fields x y = seats 8
  where
    seats : ℕ → List Cell
    seats zero = replicate controller_bytes (byte 0)
    seats (suc n) = replicate (tallies_bytes + channel_bytes) (byte 0) ++ (x ∷ y ∷ seats n)

-- whatever lies in those two
fields_read : (x y : Cell) → dec B'.mir (fields x y) ≡ some (LL.val B.the_type B'.the_laws power_up)
fields_read x y = refl

-- and the bench at power-up is written as zeros, but for those, which are left unwritten
power_up_written : enc B'.mir (LL.val B.the_type B'.the_laws power_up) ≡ fields poison poison
power_up_written = refl

-- a seat begins with its tallies, and the channel lies right behind them
seat_lies : (size S'.mir ≡ seat_bytes) × (field_of S'.mir 0 ≡ some (T'.mir, 0)) × (field_of S'.mir 1 ≡ some (C'.mir, tallies_bytes))
seat_lies = (refl, refl, refl)

-- ticket 8: "arrived, read, lost by overrun, dropped by emptying", four bytes each in this order
tallies_lie : (field_of T'.mir 0 ≡ some (ty_int w32, 0)) × (field_of T'.mir 1 ≡ some (ty_int w32, 4)) × (field_of T'.mir 2 ≡ some (ty_int w32, 8))
    × (field_of T'.mir 3 ≡ some (ty_int w32, 12))
tallies_lie = (refl, refl, refl, refl)

-- ticket 8: "still queued": handed out behind the four
five_lie : (size F'.mir ≡ five_bytes) × (field_of F'.mir 0 ≡ some (ty_int w32, 0)) × (field_of F'.mir 1 ≡ some (ty_int w32, 4)) × (field_of F'.mir 2 ≡ some (ty_int w32, 8))
    × (field_of F'.mir 3 ≡ some (ty_int w32, 12)) × (field_of F'.mir 4 ≡ some (ty_int w32, 16))
five_lie = (refl, refl, refl, refl, refl, refl)
