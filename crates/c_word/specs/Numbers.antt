-- The numbers of C, which has them in 32 bits, as the narrower ones that the rooms take.
use Rattle.std.specs.Prelude.{ℕ, min}

-- a number as it is, and every one from the last on as the last
unfoldable pub up_to : ℕ → ℕ → ℕ
up_to last n = min n last

-- 255 is, as every number past a byte, no kind, seat, line, register, port, marks or clock, and no LCR byte that a line gives
abbrev pub as_byte : ℕ → ℕ
as_byte n = up_to 255 n

-- 65535 is, as every number past two bytes, no divisor of any clock's list
abbrev pub as_divisor : ℕ → ℕ
as_divisor n = up_to 65535 n
