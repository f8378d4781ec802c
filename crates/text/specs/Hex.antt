-- Hexadecimal digits as characters.
use Rattle.std.specs.Prelude.{ℕ, ◌+◌, ◌-◌, Bool, ◌&&◌, leb, ltb, Option, Some, None}
use Rattle.base.specs.Pick.{pick}

abbrev pub within : ℕ → ℕ → ℕ → Bool
within low high c = leb low c && leb c high

-- what a hexadecimal digit is worth: 0 to 9, A to F, a to f; 16 for a character that is none
unfoldable pub digit : ℕ → ℕ
digit c = pick (within 48 57 c) (c - 48) (pick (within 65 70 c) (c - 65 + 10) (pick (within 97 102 c) (c - 97 + 10) 16))

-- the same of a digit; none for a character that is none
unfoldable pub digit_of : ℕ → Option ℕ
digit_of c = pick (ltb (digit c) 16) (Some (digit c)) None
