-- Ticket 1: the LCR bytes that lines give.
use Rattle.std.specs.Prelude.{ℕ, zero, suc, ◌+◌, ◌/◌, ◌%◌, Bool, true, false, ◌&&◌, ◌||◌, ◌≡◌, eqb}
use Rattle.base.specs.Bits.{digit}
use Rattle.setting_lines.specs.Fields.{Shape, Sized, lcr_of}
use Rattle.setting_lines.specs.Writing.{NoShape}

-- ticket 1: "(LCR bits 5-3: 000, 001, 011, 101, 111; bits 7-6 are 0)"
abbrev pub given : ℕ → Bool
given lcr =
    eqb (lcr / 64) 0
    && (eqb (lcr / 8 % 8) 0b000 || (eqb (lcr / 8 % 8) 0b001 || (eqb (lcr / 8 % 8) 0b011 || (eqb (lcr / 8 % 8) 0b101 || eqb (lcr / 8 % 8) 0b111))))

-- how many numbers below a bound pass a test
abbrev pub count : ℕ → (ℕ → Bool) → ℕ
count zero test = 0
count (suc n) test = digit (test n) + count n test

-- a byte so given is that of a shape, any other is of none, and of the 256 there are 40
pub record FortyBytes : Type 0 where
  pub forty : count 256 given ≡ 40
  pub shaped : (lcr : ℕ) → given lcr ≡ true → (s : Shape) × Sized s × (lcr ≡ lcr_of s)
  pub others : (lcr : ℕ) → given lcr ≡ false → NoShape lcr
