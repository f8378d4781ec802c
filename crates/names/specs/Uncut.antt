-- Nothing that is said with the names is cut.
use Rattle.std.specs.Prelude.{ℕ, ◌<◌, Bool}
use Rattle.names.specs.Words.{refusal_words, register_words, iir_words, lsr_said, msr_said, marks_said, levels_said, lines_said}
use Rattle.names.specs.Fits.{Fits}

-- "A piece has at most 68 characters, and none is cut": what is said of a register fills one alone, and all else leaves room for what stands before it
pub record NoneCut : Type 0 where
  pub iir : (byte : ℕ) → Fits 68 (iir_words byte)
  pub lsr : (byte : ℕ) → Fits 68 (lsr_said byte)
  pub msr : (byte : ℕ) → Fits 68 (msr_said byte)
  pub refusal : (number : ℕ) → Fits 50 (refusal_words number)
  pub register : (number : ℕ) (divisor write : Bool) → number < 256 → Fits 12 (register_words number divisor write)
  pub marks : (marks : ℕ) → Fits 26 (marks_said marks)
  pub levels : (levels : ℕ) → Fits 15 (levels_said levels)
  pub lines : (set : ℕ) → Fits 21 (lines_said set)
