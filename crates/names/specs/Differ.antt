-- What is told in the same words is the same thing.
use Rattle.std.specs.Prelude.{ℕ, ◌<◌, ◌≡◌}
use Rattle.names.specs.Words.{refusal_words, iir_words, lsr_said, msr_said}

-- no two refusals are told alike
abbrev pub RefusalsDiffer : Type 0
RefusalsDiffer = (m n : ℕ) → m < 20 → n < 20 → refusal_words m ≡ refusal_words n → m ≡ n

-- and no two bytes of a register
pub record BytesDiffer : Type 0 where
  pub iir : (a b : ℕ) → a < 256 → b < 256 → iir_words a ≡ iir_words b → a ≡ b
  pub lsr : (a b : ℕ) → a < 256 → b < 256 → lsr_said a ≡ lsr_said b → a ≡ b
  pub msr : (a b : ℕ) → a < 256 → b < 256 → msr_said a ≡ msr_said b → a ≡ b
