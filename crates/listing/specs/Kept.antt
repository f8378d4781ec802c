-- The digits of a record's number before its last, kept in a text from one record to the next.
use Rattle.std.specs.Prelude.{ℕ, ◌%◌, ◌≤◌, List, ◌≡◌, length, take}
use Rattle.text.specs.Front.{front}

-- no number of 64 bits has more digits than the text has bytes
abbrev pub text_size : ℕ
text_size = 20

-- the text begins with those of n, and so many they are
pub record Fronts (text : List ℕ) (digits n : ℕ) : Type 0 where
  pub size : length text ≡ text_size
  pub inside : digits ≤ length text
  pub shown : take digits text ≡ front n

-- it does unless n begins a new ten
pub record Stays (text : List ℕ) (digits n : ℕ) : Type 0 where
  pub size : length text ≡ text_size
  pub fronts : (n % 10 ≡ 0 → ⊥) → Fronts text digits n
