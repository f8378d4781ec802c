-- Byte by byte through a text.
use Rattle.std.specs.Prelude.{ℕ, List}
use Rattle.std.specs.List.{fold}

-- what is made of a start by one byte after the other
abbrev pub through : {A : Type 0} → (A → ℕ → A) → A → List ℕ → A
through after a text = fold after a text
