-- A text in quotation marks, as its bytes: each character of ASCII is one.
use Rattle.std.specs.Prelude.{ℕ, List}
use Prim.Native.Char.{code}
use Prim.Native.String.{String, [], ◌∷◌}
use mathlib.Core.List as list

abbrev pub quoted : String → List ℕ
quoted [] = list.[]
quoted (c ∷ s) = list.◌∷◌ (code c) (quoted s)
