-- The answers as text, by the words of the program:
--  1. A settings line is answered by REFUSAL DIVISOR LCR, as in `0 12 1E`: the number of the refusal (0 for none) and the divisor in decimal,
--     the LCR byte in two hexadecimal capitals. Where it is refused, a dash stands for each of the two: `11 - -`.
--  2. Four numbers are answered by REFUSAL LINE, as in `0 9600,E,7,2`; where they are refused, by `12 -`.
--  3. One blank stands between two words, and the line ends behind the last.
use Rattle.std.specs.Prelude.{ℕ, ◌/◌, ◌%◌, ◌≤◌, List, [], ◌∷◌, ◌++◌, ◌≡◌, length, take, Result, Ok, Err}
use Prim.Native.Char.{code}
use Rattle.std.proofs.lemmas.List.Edits.{sets}
use Rattle.base.specs.Refusals.{number_of}
use Rattle.base.specs.declared.Refusal.{Refusal}
use Rattle.text.specs.Line.{space, newline, numeral, decimal, capital}
use Rattle.setting_lines.specs.declared.Setting.{Setting}

abbrev pub dash : ℕ
dash = code "-"

abbrev pub no_refusal : List ℕ
no_refusal = numeral 0 ∷ space ∷ []

-- what follows it
abbrev pub figures : ℕ → ℕ → List ℕ
figures divisor lcr = decimal divisor ++ (space ∷ capital (lcr / 16 % 16) ∷ capital (lcr % 16) ∷ newline ∷ [])

-- the answer of a settings line
unfoldable pub setting_text : Result Setting Refusal → List ℕ
setting_text (Ok s) = no_refusal ++ figures s.divisor s.lcr
setting_text (Err r) = decimal (number_of r) ++ (space ∷ dash ∷ space ∷ dash ∷ newline ∷ [])

-- the answer of four numbers, by the length of the line that is written of them and the buffer that begins with it, or by their refusal
unfoldable pub written_text : Result ℕ Refusal → List ℕ → List ℕ
written_text (Ok n) buffer = no_refusal ++ (take n buffer ++ (newline ∷ []))
written_text (Err r) buffer = decimal (number_of r) ++ (space ∷ dash ∷ newline ∷ [])

-- no answer is longer: a refusal, a blank, a settings line of 13 bytes, and its end
abbrev pub longest : ℕ
longest = 16

-- a text put at the start of the array d, which is d' then, and its length
pub record AtStart (text d d' : List ℕ) (r : ℕ) : Type 0 where
  pub bytes : d' ≡ sets d 0 text
  pub size : r ≡ length text
  pub short : r ≤ longest
