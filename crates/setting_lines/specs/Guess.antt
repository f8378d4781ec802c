-- What the code works with between its two calls: a guess at the setting of a line, whose own line is then compared; and the same line by
-- its LCR byte. Whoever reads what is promised can leave this file out.
use Rattle.std.specs.Prelude.{ℕ, ◌+◌, ◌-◌, ◌*◌, ◌/◌, ◌%◌, Bool, ◌&&◌, ◌||◌, List, ◌∷◌, ◌++◌, eqb, ltb, leb, length, get_or, take}
use Rattle.base.specs.Pick.{pick}
use Rattle.base.specs.Bits.{bit, digit}
use Rattle.text.specs.Line.{numeral}
use Rattle.text.proofs.FormLaws.{denoted}
use Rattle.setting_lines.specs.Fields.{N, O, E, M, S, letter, comma, point, rate_text, stop_text}
use Rattle.setting_lines.specs.declared.guesses.Guess.{Guess}

-- ---- by the LCR byte

-- the letter of the parity that bits 5-3 are; N where they are none
unfoldable pub letter_by : ℕ → ℕ
letter_by parity = pick (eqb parity 0b001) (letter O) (pick (eqb parity 0b011) (letter E) (pick (eqb parity 0b101) (letter M) (pick (eqb parity 0b111) (letter S) (letter N))))

unfoldable pub shape_by : ℕ → List ℕ
shape_by lcr = comma ∷ letter_by (lcr / 8 % 8) ∷ comma ∷ numeral (5 + lcr % 4) ∷ comma ∷ stop_text (5 + lcr % 4) (bit 2 lcr)

unfoldable pub line_by : ℕ → ℕ → List ℕ
line_by rate lcr = rate_text rate ++ shape_by lcr

-- a byte that some line gives
unfoldable pub good : ℕ → Bool
good lcr = ltb lcr 64 && (eqb (lcr / 8) 0 || eqb (lcr / 8 % 2) 1)

-- ---- the guess

-- how many bytes stand behind the rate: only 1.5 ends in 5
unfoldable pub behind_rate : List ℕ → ℕ
behind_rate line = pick (eqb (get_or line (length line - 1) 0) (numeral 5)) 8 6

unfoldable pub code_by : ℕ → ℕ
code_by c = pick (eqb c (letter O)) 0b001 (pick (eqb c (letter E)) 0b011 (pick (eqb c (letter M)) 0b101 (pick (eqb c (letter S)) 0b111 0b000)))

unfoldable pub bits_by : ℕ → ℕ
bits_by c = (c - numeral 5) % 4

unfoldable pub lcr_guess : ℕ → ℕ → Bool → ℕ
lcr_guess parity bits longer = bits_by bits + 4 * digit longer + 8 * code_by parity

unfoldable pub halved : List ℕ → Bool
halved front = eqb (length front) 5 && eqb (get_or front 3 0) point

-- a number that is no rate is taken for 1
unfoldable pub rate_guess : List ℕ → ℕ
rate_guess front = pick (halved front) 1345 (pick (ltb 99999 (denoted 0 front)) 10 (pick (eqb (denoted 0 front) 0) 10 (10 * denoted 0 front)))

-- the first of all settings, for a line that is too short or too long
abbrev pub some_guess : Guess
some_guess = record { rate = 10; lcr = 0 }

-- by how many bytes stand before and behind the end of the rate
unfoldable pub guess_at : List ℕ → ℕ → ℕ → Guess
guess_at line front behind =
    record {
      rate = rate_guess (take front line);
      lcr = lcr_guess (get_or line (front + 1) 0) (get_or line (front + 3) 0) (eqb behind 8 || eqb (get_or line (front + 5) 0) (numeral 2));
    }

unfoldable pub guessed : List ℕ → Guess
guessed line =
    pick (leb (length line) (behind_rate line)) some_guess
    (pick (ltb 5 (length line - behind_rate line)) some_guess (guess_at line (length line - behind_rate line) (behind_rate line)))
