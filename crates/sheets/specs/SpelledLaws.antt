-- Numbers in decimal and in hexadecimal, as anybody writes them, are read as these numbers.
use Rattle.std.specs.Prelude.{ℕ, ◌+◌, ◌-◌, ◌*◌, ◌/◌, ◌%◌, ◌<◌, Bool, true, false, List, [], ◌∷◌, map, ◌≡◌, refl, ltb, length}
use Prim.Native.Char.{code}
use Rattle.std.proofs.Common.{ap, ◌∙◌, arith}
use Rattle.base.specs.Pick.{pick}
use Rattle.base.specs.EveryLaws.{equal_at}
use Rattle.text.specs.Line.{letter_a, numeral, decimal, capital}
use Rattle.text.specs.DecimalLaws.{front_length}
use Rattle.text.proofs.FormLaws.{denoted, Digits, decimal_denotes, decimal_digits}
use Rattle.sheets.specs.Limits.{up_to}
use Rattle.text.specs.Hex.{digit as worth}
use Rattle.text.specs.HexLaws.{numeral_worth}
use Rattle.sheets.specs.Numbers.{no_numbers, numbers_behind}
use Rattle.sheets.specs.FourLaws.{valued, AllDigits, Word, line, ReadAs, words_read}

-- ---- decimal

valued_denoted : (n : ℕ) (l : List ℕ) → Digits l → valued 10 n l ≡ denoted n l
valued_denoted n [] all = refl
valued_denoted n (c ∷ l) (low, high, all) =
    ap (λ (w : ℕ). valued 10 (10 * n + w) l) (numeral_worth c low high) ∙ valued_denoted (10 * n + (c - 48)) l all

all_decimal : (l : List ℕ) → Digits l → AllDigits 10 l
all_decimal [] all = tt
all_decimal (c ∷ l) (low, high, all) = (omega (arith, numeral_worth c low high), all_decimal l all)

pub decimal_word : (n : ℕ) → Word 10 (decimal n)
decimal_word n = record { some = omega (arith, front_length n); digits = all_decimal (decimal n) (decimal_digits n) }

pub decimal_valued : (n : ℕ) → valued 10 0 (decimal n) ≡ n
decimal_valued n = valued_denoted 0 (decimal n) (decimal_digits n) ∙ decimal_denotes n

-- ---- hexadecimal

-- a digit below 16, with small letters or with capitals
abbrev pub hex_digit : Bool → ℕ → ℕ
hex_digit small d = pick (ltb d 10) (numeral d) (pick small (code "a" - 10 + d) (letter_a - 10 + d))

abbrev pub hex_text : Bool → List ℕ → List ℕ
hex_text small digits = map (hex_digit small) digits

-- the number that digits are, the first the highest
abbrev pub hex_of : ℕ → List ℕ → ℕ
hex_of so_far [] = so_far
hex_of so_far (d ∷ digits) = hex_of (16 * so_far + d) digits

abbrev pub AllBelow : List ℕ → Type 0
AllBelow [] = Unit {0}
AllBelow (d ∷ digits) = (d < 16) × AllBelow digits

worth_hex : (small : Bool) (d : ℕ) → d < 16 → worth (hex_digit small d) ≡ d
unfolding worth pick
worth_hex true = equal_at 16 (λ d. worth (hex_digit true d)) (λ d. d) tt
worth_hex false = equal_at 16 (λ d. worth (hex_digit false d)) (λ d. d) tt

hex_valued : (small : Bool) (n : ℕ) (digits : List ℕ) → AllBelow digits → valued 16 n (hex_text small digits) ≡ hex_of n digits
hex_valued small n [] all = refl
hex_valued small n (d ∷ digits) (below, all) =
    ap (λ (w : ℕ). valued 16 (16 * n + w) (hex_text small digits)) (worth_hex small d below) ∙ hex_valued small (16 * n + d) digits all

all_hex : (small : Bool) (digits : List ℕ) → AllBelow digits → AllDigits 16 (hex_text small digits)
all_hex small [] all = tt
all_hex small (d ∷ digits) (below, all) = (omega (arith, worth_hex small d below), all_hex small digits all)

hex_word : (small : Bool) (digits : List ℕ) → 0 < length digits → AllBelow digits → Word 16 (hex_text small digits)
hex_word small [] some all = absurd (omega arith)
hex_word small (d ∷ digits) some all = record { some = omega arith; digits = all_hex small (d ∷ digits) all }

-- ---- the line

pub spelled_read : (clock divisor lent : ℕ) (small : Bool) (digits : List ℕ) → 0 < length digits → AllBelow digits
    → ReadAs clock divisor (hex_of 0 digits) lent (numbers_behind no_numbers (line (decimal clock) (decimal divisor) (hex_text small digits) (decimal lent)))
spelled_read clock divisor lent small digits some all =
    let w : _ =
    words_read (decimal clock) (decimal divisor) (hex_text small digits) (decimal lent)
    (decimal_word clock) (decimal_word divisor) (hex_word small digits some all) (decimal_word lent) in
    record {
      all = w.all;
      clock_read = w.clock_read ∙ ap (up_to 255) (decimal_valued clock);
      divisor_read = w.divisor_read ∙ ap (up_to 65535) (decimal_valued divisor);
      lcr_read = w.lcr_read ∙ ap (up_to 255) (hex_valued small 0 digits all);
      room_read = w.room_read ∙ ap (up_to 13) (decimal_valued lent);
    }

-- the LCR byte as an answer tells it is read as that byte
pub capitals_valued : (lcr : ℕ) → lcr < 256 → valued 16 0 (capital (lcr / 16 % 16) ∷ capital (lcr % 16) ∷ []) ≡ lcr
unfolding capital worth pick
capitals_valued = equal_at 256 (λ lcr. valued 16 0 (capital (lcr / 16 % 16) ∷ capital (lcr % 16) ∷ [])) (λ lcr. lcr) tt
