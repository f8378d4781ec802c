-- What fits a piece: words in quotation marks, numbers, bytes and letters, choices of them, and one behind the other.
use Rattle.std.specs.Prelude.{ℕ, suc, ◌+◌, ◌-◌, ◌/◌, ◌%◌, ◌^◌, ◌≤◌, ◌<◌, Bool, true, ◌&&◌, List, [], ◌∷◌, ◌++◌, ◌≡◌, refl, ltb, leb, eqb, length}
use Prim.Native.String.{String}
use Rattle.std.proofs.Common.{arith, length-append, leb-true, ltb-false}
use Rattle.base.specs.Pick.{pick}
use Rattle.base.specs.PickLaws.{pick_either, pick_cases, both_hold}
use Rattle.base.specs.Bits.{bit}
use Rattle.text.specs.Quoted.{quoted}
use Rattle.text.specs.Line.{numeral, letter_a, decimal, capital}
use Rattle.text.specs.DecimalLaws.{decimal_length}
use Rattle.text.proofs.FormLaws.{Digits, decimal_digits}
use Rattle.page.specs.Columns.{OneLine, AllOneLine}
use Rattle.page.specs.FitLaws.{no_feed, one_line}
use Rattle.page.specs.Pieces.{hex, letter}
use Rattle.names.specs.Names.{Row}
use Rattle.names.specs.Words.{words_by, words_from}
use Rattle.names.specs.Fits.{Fits, AllFit}

-- ---- by what they are made of

-- words that compute
pub fits_quoted : (words : List ℕ) → no_feed words ≡ true → Fits (length words) words
fits_quoted words clear = record { short = omega arith; one = one_line words clear }

pub fits_none : (most : ℕ) → Fits most []
fits_none most = record { short = omega arith; one = tt }

pub fits_more : {less most : ℕ} {words : List ℕ} → Fits less words → less ≤ most → Fits most words
fits_more f h = record { short = omega (arith, f.short, h); one = f.one }

one_append : (a b : List ℕ) → OneLine a → OneLine b → OneLine (a ++ b)
one_append [] b one-a one_b = one_b
one_append (c ∷ a) b one-a one_b = (one-a.0, one_append a b one-a.1 one_b)

pub fits_append : {m n : ℕ} (a b : List ℕ) → Fits m a → Fits n b → Fits (m + n) (a ++ b)
fits_append a b f g = record { short = omega (arith, length-append a b, f.short, g.short); one = one_append a b f.one g.one }

-- words in quotation marks, and others behind them
pub fits_behind : {n : ℕ} (words : List ℕ) {rest : List ℕ} → no_feed words ≡ true → Fits n rest → Fits (length words + n) (words ++ rest)
fits_behind words {rest} clear f = fits_append words rest (fits_quoted words clear) f

pub fits_pick : {most : ℕ} (test : Bool) {a b : List ℕ} → Fits most a → Fits most b → Fits most (pick test a b)
fits_pick {most} test {a} {b} f g = pick_either (Fits most) test a b f g

-- ---- numbers, bytes and letters

digits_one : (l : List ℕ) → Digits l → OneLine l
digits_one [] all = tt
digits_one (d ∷ l) (low, high, all) = ((λ e. omega arith), digits_one l all)

pub fits_decimal : (d n : ℕ) → n < 10 ^ suc d → Fits (suc d) (decimal n)
fits_decimal d n small = record { short = decimal_length d n small; one = digits_one (decimal n) (decimal_digits n) }

-- a byte in decimal
pub fits_byte : (n : ℕ) → n < 256 → Fits 3 (decimal n)
fits_byte n small = fits_decimal 2 n (omega arith)

pub capital_one : (d : ℕ) → capital d ≡ 10 → ⊥
unfolding capital
capital_one d =
    pick_either (λ (c : ℕ). c ≡ 10 → ⊥) (ltb d 10) (numeral d) (letter_a - 10 + d) (λ e. omega arith) (λ e. omega arith)

pub fits_hex : (byte : ℕ) → Fits 2 (hex byte)
unfolding hex
fits_hex byte = record { short = omega arith; one = (capital_one (byte / 16 % 16), (capital_one (byte % 16), tt)) }

pub fits_letter : (byte : ℕ) → Fits 6 (letter byte)
unfolding letter
fits_letter byte =
    fits_append (hex byte) _ (fits_hex byte)
    (pick_cases (Fits 4) (ltb byte 0x21) _ _ (λ t. fits_none 4)
    (λ f.
    let high : 0x21 ≤ byte = ltb-false byte 0x21 f in
    fits_pick (ltb 0x7E byte) (fits_none 4)
    (record { short = omega arith; one = ((λ e. omega arith), ((λ e. omega arith), ((λ e. omega arith), ((λ e. omega arith), tt)))) })))

-- ---- by a table

-- each row's words are that short, and have no line feed
abbrev pub rows_fit : ℕ → List Row → Bool
rows_fit most [] = true
rows_fit most (r ∷ rows) = (leb (length (quoted r.words)) most && no_feed (quoted r.words)) && rows_fit most rows

pub fits_by : (most : ℕ) (rows : List Row) (n : ℕ) {others : List ℕ} → rows_fit most rows ≡ true → Fits most others
    → Fits most (words_by rows n others)
fits_by most [] n fit others-fit = others-fit
fits_by most (r ∷ rows) n fit others-fit =
    let all : _ = both_hold (leb (length (quoted r.words)) most && no_feed (quoted r.words)) (rows_fit most rows) fit in
    let this : _ = both_hold (leb (length (quoted r.words)) most) (no_feed (quoted r.words)) all.0 in
    fits_pick (eqb n r.number)
    (fits_more (fits_quoted (quoted r.words) this.1) (leb-true (length (quoted r.words)) most this.0))
    (fits_by most rows n all.1 others-fit)

-- no line ends within the names, and how long they are, each behind a blank
abbrev pub names_clear : List String → Bool
names_clear [] = true
names_clear (name ∷ names) = no_feed (quoted name) && names_clear names

abbrev pub all_named : List String → ℕ
all_named [] = 0
all_named (name ∷ names) = suc (length (quoted name)) + all_named names

pub fits_names : (k : ℕ) (names : List String) (byte : ℕ) → names_clear names ≡ true → Fits (all_named names) (words_from k names byte)
fits_names k [] byte clear = fits_none 0
fits_names k (name ∷ names) byte clear =
    let both : _ = both_hold (no_feed (quoted name)) (names_clear names) clear in
    fits_append (pick (bit k byte) (quoted " " ++ quoted name) []) (words_from (suc k) names byte)
    (fits_pick (bit k byte)
    (fits_more (fits_behind (quoted " ") refl (fits_quoted (quoted name) both.0)) (omega arith))
    (fits_none (suc (length (quoted name)))))
    (fits_names (suc k) names byte both.1)

-- ---- pieces

pub all_fit_append : (most : ℕ) (a b : List (List ℕ)) → AllFit most a → AllFit most b → AllFit most (a ++ b)
all_fit_append most [] b f g = g
all_fit_append most (words ∷ a) b f g = (f.0, all_fit_append most a b f.1 g)

pub all_one_line : (most : ℕ) (a : List (List ℕ)) → AllFit most a → AllOneLine a
all_one_line most [] f = tt
all_one_line most (words ∷ a) f = (f.0.one, all_one_line most a f.1)
