-- A page: lines of at most 80 columns, filled with pieces.
use Rattle.std.specs.Prelude.{ℕ, ◌+◌, ◌-◌, Bool, true, false, List, [], ◌∷◌, ltb, leb, eqb, length, take, set, replicate}
use Rattle.base.specs.Pick.{pick}
use Rattle.text.specs.Line.{space, newline}
use Rattle.text.specs.Quoted.{quoted}
use Rattle.page.specs.Pieces.{piece_most}
use Rattle.page.specs.Through.{through}
use Rattle.page.specs.declared.Page.{Page}

-- "A page has at most 4096 bytes"
abbrev pub page_most : ℕ
page_most = 4096

-- "lines of at most 80 columns"
abbrev pub width : ℕ
width = 80

unfoldable pub no_page : Page
no_page = record { bytes = replicate 4096 0; count = 0; column = 0; first = false }

-- the column behind one byte more: "A column is a byte"; no page has more columns than bytes
unfoldable pub column_after : ℕ → ℕ → ℕ
column_after column c = pick (eqb c newline) 0 (pick (ltb column page_most) (column + 1) column)

-- with one byte more; "of what would be more the first 4095 stand, and the line feed"
unfoldable pub put_byte : Page → ℕ → Page
put_byte p c =
    pick (ltb p.count page_most)
    (record { bytes = set p.bytes p.count c; count = p.count + 1; column = column_after p.column c; first = false })
    p

-- with these bytes behind it
unfoldable pub put : Page → List ℕ → Page
put p words = through put_byte p words

-- what stands on it
unfoldable pub shown : Page → List ℕ
shown p = take p.count p.bytes

-- ---- head and pieces

-- "A page has a head, which stands at the beginning of its first line"
unfoldable pub headed : List ℕ → Page
headed head =
    record { bytes = (put no_page head).bytes; count = (put no_page head).count; column = (put no_page head).column; first = true }

-- "on a new line instead, the first one too, behind 12 blanks and without the `; `"
abbrev pub indent : List ℕ
indent = newline ∷ replicate 12 space

-- "The first piece follows the head as it is, each other one the text before it behind `; `"
unfoldable pub separation : Page → List ℕ
separation p = pick p.first [] (quoted "; ")

-- a piece "would then end behind column 80" unless this holds
unfoldable pub fits : Page → List ℕ → Bool
fits p words = leb (p.column + length (separation p) + length words) width

-- "A piece that is empty is left out."; it follows, or stands on a new line
unfoldable pub placed : Page → List ℕ → Page
placed p words = pick (eqb (length words) 0) p (pick (fits p words) (put (put p (separation p)) words) (put (put p indent) words))

-- "A piece has at most 68 characters"
unfoldable pub joined : Page → List ℕ → Page
joined p words = placed p (take piece_most words)

-- pieces, in order
abbrev pub joined_all : Page → List (List ℕ) → Page
joined_all p [] = p
joined_all p (words ∷ rest) = joined_all (joined p words) rest

-- "each ended by a line feed"; on a page that is full it takes the last place
unfoldable pub ended : Page → Page
ended p =
    pick (ltb p.count page_most) (put_byte p newline)
    (record { bytes = set p.bytes (page_most - 1) newline; count = page_most; column = 0; first = false })
