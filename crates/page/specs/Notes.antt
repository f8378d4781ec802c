-- A comment on a page.
use Rattle.std.specs.Prelude.{ℕ, suc, ◌+◌, Bool, ◌&&◌, List, [], ◌∷◌, ◌++◌, ltb, leb, eqb, length}
use Rattle.base.specs.Pick.{pick}
use Rattle.text.specs.Line.{space}
use Rattle.text.specs.Quoted.{quoted}
use Rattle.page.specs.Pages.{width, indent, put_byte, put}
use Rattle.page.specs.declared.Page.{Page}

-- "Its bytes are told as they are, but one below 20, and 7F, as a blank."
unfoldable pub plain : ℕ → ℕ
plain c = pick (ltb c 0x20) space (pick (eqb c 0x7F) space c)

-- "the word behind it (the bytes up to the next that is told as a blank, or the end)": how many they are
unfoldable pub word_length : List ℕ → ℕ
word_length [] = 0
word_length (c ∷ rest) = pick (eqb (plain c) space) 0 (suc (word_length rest))

-- "Such a line begins with 12 blanks and `# `."
abbrev pub continuation : List ℕ
continuation = indent ++ quoted "# "

-- a blank and a word of so many bytes would end behind column 80
unfoldable pub passed : Page → ℕ → Bool
passed p behind = ltb width (p.column + 1 + behind)

-- "where a blank is due, and the word behind it .. would end behind column 80, a new line begins in place of that blank; where column 80 is
-- full, a new line begins before the byte."
unfoldable pub note_byte : Page → ℕ → ℕ → Page
note_byte p c behind =
    pick (eqb (plain c) space && passed p behind) (put p continuation)
    (pick (leb width p.column) (put_byte (put p continuation) (plain c)) (put_byte p (plain c)))

unfoldable pub noted : Page → List ℕ → Page
noted p [] = p
noted p (c ∷ rest) = noted (note_byte p c (word_length rest)) rest

-- "It stands on a new line behind 12 blanks."; where there is no comment there is no line for it
unfoldable pub commented : Page → List ℕ → Page
commented p comment = pick (eqb (length comment) 0) p (noted (put p indent) comment)
