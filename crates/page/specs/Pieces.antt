-- A piece: words that are said in one go, and no line is broken within them.
use Rattle.std.specs.Prelude.{ℕ, ◌+◌, ◌/◌, ◌%◌, List, [], ◌∷◌, ◌++◌, ltb, take, set, replicate}
use Rattle.base.specs.Pick.{pick}
use Rattle.text.specs.Line.{capital}
use Rattle.text.specs.Quoted.{quoted}
use Rattle.page.specs.Through.{through}
use Rattle.page.specs.declared.Piece.{Piece}

-- "A piece has at most 68 characters"
abbrev pub piece_most : ℕ
piece_most = 68

unfoldable pub no_piece : Piece
no_piece = record { bytes = replicate 68 0; count = 0 }

-- with one byte more, as long as there is room
unfoldable pub with_byte : Piece → ℕ → Piece
with_byte p c = pick (ltb p.count piece_most) (record { bytes = set p.bytes p.count c; count = p.count + 1 }) p

-- with these bytes behind it
unfoldable pub with : Piece → List ℕ → Piece
with p words = through with_byte p words

-- the piece of these words
abbrev pub piece : List ℕ → Piece
piece words = with no_piece words

-- what it says
unfoldable pub said : Piece → List ℕ
said p = take p.count p.bytes

-- ---- bytes and letters

-- "a byte two hexadecimal capitals"
unfoldable pub hex : ℕ → List ℕ
hex byte = capital (byte / 16 % 16) ∷ capital (byte % 16) ∷ []

-- "where it is 21 to 7E, a blank and the character in single quotation marks"
unfoldable pub letter : ℕ → List ℕ
letter byte = hex byte ++ pick (ltb byte 0x21) [] (pick (ltb 0x7E byte) [] (quoted " '" ++ (byte ∷ quoted "'")))
