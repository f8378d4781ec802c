-- A settings line as far as it is kept. The longest is `134.5,E,5,1.5`, of 13 bytes, so that the first 14 of a line tell it, however long it is.
use Rattle.std.specs.Prelude.{ℕ, ◌+◌, List, [], ◌∷◌, ltb, take, set, replicate}
use Rattle.base.specs.Pick.{pick}
use Rattle.sheets.specs.declared.Line.{Line}

-- as many bytes are kept
abbrev pub most : ℕ
most = 14

-- before the first byte
abbrev pub no_bytes : Line
no_bytes = record { bytes = replicate 14 0; count = 0 }

-- the bytes that are kept
abbrev pub kept : Line → List ℕ
kept l = take l.count l.bytes

-- behind one more byte, which is kept where fewer than 14 are
unfoldable pub line_after : Line → ℕ → Line
line_after l c = pick (ltb l.count most) (record { bytes = set l.bytes l.count c; count = l.count + 1 }) l

-- behind some bytes, one after the other
abbrev pub line_behind : Line → List ℕ → Line
line_behind l [] = l
line_behind l (c ∷ rest) = line_behind (line_after l c) rest
