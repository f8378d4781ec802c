-- What a piece says of what it is given.
use Rattle.std.specs.Prelude.{ℕ, ◌≤◌, List, ◌≡◌, length}
use Rattle.page.specs.Pieces.{piece_most, piece, said}

-- a piece says its words, where it has room for them
abbrev pub SaysAll : Type 0
SaysAll = (words : List ℕ) → length words ≤ piece_most → said (piece words) ≡ words
