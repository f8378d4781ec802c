-- Where a wound may be made.
use Rattle.std.specs.Prelude.{ℕ}

-- the last position that a row can name, counted from the image's beginning: place 255, in the record of a seat 255
abbrev pub last_place : ℕ
last_place = 22185
