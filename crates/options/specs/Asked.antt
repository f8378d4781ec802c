-- What the words may ask for once, by number: of each the place of its word is kept, if there is one.
use Rattle.std.specs.Prelude.{ℕ}

abbrev pub lesson : ℕ
lesson = 0

-- the image to start from
abbrev pub image : ℕ
image = 1

abbrev pub tallies : ℕ
tallies = 2

abbrev pub explain : ℕ
explain = 3

-- the state, behind the last record
abbrev pub show : ℕ
show = 4

-- or behind every record
abbrev pub each : ℕ
each = 5

abbrev pub timeline : ℕ
timeline = 6

-- so many they are
abbrev pub all : ℕ
all = 7
