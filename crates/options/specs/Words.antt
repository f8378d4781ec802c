-- The program's words, one after the other, by the words of the program:
--  1. `--save-at N FILE` asks for an image in FILE behind record N of the listing, or at `start`, or at `end`. It may be given more than once.
--  2. `--restore FILE` says that the bench starts from the image in FILE.
--  3. `--tallies` asks for the tallies of all seats at the end, `--explain` for each record in words. No word belongs to them.
--  4. `--show each` asks for the state behind every record, `--show end` behind the last; `--vcd FILE` for the timeline in FILE.
--  5. A word that does not begin with `-` is the lesson's name; behind `--` it may begin so.
--  6. Each of those of 2 to 5 is given at most once. All stand in any order. Behind a word that is not understood nothing is read any more.
use Rattle.std.specs.Prelude.{ℕ, zero, suc, Bool, true, false, List, [], ◌∷◌, eqb, length, get_or, set, replicate, Option, Some, None}
use Rattle.std.specs.Option.{is_some}
use Prim.Native.Char.{code}
use Prim.Native.String.{String}
use Rattle.base.specs.Pick.{pick}
use Rattle.options.specs.Moments.{is, moment_of}
use Rattle.options.specs.Asked as asked
use Rattle.options.specs.declared.Moment.{Moment}
use Rattle.options.specs.declared.Awaited.{Awaited}
use Rattle.options.specs.declared.Awaited.TheVariants as awaited
use Rattle.options.specs.declared.Words.{Words}

-- ---- what the next word is

-- an option, or a lesson's name that does not begin with `-`
abbrev pub option : Awaited
option = awaited.Word

-- when to save, and then the file for it
abbrev pub moment : Awaited
moment = awaited.Moment

abbrev pub file : Awaited
file = awaited.File

-- the file with the image to start from
abbrev pub image : Awaited
image = awaited.Image

-- a lesson's name
abbrev pub lesson : Awaited
lesson = awaited.Lesson

-- behind a word that is not understood
abbrev pub nothing : Awaited
nothing = awaited.Nothing

-- when the state is shown
abbrev pub when : Awaited
when = awaited.When

-- the file for the timeline
abbrev pub timeline : Awaited
timeline = awaited.Timeline

-- ---- where a word stands

-- words are counted from 1, and so 0 is the place of none
abbrev pub placed : ℕ → Option ℕ
placed zero = None
placed (suc before) = Some (suc before)

-- ---- what is read of a word

-- before the first
abbrev pub no_words : Words
no_words = record { awaited = option; moment = None; asked = replicate asked.all None; wrong = None }

abbrev pub awaiting : Words → Awaited → Words
awaiting s next = record { awaited = next; moment = s.moment; asked = s.asked; wrong = s.wrong }

-- the word at this place is not understood
abbrev pub stopped : Words → ℕ → Words
stopped s place = record { awaited = nothing; moment = s.moment; asked = s.asked; wrong = placed place }

-- where a thing is asked for
unfoldable pub place_of : Words → ℕ → Option ℕ
place_of s what = get_or s.asked what None

-- it is asked for at this place, unless it is already; and what the next word is
unfoldable pub once : ℕ → Awaited → Words → ℕ → Words
once what next s place =
    pick (is_some (place_of s what)) (stopped s place) (record { awaited = next; moment = s.moment; asked = set s.asked what (placed place); wrong = s.wrong })

-- when to save; its file is next
abbrev pub saving : Words → Moment → Words
saving s m = record { awaited = file; moment = Some m; asked = s.asked; wrong = s.wrong }

abbrev pub with_moment : Words → ℕ → Option Moment → Words
with_moment s place (Some m) = saving s m
with_moment s place None = stopped s place

-- behind which records the state is shown: `each`, or the last
unfoldable pub with_when : Words → ℕ → List ℕ → Words
with_when s place word = pick (is "each" word) (once asked.each option s place) (pick (is "end" word) (awaiting s option) (stopped s place))

-- ---- the options

-- an option: its word, what is read of it, and how many words follow
pub record Row : Type 0 where
  pub word : String
  pub read : Words → ℕ → Words
  pub follow : ℕ

abbrev pub row : String → (Words → ℕ → Words) → ℕ → Row
row word read follow = record { word = word; read = read; follow = follow }

-- what the word behind it is
abbrev pub next : Awaited → Words → ℕ → Words
next expected s place = awaiting s expected

-- what a lesson is told by
abbrev pub further : List Row
further =
    row "--show" (once asked.show when) 1
    ∷ row "--vcd" (next timeline) 1
    ∷ row "--" (next lesson) 1
    ∷ []

abbrev pub table : List Row
table =
    row "--save-at" (next moment) 2
    ∷ row "--restore" (next image) 1
    ∷ row "--tallies" (once asked.tallies option) 0
    ∷ row "--explain" (once asked.explain option) 0
    ∷ further

unfoldable pub dashed : List ℕ → Bool
dashed word = pick (eqb (length word) 0) false (eqb (get_or word 0 0) (code "-"))

-- an option of these rows, or else a lesson's name
abbrev pub read_by : List Row → Words → ℕ → List ℕ → Words
read_by [] s place word = pick (dashed word) (stopped s place) (once asked.lesson option s place)
read_by (r ∷ rows) s place word = pick (is r.word word) (r.read s place) (read_by rows s place word)

unfoldable pub option_read : Words → ℕ → List ℕ → Words
option_read s place word = read_by table s place word

-- ---- behind one more word, which stands at this place

abbrev pub word_read : Awaited → Words → ℕ → List ℕ → Words
word_read awaited.Word s place word = option_read s place word
word_read awaited.Moment s place word = with_moment s place (moment_of word)
word_read awaited.File s place word = awaiting s option
word_read awaited.Image s place word = once asked.image option s place
word_read awaited.Lesson s place word = once asked.lesson option s place
word_read awaited.When s place word = with_when s place word
word_read awaited.Timeline s place word = once asked.timeline option s place
word_read awaited.Nothing s place word = s

unfoldable pub words_after : Words → ℕ → List ℕ → Words
words_after s place word = word_read s.awaited s place word

-- behind some words, of which the first stands at this place
abbrev pub words_behind : Words → ℕ → List (List ℕ) → Words
words_behind s place [] = s
words_behind s place (word ∷ rest) = words_behind (words_after s place word) (suc place) rest

-- every word is understood, and none is missing, where the next one may be an option
abbrev pub is_option : Awaited → Bool
is_option awaited.Word = true
is_option awaited.Moment = false
is_option awaited.File = false
is_option awaited.Image = false
is_option awaited.Lesson = false
is_option awaited.When = false
is_option awaited.Timeline = false
is_option awaited.Nothing = false

unfoldable pub whole : Words → Bool
whole s = is_option s.awaited
