-- Lines of words by examples, as the program is given them behind its own name.
use Rattle.std.specs.Prelude.{ℕ, List, [], ◌∷◌, map, ◌≡◌, set, replicate, Option, Some, None}
use Prim.Native.String.{String}
use Rattle.text.specs.Quoted.{quoted}
use Rattle.options.specs.Asked as asked
use Rattle.options.specs.Words.{placed, no_words, words_behind, file, when, nothing}
use Rattle.options.specs.WordsRead.{between}
use Rattle.options.specs.declared.Moment.{Moment}
use Rattle.options.specs.declared.Moment.TheVariants.{Behind, End}
use Rattle.options.specs.declared.Awaited.{Awaited}
use Rattle.options.specs.declared.Words.{Words}

abbrev pub Line : List String → Words → Type 0
Line words s = words_behind no_words 1 (map quoted words) ≡ s

-- nothing is asked for; one thing is; one more
abbrev pub none : List (Option ℕ)
none = replicate asked.all None

abbrev pub one : ℕ → ℕ → List (Option ℕ)
one what place = set none what (placed place)

-- a word is missing, or one is not understood
abbrev pub short : Awaited → Option Moment → List (Option ℕ) → Words
short expected m places = record { awaited = expected; moment = m; asked = places; wrong = None }

abbrev pub wrong : List (Option ℕ) → ℕ → Words
wrong places place = record { awaited = nothing; moment = None; asked = places; wrong = placed place }

pub record Examples : Type 0 where
  pub nothing_asked : Line [] (between None none)
  pub lesson : Line ("lesson.hex" ∷ []) (between None (one asked.lesson 1))
  pub dashes : Line ("--" ∷ "--restore" ∷ []) (between None (one asked.lesson 2))
  pub saved : Line ("--save-at" ∷ "15" ∷ "bell.ben" ∷ "lesson.hex" ∷ []) (between (Some (Behind 16)) (one asked.lesson 4))
  pub both : Line ("lesson.hex" ∷ "--restore" ∷ "monday.ben" ∷ "--save-at" ∷ "end" ∷ "friday.ben" ∷ []) (between (Some End) (set (one asked.lesson 1) asked.image (Some 3)))
  pub twice : Line ("--save-at" ∷ "start" ∷ "a" ∷ "--save-at" ∷ "007" ∷ "--" ∷ []) (between (Some (Behind 8)) none)
  pub tallied : Line ("--tallies" ∷ "lesson.hex" ∷ []) (between None (set (one asked.lesson 2) asked.tallies (Some 1)))
  pub explained : Line ("--explain" ∷ "lesson.hex" ∷ []) (between None (set (one asked.lesson 2) asked.explain (Some 1)))
  pub shown : Line ("--show" ∷ "each" ∷ "lesson.hex" ∷ []) (between None (set (set (one asked.lesson 3) asked.show (Some 1)) asked.each (Some 2)))
  pub shown_last : Line ("--show" ∷ "end" ∷ "--explain" ∷ []) (between None (set (one asked.explain 3) asked.show (Some 1)))
  pub timed : Line ("lesson.hex" ∷ "--vcd" ∷ "lesson.vcd" ∷ []) (between None (set (one asked.lesson 1) asked.timeline (Some 3)))
  -- the image has the name of the option
  pub named_so : Line ("lesson.hex" ∷ "--restore" ∷ "--tallies" ∷ "--tallies" ∷ []) (between None (set (set (one asked.lesson 1) asked.image (Some 3)) asked.tallies (Some 4)))
  -- a file is awaited; a moment is
  pub missing : Line ("--save-at" ∷ "3" ∷ []) (short file (Some (Behind 4)) none)
  pub missing_when : Line ("lesson.hex" ∷ "--show" ∷ []) (short when None (set (one asked.lesson 1) asked.show (Some 2)))
  -- not understood: a word that is no number, a sign, a second lesson, the same option again, another moment, an option that is none
  pub no_number : Line ("--save-at" ∷ "last" ∷ "a" ∷ []) (wrong none 2)
  pub no_sign : Line ("--save-at" ∷ "-1" ∷ "a" ∷ []) (wrong none 2)
  pub two_lessons : Line ("a" ∷ "b" ∷ []) (wrong (one asked.lesson 1) 2)
  pub two_tallies : Line ("--tallies" ∷ "a" ∷ "--tallies" ∷ []) (wrong (set (one asked.lesson 2) asked.tallies (Some 1)) 3)
  pub two_states : Line ("--show" ∷ "end" ∷ "--show" ∷ "each" ∷ []) (wrong (one asked.show 1) 3)
  pub no_moment : Line ("--show" ∷ "start" ∷ []) (wrong (one asked.show 1) 2)
  pub no_option : Line ("--save" ∷ "3" ∷ "a" ∷ []) (wrong none 1)
