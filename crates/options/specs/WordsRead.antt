-- What lines of words are read as, option by option, and which are not understood.
use Rattle.std.specs.Prelude.{ℕ, suc, ◌<◌, true, false, List, [], ◌∷◌, ◌⊎◌, ◌≡◌, length, get_or, set, Option, Some, None}
use Rattle.text.specs.Quoted.{quoted}
use Rattle.options.specs.Moments.{moment_of}
use Rattle.options.specs.Asked as asked
use Rattle.options.specs.Words.{option, nothing, Row, table, placed, no_words, stopped, dashed, words_after, words_behind, whole}
use Rattle.options.specs.declared.Moment.{Moment}
use Rattle.options.specs.declared.Moment.TheVariants.{Behind, End}
use Rattle.options.specs.declared.Words.{Words}

-- behind words that are understood, none missing: the last save, and where each thing is asked for that may be once
abbrev pub between : Option Moment → List (Option ℕ) → Words
between m places = record { awaited = option; moment = m; asked = places; wrong = None }

-- a thing is not asked for yet; or it is
abbrev pub Free : List (Option ℕ) → ℕ → Type 0
Free places what = get_or places what None ≡ None

abbrev pub Taken : List (Option ℕ) → ℕ → Type 0
Taken places what = get_or places what None ≡ None → ⊥

-- some words, of which the first stands at this place, behind others that are understood
abbrev pub Reads : Option Moment → List (Option ℕ) → ℕ → List (List ℕ) → Words → Type 0
Reads m places place words s = words_behind (between m places) place words ≡ s

pub record OptionsRead : Type 0 where
  -- the file of a save may have any name
  pub save : (m : Option Moment) (places : List (Option ℕ)) (place count : ℕ) (when file : List ℕ) → moment_of when ≡ Some (Behind count)
      → Reads m places place (quoted "--save-at" ∷ when ∷ file ∷ []) (between (Some (Behind count)) places)
  pub save_end : (m : Option Moment) (places : List (Option ℕ)) (place : ℕ) (when file : List ℕ) → moment_of when ≡ Some End
      → Reads m places place (quoted "--save-at" ∷ when ∷ file ∷ []) (between (Some End) places)
  -- so may the others
  pub restore : (m : Option Moment) (places : List (Option ℕ)) (place : ℕ) (file : List ℕ) → Free places asked.image
      → Reads m places place (quoted "--restore" ∷ file ∷ []) (between m (set places asked.image (Some (suc place))))
  pub timeline : (m : Option Moment) (places : List (Option ℕ)) (place : ℕ) (file : List ℕ) → Free places asked.timeline
      → Reads m places place (quoted "--vcd" ∷ file ∷ []) (between m (set places asked.timeline (Some (suc place))))
  pub tallies : (m : Option Moment) (places : List (Option ℕ)) (place : ℕ) → Free places asked.tallies
      → Reads m places place (quoted "--tallies" ∷ []) (between m (set places asked.tallies (placed place)))
  pub explain : (m : Option Moment) (places : List (Option ℕ)) (place : ℕ) → Free places asked.explain
      → Reads m places place (quoted "--explain" ∷ []) (between m (set places asked.explain (placed place)))
  pub show_end : (m : Option Moment) (places : List (Option ℕ)) (place : ℕ) → Free places asked.show
      → Reads m places place (quoted "--show" ∷ quoted "end" ∷ []) (between m (set places asked.show (placed place)))
  pub show_each : (m : Option Moment) (places : List (Option ℕ)) (place : ℕ) → Free places asked.show → Free (set places asked.show (placed place)) asked.each
      → Reads m places place (quoted "--show" ∷ quoted "each" ∷ []) (between m (set (set places asked.show (placed place)) asked.each (Some (suc place))))
  pub lesson : (m : Option Moment) (places : List (Option ℕ)) (place : ℕ) (name : List ℕ) → dashed name ≡ false → Free places asked.lesson
      → Reads m places place (name ∷ []) (between m (set places asked.lesson (placed place)))
  -- behind `--` a lesson may have any name
  pub named : (m : Option Moment) (places : List (Option ℕ)) (place : ℕ) (name : List ℕ) → Free places asked.lesson
      → Reads m places place (quoted "--" ∷ name ∷ []) (between m (set places asked.lesson (Some (suc place))))

-- the word is that of none of these rows
abbrev pub NoneOf : List Row → List ℕ → Type 0
NoneOf [] word = Unit {0}
NoneOf (r ∷ rows) word = (word ≡ quoted r.word → ⊥) × NoneOf rows word

pub record NotUnderstood : Type 0 where
  pub moment : (m : Option Moment) (places : List (Option ℕ)) (place : ℕ) (when : List ℕ) → moment_of when ≡ None
      → Reads m places place (quoted "--save-at" ∷ when ∷ []) (stopped (between m places) (suc place))
  -- the state at another moment
  pub when : (m : Option Moment) (places : List (Option ℕ)) (place : ℕ) (word : List ℕ) → Free places asked.show
      → (word ≡ quoted "each" → ⊥) → (word ≡ quoted "end" → ⊥)
      → Reads m places place (quoted "--show" ∷ word ∷ []) (stopped (between m (set places asked.show (placed place))) (suc place))
  -- one of these twice
  pub restore : (m : Option Moment) (places : List (Option ℕ)) (place : ℕ) (file : List ℕ) → Taken places asked.image
      → Reads m places place (quoted "--restore" ∷ file ∷ []) (stopped (between m places) (suc place))
  pub timeline : (m : Option Moment) (places : List (Option ℕ)) (place : ℕ) (file : List ℕ) → Taken places asked.timeline
      → Reads m places place (quoted "--vcd" ∷ file ∷ []) (stopped (between m places) (suc place))
  pub tallies : (m : Option Moment) (places : List (Option ℕ)) (place : ℕ) → Taken places asked.tallies
      → Reads m places place (quoted "--tallies" ∷ []) (stopped (between m places) place)
  pub explain : (m : Option Moment) (places : List (Option ℕ)) (place : ℕ) → Taken places asked.explain
      → Reads m places place (quoted "--explain" ∷ []) (stopped (between m places) place)
  pub show : (m : Option Moment) (places : List (Option ℕ)) (place : ℕ) → Taken places asked.show
      → Reads m places place (quoted "--show" ∷ []) (stopped (between m places) place)
  -- two lessons
  pub lesson : (m : Option Moment) (places : List (Option ℕ)) (place : ℕ) (name : List ℕ) → dashed name ≡ false → Taken places asked.lesson
      → Reads m places place (name ∷ []) (stopped (between m places) place)
  pub named : (m : Option Moment) (places : List (Option ℕ)) (place : ℕ) (name : List ℕ) → Taken places asked.lesson
      → Reads m places place (quoted "--" ∷ name ∷ []) (stopped (between m places) (suc place))
  -- any other word that begins with `-`
  pub option : (m : Option Moment) (places : List (Option ℕ)) (place : ℕ) (word : List ℕ) → dashed word ≡ true → NoneOf table word
      → words_after (between m places) place word ≡ stopped (between m places) place
  -- whatever follows
  pub stays : (s : Words) (place : ℕ) (words : List (List ℕ)) → s.awaited ≡ nothing → words_behind s place words ≡ s

-- ---- how many words follow an option

-- as many as its row says: with fewer a word is missing, and behind them the next option may stand, unless one of them is not understood
abbrev pub Followed : Row → Type 0
Followed r =
    ((place : ℕ) (words : List (List ℕ)) → length words < r.follow → whole (words_behind no_words place (quoted r.word ∷ words)) ≡ false)
    × ((place : ℕ) (words : List (List ℕ)) → length words ≡ r.follow
    → ((words_behind no_words place (quoted r.word ∷ words)).awaited ≡ option) ⊎ ((words_behind no_words place (quoted r.word ∷ words)).awaited ≡ nothing))

abbrev pub AllFollowed : List Row → Type 0
AllFollowed [] = Unit {0}
AllFollowed (r ∷ rows) = Followed r × AllFollowed rows

abbrev pub TableFollowed : Type 0
TableFollowed = AllFollowed table
