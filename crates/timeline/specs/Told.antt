-- A timeline tells all that is seen, and nothing else.
use Rattle.std.specs.Prelude.{ℕ, suc, ◌^◌, ◌<◌, Bool, true, not, ◌&&◌, ◌≡◌, eqb, length}
use mathlib.Core.List.{List, [], ◌∷◌, ◌++◌, Memᴰ}
use Rattle.base.specs.Bits.{digit}
use Rattle.page.specs.Pages.{no_page, put, shown}
use Rattle.timeline.specs.Variables.{Variable, variables}
use Rattle.timeline.specs.Dump.{head_words, seat_head, head_end, time, first_words, step_words}
use Rattle.timeline.specs.Meaning.{key, shown_behind}
use Rattle.sight.specs.declared.Sight.{Sight}

-- ---- what is shown last

-- the steps of some sights, one behind each record, of which the first has this number
abbrev pub steps : ℕ → ℕ → Sight → List Sight → List ℕ
steps used n before [] = []
steps used n before (now ∷ later) = step_words used n before now ++ steps used (suc n) now later

abbrev pub last_sight : Sight → List Sight → Sight
last_sight start [] = start
last_sight start (now ∷ later) = last_sight now later

-- what stands behind the head: every variable before the first record, the steps, and the time behind the last
abbrev pub dump : ℕ → Sight → List Sight → List ℕ
dump used start later = first_words used start ++ (steps used 1 start later ++ time (suc (length later)))

-- behind any records a viewer shows of each variable what is seen then, whatever it showed before
abbrev pub ShownLast : Type 0
ShownLast =
    (used : ℕ) (start : Sight) (later : List Sight) (v : Variable) → Memᴰ v (variables used)
    → (before : ℕ) → shown_behind v.name before (dump used start later) ≡ digit (v.value (last_sight start later))

-- ---- names

-- every one of these passes a test
abbrev pub all_of : (Variable → Bool) → List Variable → Bool
all_of test [] = true
all_of test (v ∷ vs) = test v && all_of test vs

-- a name other than this one
abbrev pub other_than : List ℕ → Variable → Bool
other_than name v = not (eqb (key v.name) (key name))

abbrev pub all_apart : List Variable → Bool
all_apart [] = true
all_apart (v ∷ vs) = all_of (other_than v.name) vs && all_apart vs

-- no two variables have the same name
abbrev pub NamesApart : Type 0
NamesApart = (used : ℕ) → all_apart (variables used) ≡ true

-- ---- what has not changed

-- a record that changes nothing that is seen has its time alone
abbrev pub NothingChanged : Type 0
NothingChanged = (used n : ℕ) (s : Sight) → step_words used n s s ≡ time n

-- ---- nothing is cut

-- what is told stands whole on its page
abbrev pub Stands : List ℕ → Type 0
Stands words = shown (put no_page words) ≡ words

pub record NothingCut : Type 0 where
  pub head : Stands head_words
  pub seat : (n : ℕ) → n < 2 ^ 8 → Stands (seat_head n)
  pub end : Stands head_end
  pub first : (used : ℕ) (now : Sight) → Stands (first_words used now)
  pub step : (used n : ℕ) (before now : Sight) → n < 2 ^ 64 → Stands (step_words used n before now)
  pub last : (n : ℕ) → n < 2 ^ 64 → Stands (time n)
