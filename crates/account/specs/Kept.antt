-- What the page of every record keeps to.
use Rattle.std.specs.Prelude.{ℕ, ◌<◌, true, List, [], ◌∷◌, ◌++◌, ◌≡◌, length, take}
use Rattle.text.specs.Line.{newline, line}
use Rattle.page.specs.Pages.{page_most, shown, headed, joined, joined_all, ended}
use Rattle.page.specs.Notes.{commented}
use Rattle.page.specs.Columns.{keeps}
use Rattle.records.specs.Events.{Record}
use Rattle.bench.specs.declared.Bench.{Bench}
use Rattle.bench.specs.Refusals.{refusal}
use Rattle.bench.specs.Steps.{outcome}
use Rattle.deeds.specs.Done.{record_done}
use Rattle.account.specs.Head.{unended, head_words}
use Rattle.account.specs.Told.{divisor_of, came, pieces, told}
use Rattle.names.specs.Fits.{AllFit}
use Rattle.account.specs.Sized.{Sized}

-- a record's head, and the head of its page
abbrev pub head_of : Bench → ℕ → Record → List ℕ
head_of b n r = head_words n (outcome b r).answer (outcome b r).output

-- "A piece has at most 68 characters, and none is cut.", and no line ends within one; and before the comment there is room on the page for all of them
pub record NoneCut : Type 0 where
  pub each : (b : Bench) (n : ℕ) (r : Record) → Sized b n r → AllFit 68 (pieces b r)
  pub all : (b : Bench) (n : ℕ) (r : Record) → Sized b n r → (joined_all (headed (head_of b n r)) (pieces b r)).count < page_most

-- "lines of at most 80 columns", whatever the comment is
abbrev pub KeepsWidth : Type 0
KeepsWidth = (b : Bench) (n : ℕ) (r : Record) (comment : List ℕ) → Sized b n r → keeps 0 (shown (told b n r comment)) ≡ true

-- "each ended by a line feed": so is the last
pub record Ends (text : List ℕ) : Type 0 where
  pub front : List ℕ
  pub is : text ≡ front ++ (newline ∷ [])

abbrev pub EndsLine : Type 0
EndsLine = (b : Bench) (n : ℕ) (r : Record) (comment : List ℕ) → Sized b n r → Ends (shown (told b n r comment))

-- "Each line of the listing becomes the head of a page: the line as it was, without its line feed"
abbrev pub ListingFirst : Type 0
ListingFirst =
    (b : Bench) (n : ℕ) (r : Record) (comment : List ℕ) → Sized b n r
    → take (length (unended (line n (outcome b r).answer (outcome b r).output))) (shown (told b n r comment))
    ≡ unended (line n (outcome b r).answer (outcome b r).output)

-- a record that is refused moves nothing: its page has what was to be done and the refusal, and the comment
abbrev pub RefusedMovesNothing : Type 0
RefusedMovesNothing =
    (b : Bench) (n : ℕ) (r : Record) (comment : List ℕ) → (refusal b r ≡ 0 → ⊥)
    → told b n r comment
    ≡ ended (commented (joined (joined (headed (head_of b n r)) (record_done r (divisor_of b r) b.controller)) (came b r)) comment)
