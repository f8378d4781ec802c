-- Pages by examples, line by line as a class sees them.
use Rattle.std.specs.Prelude.{ℕ, List, [], ◌∷◌, ◌++◌, ◌≡◌}
use Prim.Native.String.{String}
use Rattle.text.specs.Line.{newline}
use Rattle.text.specs.Quoted.{quoted}
use Rattle.page.specs.Pieces.{letter}
use Rattle.page.specs.Pages.{shown, headed, joined_all, ended}
use Rattle.page.specs.Notes.{commented}

abbrev pub all_quoted : List String → List (List ℕ)
all_quoted [] = []
all_quoted (s ∷ rest) = quoted s ∷ all_quoted rest

abbrev pub lines : List String → List ℕ
lines [] = []
lines (s ∷ rest) = quoted s ++ (newline ∷ lines rest)

-- a head, pieces and a comment are these lines
abbrev pub Page : String → List String → String → List String → Type 0
Page head pieces comment told = shown (ended (commented (joined_all (headed (quoted head)) (all_quoted pieces)) (quoted comment))) ≡ lines told

pub record Examples : Type 0 where
  pub short : Page "8 0 000 1   " ("acknowledge" ∷ "" ∷ "output falls" ∷ []) "" ("8 0 000 1   acknowledge; output falls" ∷ [])
  pub alone : Page "            controller: " [] "" ("            controller: " ∷ [])
  -- a piece that ends in column 80 stays, and the next begins a line
  pub full :
      Page "0 0 000 0   " ("123456789012345678901234567890" ∷ "123456789012345678901234567890123456" ∷ "on" ∷ []) "# why"
      ("0 0 000 0   123456789012345678901234567890; 123456789012345678901234567890123456"
      ∷ "            on"
      ∷ "            # why"
      ∷ [])
  -- and one that would end in column 81 begins one
  pub over :
      Page "0 0 000 0   " ("123456789012345678901234567890" ∷ "1234567890123456789012345678901234567" ∷ []) ""
      ("0 0 000 0   123456789012345678901234567890" ∷ "            1234567890123456789012345678901234567" ∷ [])
  -- a comment goes on in a new line where its next word would not end on this one
  pub folded :
      Page "0 0 000 0   " ("done" ∷ []) "# the words of this comment are so many that they do not all have room here"
      ("0 0 000 0   done"
      ∷ "            # the words of this comment are so many that they do not all have"
      ∷ "            # room here"
      ∷ [])
  pub letters : letter 0x47 ≡ quoted "47 'G'"
  pub blank : letter 0x20 ≡ quoted "20"
  pub first : letter 0x21 ≡ quoted "21 '!'"
  pub last : letter 0x7E ≡ quoted "7E '~'"
  pub delete : letter 0x7F ≡ quoted "7F"
