-- Which words say when to save, and what each of them says.
use Rattle.std.specs.Prelude.{ℕ, ◌+◌, ◌≤◌, ◌<◌, List, ◌⊎◌, ◌≡◌, length, Option, Some, None}
use Rattle.text.specs.Quoted.{quoted}
use Rattle.text.specs.Line.{decimal}
use Rattle.text.proofs.FormLaws.{denoted, Digits}
use Rattle.options.specs.Moments.{many, moment_of}
use Rattle.options.specs.declared.Moment.{Moment}
use Rattle.options.specs.declared.Moment.TheVariants.{Behind, End}

-- how many records are behind a save
abbrev pub count_of : Option Moment → ℕ
count_of (Some (Behind count)) = count
count_of (Some End) = 0
count_of None = 0

pub record MomentsRead : Type 0 where
  pub start : moment_of (quoted "start") ≡ Some (Behind 0)
  pub end : moment_of (quoted "end") ≡ Some End
  -- the number of a record as the listing has it
  pub listed : (n : ℕ) → n < many → moment_of (decimal n) ≡ Some (Behind (n + 1))
  -- digits, with zeros in front or not
  pub digits : (word : List ℕ) → Digits word → 0 < length word → denoted 0 word < many → moment_of word ≡ Some (Behind (denoted 0 word + 1))
  -- as many of them as one likes: a number that no run comes to
  pub large : (word : List ℕ) → Digits word → 0 < length word → many ≤ denoted 0 word → many < count_of (moment_of word)

-- and no other word
pub record MomentsOnly : Type 0 where
  pub behind : (word : List ℕ) (count : ℕ) → moment_of word ≡ Some (Behind count) → (word ≡ quoted "start") ⊎ (Digits word × (0 < length word))
  pub end : (word : List ℕ) → moment_of word ≡ Some End → word ≡ quoted "end"
