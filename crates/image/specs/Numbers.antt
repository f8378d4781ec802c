-- Which number is given, exactly: of an image the first of its five grounds that holds, and 12 is two of them.
use Rattle.std.specs.Prelude.{ℕ, ◌+◌, ◌<◌, Bool, not, ◌&&◌, ◌||◌, List, ◌≡◌, eqb, ltb, length}
use Rattle.base.specs.declared.Answer.{Answer}
use Rattle.base.specs.declared.Answer.TheVariants.{Done, Refused}
use Rattle.bench.specs.declared.Bench.{Bench}
use Rattle.image.specs.Layout.{length_in, version_of}
use Rattle.image.specs.Refusals.{marked, known, image_good, refusal}
use Rattle.image.specs.Written.{Saves}

-- the grounds: fewer than 5 bytes from the place on, no mark, no known version, fewer bytes than the version has, and what 15 is for
pub record Grounds (below5 unmarked unknown shorter bad : Bool) (number : ℕ) : Type 0 where
  pub twelve : eqb number 12 ≡ (below5 || not unmarked && not unknown && shorter)
  pub thirteen : eqb number 13 ≡ (not below5 && unmarked)
  pub fourteen : eqb number 14 ≡ (not below5 && not unmarked && unknown)
  pub fifteen : eqb number 15 ≡ (not below5 && not unmarked && not unknown && not shorter && bad)
  pub none : eqb number 0 ≡ (not below5 && not unmarked && not unknown && not shorter && not bad)

-- ticket 2: "Refusals, in order: 12 no room or below 5 bytes, 13 wrong mark, 14 unknown version, 12 shorter than its version, 15".
-- Mark, version and rows are tests of the reader here; demand 1 says of the bytes themselves what each number is for
abbrev pub Numbers : Type 0
Numbers =
    (p : List ℕ)
    → Grounds (ltb (length p) 5) (not (marked p)) (not (known (version_of p))) (ltb (length p) (length_in (version_of p))) (not (image_good p)) (refusal p)

-- ticket 2: "12 no room": of a save that number alone, and exactly where fewer than 704 bytes stand from the place on
pub record SaveNumbers : Type 0 where
  pub refused : (b : Bench) (at : ℕ) (l l' : List ℕ) (r : Answer) → Saves b at l l' r → length l < at + 704 → r ≡ Refused 12
  pub taken : (b : Bench) (at : ℕ) (l l' : List ℕ) (r : Answer) → Saves b at l l' r → (length l < at + 704 → ⊥) → r ≡ Done
