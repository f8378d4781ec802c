-- The length of an answer.
use Rattle.std.specs.Prelude.{ℕ, ◌≤◌, true, false, List, ◌≡◌, length, Option, Some, None}
use Rattle.std.proofs.Common.{⊎_elim, ap, sym, ◌∙◌, arith}
use Rattle.std.proofs.Math.Seq.{length-sets}
use Rattle.base.specs.PickLaws.{either_way}
use Rattle.sheets.specs.Texts.{longest, AtStart}
use Rattle.sheets.specs.Numbers.{four}
use Rattle.sheets.specs.Replies.{LineReply, NumbersReply}
use Rattle.sheets.specs.declared.Numbers.{Numbers}

-- an answer is short, and the array stays as long as it is
abbrev pub Fits : List ℕ → List ℕ → ℕ → Type 0
Fits d d' r = (r ≤ longest) × (length d' ≡ length d)

text_fits : (text d d' : List ℕ) (r : ℕ) → AtStart text d d' r → Fits d d' r
text_fits text d d' r p = (p.short, ap length p.bytes ∙ length-sets d 0 text)

pub line_fits : (line : List ℕ) (clock : ℕ) (d d' : List ℕ) (r : ℕ) → LineReply line clock d d' r → Fits d d' r
line_fits line clock d d' r p = text_fits _ d d' r p.told

-- where there is one
pub numbers_fit : (s : Numbers) (d d' : List ℕ) (r : Option ℕ) → NumbersReply s d d' r → ((n : ℕ) → r ≡ Some n → n ≤ longest) × (length d' ≡ length d)
numbers_fit s d d' r p =
    ⊎_elim
    (λ (yes : four s ≡ true).
    let a = p.answer yes in
    let fits = text_fits _ d d' a.0 a.2.told in
    (λ n is. let same : Some n ≡ Some a.0 = sym is ∙ a.1 in let one : n ≡ a.0 = cc in omega (arith, fits.0), fits.1))
    (λ (no : four s ≡ false).
    let none = p.none no in (λ n is. let other : Some n ≡ None = sym is ∙ none.1 in absurd (cc), ap length none.0))
    (either_way (four s))
