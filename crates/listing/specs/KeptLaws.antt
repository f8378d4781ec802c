-- Nine of ten numbers share the digits before the last with the number before them.
use Rattle.std.specs.Prelude.{ℕ, ◌+◌, ◌≤◌, ◌<◌, ◌^◌, List, ◌≡◌, refl, length, take}
use Rattle.std.proofs.Common.{sym, ◌∙◌, arith, length-take-le}
use Rattle.std.proofs.lemmas.List.Edits.{sets}
use Rattle.std.proofs.Math.Seq.{length-sets}
use Rattle.base.specs.StoreLaws.{stored_first}
use Rattle.text.specs.Front.{front}
use Rattle.text.specs.DecimalLaws.{decimal_length, front_length, front_same}
use Rattle.listing.specs.Kept.{text_size, Fronts, Stays}

-- so the text of a number is that of the next, unless a new ten begins
pub fronts_stay : (text : List ℕ) (digits n : ℕ) → Fronts text digits n → Stays text digits (n + 1)
fronts_stay text digits n f = record {
  size = f.size;
  fronts = λ within. record { size = f.size; inside = f.inside; shown = f.shown ∙ front_same n within };
}

-- and one that they are put into begins with them
pub fronts_put : (text text' : List ℕ) (digits n : ℕ) → n < 10 ^ 20 → length text ≡ text_size → digits ≡ length (front n)
    → text' ≡ sets text 0 (front n) → Fronts text' digits n
fronts_put text text' digits n small size is put =
    let few : length (front n) + 1 ≤ text_size = omega (arith, front_length n, decimal_length 19 n small) in
    rw put
    (record {
      size = rw length-sets size;
      inside = rw length-sets (omega arith);
      shown = (stored_first digits (front n) text _ (sym is) (omega arith) refl).0;
    })

pub fronts_count : (text : List ℕ) (digits n : ℕ) → Fronts text digits n → digits ≡ length (take digits text)
fronts_count text digits n f = sym (length-take-le digits text f.inside)
