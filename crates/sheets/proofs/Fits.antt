-- A line that is written fits its buffer.
use Rattle.std.specs.Prelude.{Result, Ok, Err}
use Prim.Native.Nat.{ℕ, ◌≤◌}
use mathlib.Core.List.{List, ◌++◌}
use mathlib.Core.Logic.{⊎_elim}
use mathlib.Core.Path.{◌≡◌, refl, sym, subst}
use native.Mathlib.Omega.{arith}
use lib.Dec.{leb}
use lib.ListN.{length, take, length-append}
use lib.Seq.{take-append-le}
use borrow.Author.Tests.{leb-true}
use Rattle.base.specs.PickLaws.{pick_cases}
use Rattle.base.specs.declared.Refusal.{Refusal}
use Rattle.rates.specs.Rates.{rate_of}
use Rattle.setting_lines.specs.Fields.{line_of}
use Rattle.sheets.specs.Texts.{written_text}
use Rattle.setting_lines.specs.Writing.{Left, WrittenAs, OtherByte, Writes, left, length_in, put_into, written_by}

module _ (d : List ℕ) where
  abbrev Fits : Left → Type 0
  Fits l = length_in l.written ≤ length d

  put_fits : (line : List ℕ) → Fits (put_into d line)
  put_fits line = pick_cases Fits (leb (length line) (length d)) _ _ (leb-true _ _) (λ f. omega arith)

  found_fits : (f : Result ℕ Refusal) (line : ℕ → List ℕ) → Fits (written_by f line d)
  found_fits (Ok rate) line = put_fits (line rate)
  found_fits (Err r) line = omega arith

  pub writes_fit : (clock divisor lcr : ℕ) (d' : List ℕ) (w : Result ℕ Refusal) → Writes clock divisor lcr d d' w → (length_in w) ≤ length d
  writes_fit clock divisor lcr d' w p =
      ⊎_elim
      (λ (a : WrittenAs clock divisor lcr d (left w d')).
      subst Fits (sym a.told) (found_fits (rate_of divisor clock) (λ rate. line_of rate a.shape)))
      (λ (o : OtherByte lcr d (left w d')). subst Fits (sym o.told) (omega arith))
      p

module _ (clock divisor lcr : ℕ) (d e : List ℕ) (w : Result ℕ Refusal) (p : Writes clock divisor lcr d e w) where
  pub part_short : length d ≤ 13 → length_in w ≤ 13
  part_short few = omega (arith, writes_fit d clock divisor lcr e w p)

  -- the buffer as the front of what it was taken from
  module _ (rest : List ℕ) (same : length e ≡ length d) where
    pub part_fits : length_in w ≤ length (e ++ rest)
    part_fits = omega (arith, length-append e rest, writes_fit d clock divisor lcr e w p)

    part_take : (n : ℕ) → n ≤ length e → take n (e ++ rest) ≡ take n e
    part_take n fits = take-append-le n e rest fits

    -- what is told of the buffer is told of its front
    pub part_text : written_text w (e ++ rest) ≡ written_text w e
    unfolding written_text
    part_text = told w (writes_fit d clock divisor lcr e w p)
      where
        told : (v : Result ℕ Refusal) → length_in v ≤ length d → written_text v (e ++ rest) ≡ written_text v e
        told (Ok n) fits = rw (part_take n (omega arith))
        told (Err r) fits = refl
