-- A number that is cut to a largest, as the library's functions cut it.
use Rattle.std.specs.Prelude.{Result, Ok, Err, OkIff}
use Rattle.std.specs.Result.{result_unwrap_or}
use Prim.Native.Nat.{ℕ, ◌+◌, ◌<◌, min}
use mathlib.Core.Path.{◌≡◌, sym, ◌∙◌}
use native.Mathlib.Omega.{arith}
use Rattle.sheets.specs.Limits.{up_to}
use Rattle.sheets.specs.LimitLaws.{up_to_low, up_to_high}
use lib.Dec.{ltb}
use mathlib.Core.Bool.{true, false}
use mathlib.Core.Logic.{⊎_elim}
use borrow.Author.Tests.{ltb-true, ltb-false}
use Rattle.base.specs.PickLaws.{either_way}

pub least : (most n : ℕ) → min n most ≡ up_to most n
least most n =
    ⊎_elim
    (λ (t : ltb most n ≡ true). let above = ltb-true most n t in omega (arith, up_to_high most n (omega arith)))
    (λ (f : ltb most n ≡ false). let below = ltb-false most n f in omega (arith, up_to_low most n below))
    (either_way (ltb most n))

-- a product that is cut and a sum that is cut are cut once
pub cut_once : (most p d : ℕ) → min (min p most + d) most ≡ up_to most (p + d)
cut_once most p d = let same : min (min p most + d) most ≡ min (p + d) most = omega arith in same ∙ least most (p + d)

pub as_byte : {E : Type 0} (r : Result ℕ E) (n : ℕ) → OkIff r (n < 256) n → result_unwrap_or r 255 ≡ up_to 255 n
as_byte (Ok x) n is = is.1 ∙ sym (up_to_low 255 n (omega (arith, is.0)))
as_byte (Err e) n none = sym (up_to_high 255 n (omega (arith, none)))
