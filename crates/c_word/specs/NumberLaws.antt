-- No number of C is cut.
use Rattle.std.specs.Prelude.{ℕ, ◌≤◌, ◌<◌, ◌≡◌}
use Rattle.std.proofs.Common.{⊎_elim, arith, ap, sym, ◌∙◌}
use Rattle.std.proofs.lemmas.Bool.{cases_lt}
use Rattle.c_word.specs.Numbers.{up_to}

-- a number below the last is as it is
pub up_to_below : (last n : ℕ) → n < last → up_to last n ≡ n
unfolding up_to
up_to_below last n below = omega arith

-- and any other is the last, whatever it would be if it were cut
pub up_to_past : (last n : ℕ) → last ≤ n → up_to last n ≡ last
unfolding up_to
up_to_past last n past = omega arith

-- so what is the same from the last on is told by the narrower number
pub told_up_to : {A : Type 0} (last : ℕ) (f : ℕ → A) → ((n : ℕ) → last ≤ n → f n ≡ f last) → (n : ℕ) → f n ≡ f (up_to last n)
told_up_to last f same n =
    ⊎_elim
    (λ (below : n < last). ap f (sym (up_to_below last n below)))
    (λ (past : last ≤ n). same n past ∙ ap f (sym (up_to_past last n past)))
    (cases_lt n last)
