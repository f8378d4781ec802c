-- What the code finds out, as the contracts say it.
use Rattle.std.specs.Prelude.{Result, Ok, Err}
use Prim.Native.Nat.{ℕ, ◌≤◌}
use mathlib.Core.Bool.{true, false}
use mathlib.Core.List.{List}
use mathlib.Core.Logic.{inl, inr, ⊎_elim}
use mathlib.Core.Path.{◌≡◌, refl, ap, sym, ◌∙◌}
use Rattle.base.specs.PickLaws.{not_both}
use Rattle.base.specs.declared.Refusal.{Refusal}
use Rattle.base.specs.declared.Refusal.TheVariants.{NotListed, NoSetting}
use Rattle.base.specs.Pick.{pick}
use Rattle.base.specs.Answers.{refusal_of, value_of}
use Rattle.base.specs.declared.Answer.{Answer}
use Rattle.base.specs.declared.Answer.TheVariants.{Divisor}
use Rattle.rates.proofs.BackLaws.{divisor_either}
use Rattle.setting_lines.specs.ThereAndBack.{setting_of}
use Rattle.rates.specs.Rates.{divisor_of, rate_of}
use Rattle.setting_lines.specs.Fields.{lcr_of, line_of}
use Rattle.setting_lines.specs.Reading.{setting_by, Reads}
use Rattle.setting_lines.specs.Writing.{left, left_by, put_into, written_by, Writes}
use Rattle.setting_lines.specs.Guess.{good, line_by, guessed}
use Rattle.setting_lines.specs.ShapeLaws.{shape_for, shape_sized, lcr_again, line_by_lem, lcr_good}
use Rattle.setting_lines.proofs.RateLaws.{rated_small}
use Rattle.setting_lines.proofs.GuessLaws.{guess_possible, guess_right}
use Rattle.setting_lines.specs.declared.Setting.{Setting}
use Rattle.setting_lines.specs.declared.guesses.Guess.{Guess}

-- the line of a rate and a good byte is that of the rate and the byte's shape
by_shape : (rate lcr : ℕ) → good lcr ≡ true → line_by rate lcr ≡ line_of rate (shape_for lcr)
by_shape rate lcr sure = ap (line_by rate) (lcr_again lcr sure) ∙ line_by_lem (shape_for lcr) (shape_sized lcr) rate

by_shape_written : (lcr : ℕ) (d : List ℕ) → good lcr ≡ true → (f : Result ℕ Refusal)
    → written_by f (λ rate. line_by rate lcr) d ≡ written_by f (λ rate. line_of rate (shape_for lcr)) d
by_shape_written lcr d sure (Ok rate) = ap (put_into d) (by_shape rate lcr sure)
by_shape_written lcr d sure (Err r) = refl

-- the guess's rate is that of a line
module _ (line : List ℕ) (g : Guess) (guess : g ≡ guessed line) where
  pub small : g.rate ≤ 999990
  small = rated_small g.rate (rw guess (guess_possible line).rated)

module _ (line : List ℕ) (clock : ℕ) (r : Result Setting Refusal) (g : Guess) (guess : g ≡ guessed line) where
  -- the guess has this line
  pub read_as : line ≡ line_by g.rate g.lcr → r ≡ setting_by (divisor_of g.rate clock) g.lcr → Reads line clock r
  read_as same told =
      let p = guess_possible line in
      let sure : good g.lcr ≡ true = rw guess p.good_lcr in
      inl (record {
        rate = g.rate;
        shape = shape_for g.lcr;
        rated = rw guess p.rated;
        sized = shape_sized g.lcr;
        is = same ∙ by_shape g.rate g.lcr sure;
        told = told ∙ ap (setting_by (divisor_of g.rate clock)) (lcr_again g.lcr sure);
      })

  -- and the list has no divisor for its rate
  pub read_unlisted : line ≡ line_by g.rate g.lcr → ((d : ℕ) → divisor_of g.rate clock ≡ Divisor d → ⊥) → r ≡ Err NotListed → Reads line clock r
  unfolding refusal_of pick
  read_unlisted same none told =
      ⊎_elim (λ has. absurd (none has.0 has.1)) (λ no. read_as same (told ∙ sym (ap (λ (a : Answer). setting_by a g.lcr) no))) (divisor_either g.rate clock)

  -- it has one
  pub read_listed : line ≡ line_by g.rate g.lcr → (d : ℕ) → divisor_of g.rate clock ≡ Divisor d → r ≡ setting_of d g.lcr → Reads line clock r
  unfolding refusal_of value_of pick
  read_listed same d listed told = read_as same (told ∙ sym (ap (λ (a : Answer). setting_by a g.lcr) listed))

  -- it has another, and then no setting has this one
  pub read_none : (line ≡ line_by g.rate g.lcr → ⊥) → r ≡ Err NoSetting → Reads line clock r
  read_none differs told =
      inr (record {
        other = λ rate shape rated sized is.
            let right : g ≡ record { rate = rate; lcr = lcr_of shape } = guess ∙ ap guessed is ∙ guess_right rate shape rated sized in
            differs (is ∙ sym (ap (λ (h : Guess). line_by h.rate h.lcr) right ∙ line_by_lem shape sized rate));
        told = told;
      })

module _ (clock divisor lcr : ℕ) (d d' : List ℕ) (r : Result ℕ Refusal) where
  pub written_as : good lcr ≡ true → left r d' ≡ written_by (rate_of divisor clock) (λ rate. line_by rate lcr) d → Writes clock divisor lcr d d' r
  written_as sure told =
      inl (record {
        shape = shape_for lcr;
        sized = shape_sized lcr;
        is = lcr_again lcr sure;
        told = told ∙ by_shape_written lcr d sure (rate_of divisor clock);
      })

  pub written_unlisted : good lcr ≡ true → (e : Refusal) → rate_of divisor clock ≡ Err e → left r d' ≡ left_by d e → Writes clock divisor lcr d d' r
  written_unlisted sure e none told = written_as sure (told ∙ sym (ap (λ (f : Result ℕ Refusal). written_by f (λ rate. line_by rate lcr) d) none))

  pub written_listed : good lcr ≡ true → (rate : ℕ) → rate_of divisor clock ≡ Ok rate → left r d' ≡ put_into d (line_by rate lcr) → Writes clock divisor lcr d d' r
  written_listed sure rate found told = written_as sure (told ∙ sym (ap (λ (f : Result ℕ Refusal). written_by f (λ rate. line_by rate lcr) d) found))

  pub written_none : good lcr ≡ false → left r d' ≡ left_by d NoSetting → Writes clock divisor lcr d d' r
  written_none bad told =
      inr (record {
        other = λ shape sized is. not_both (ap good is ∙ lcr_good shape sized) bad;
        told = told;
      })
