-- Demand 1 holds for settings lines, and with no other value than FFF.
use Rattle.std.specs.Prelude.{Result}
use Prim.Native.Nat.{ℕ}
use mathlib.Core.List.{List}
use mathlib.Core.Logic.{inl, inr}
use mathlib.Core.Path.{◌≡◌, ap}
use Rattle.base.specs.declared.Answer.TheVariants.{Done}
use Rattle.base.specs.Answers.{refusal_of, value_of}
use Rattle.base.specs.Refusals.{number_of}
use Rattle.base.specs.declared.Refusal.{Refusal}
use Rattle.rates.specs.Answering.{answer_in}
use Rattle.setting_lines.specs.Reading.{Reads}
use Rattle.setting_lines.specs.Writing.{Left, left, left_by, Writes}
use Rattle.setting_lines.specs.CaseLaws.{not_done, ReadCase, no_line, unlisted, meant, read_case, WriteCase, no_shape, unrated, short, lined, write_case}
use Rattle.setting_lines.specs.declared.Setting.{Setting}
use Rattle.setting_lines.proofs.Statements as lines
use Rattle.demands.specs.DemandLines.{read_reasons, Readings, write_reasons, Writings}
use Rattle.demands.specs.Reasons.{AnsweredBy}

-- ---- reading

module _ (line : List ℕ) (clock : ℕ) (r : Result Setting Refusal) (reads : Reads line clock r) where
  read_by : ReadCase line clock r → AnsweredBy 0xFFF (read_reasons line clock) (answer_in r)
  unfolding refusal_of value_of number_of
  read_by (no_line other is) = inr (inl (other, ap (λ (x : Result Setting Refusal). refusal_of (answer_in x)) is), ap (λ (x : Result Setting Refusal). value_of (answer_in x)) is)
  read_by (unlisted u is) =
      inr (
        inr (λ none. none u.rate u.shape u.rated u.sized u.is, inl (u, ap (λ (x : Result Setting Refusal). refusal_of (answer_in x)) is)),
        ap (λ (x : Result Setting Refusal). value_of (answer_in x)) is,
      )
  read_by (meant divisor m is) =
      let done : answer_in r ≡ Done = ap answer_in is in
      inl (
        ap refusal_of done,
        (
          λ none. none m.rate m.shape m.rated m.sized m.is,
          (λ u. not_done (answer_in r) 10 done ((lines.statements).read_refusals.gives_10 line clock r reads u), tt),
        ),
      )

pub readings : Readings 0xFFF
readings line clock r reads = read_by line clock r reads (read_case line clock r reads)

-- ---- writing

module _ (clock divisor lcr : ℕ) (d d' : List ℕ) (w : Result ℕ Refusal) (writes : Writes clock divisor lcr d d' w) where
  number : {n : Refusal} → left w d' ≡ left_by d n → refusal_of (answer_in w) ≡ number_of n
  unfolding refusal_of
  number is = ap (λ (l : Left). refusal_of (answer_in l.written)) is

  fff : {n : Refusal} → left w d' ≡ left_by d n → value_of (answer_in w) ≡ 0xFFF
  unfolding value_of
  fff is = ap (λ (l : Left). value_of (answer_in l.written)) is

  written_by_lem : WriteCase clock divisor lcr d (left w d') → AnsweredBy 0xFFF (write_reasons clock divisor lcr d) (answer_in w)
  unfolding refusal_of number_of
  written_by_lem (no_shape other is) = inr (inl (other, number is), fff is)
  written_by_lem (unrated u is) = inr (inr (λ none. none u.shape u.sized u.is, inl (u, number is)), fff is)
  written_by_lem (short n less is) =
      inr (inr (λ none. none n.shape n.sized n.is, inr (λ u. u.missing n.rate n.listed, inl ((n, less), number is))), fff is)
  written_by_lem (lined n fits is) =
      let done : answer_in w ≡ Done = ap (λ (l : Left). answer_in l.written) is in
      inl (
        ap refusal_of done,
        (
          λ none. none n.shape n.sized n.is,
          (
            λ u. u.missing n.rate n.listed,
            (λ full. not_done (answer_in w) 12 done ((lines.statements).write_refusals.gives_12 clock divisor lcr d d' w writes full.0 full.1), tt),
          ),
        ),
      )

  stays : (refusal_of (answer_in w) ≡ 0 → ⊥) → d' ≡ d
  unfolding refusal_of
  stays some = (lines.statements).stays.refused clock divisor lcr d d' w writes (λ done. some (ap refusal_of done))

pub writings : Writings 0xFFF
writings clock divisor lcr d d' w writes =
    (written_by_lem clock divisor lcr d d' w writes (write_case clock divisor lcr d d' w writes), stays clock divisor lcr d d' w writes)
