-- Each refusal exactly in its own case, and what of the buffer stays.
use Rattle.std.specs.Prelude.{Result}
use Prim.Native.Nat.{ℕ, ◌≤◌, ◌<◌}
use mathlib.Core.Bool.{true}
use mathlib.Core.List.{List}
use mathlib.Core.Logic.{inr}
use mathlib.Core.Path.{◌≡◌, refl, ap, sym, ◌∙◌}
use native.Mathlib.Omega.{arith}
use lib.ListN.{length, drop}
use lib.Seq.{drop_at}
use Rattle.base.specs.Pick.{pick}
use Rattle.base.specs.declared.Answer.{Answer}
use Rattle.base.specs.declared.Answer.TheVariants.{Done, Refused}
use Rattle.base.specs.declared.Refusal.{Refusal}
use Rattle.base.specs.Refusals.{number_of}
use Rattle.rates.specs.Answering.{answer_in}
use Rattle.rates.proofs.RatesLaws.{accepted_only, distinct_answered}
use Rattle.text.specs.Line.{decimal, digits_within}
use Rattle.setting_lines.specs.Fields.{N, rate_text, stop_text, shape_text, line_of, lcr_of}
use Rattle.setting_lines.specs.Reading.{divisor_in, lcr_in, NoLine}
use Rattle.setting_lines.specs.Writing.{Left, left, length_in, left_by, NoShape}
use Rattle.setting_lines.specs.ThereAndBack.{begun_by}
use Rattle.setting_lines.specs.Guess.{line_by}
use Rattle.setting_lines.specs.SettingRefusals.{RateMissing, ReadRefusals, Lined, line_with, DivisorMissing, WriteRefusals, Nothing, Stays, Longest}
use Rattle.setting_lines.specs.ShapeLaws.{shape, line_by_lem}
use Rattle.setting_lines.proofs.LineLaws.{line_short, one_rate}
use Rattle.setting_lines.specs.declared.Setting.{Setting}
use Rattle.setting_lines.specs.CaseLaws.{ReadCase, no_line, unlisted, meant, read_case}
use Rattle.setting_lines.specs.CaseLaws.{not_done, WriteCase, no_shape, unrated, short, lined, write_case}

-- two refusals are not the same
pub two_refusals : {A : Type 0} (a : Answer) (n m : ℕ) → a ≡ Refused n → a ≡ Refused m → (n ≡ m → ⊥) → A
two_refusals a n m p q differ = absurd (differ (cc))

-- ---- reading

module _ (line : List ℕ) (clock : ℕ) (r : Result Setting Refusal) where
  answered : {a : Result Setting Refusal} → r ≡ a → answer_in r ≡ answer_in a
  answered is = ap answer_in is

  11-given : ReadCase line clock r → NoLine line → answer_in r ≡ Refused 11
  unfolding number_of
  11-given (no_line other is) none = answered is
  11-given (unlisted u is) none = absurd (none u.rate u.shape u.rated u.sized u.is)
  11-given (meant divisor m is) none = absurd (none m.rate m.shape m.rated m.sized m.is)

  11-only : ReadCase line clock r → answer_in r ≡ Refused 11 → NoLine line
  unfolding number_of
  11-only (no_line other is) told = other
  11-only (unlisted u is) told = two_refusals (answer_in r) 11 10 told (answered is) (λ e. omega arith)
  11-only (meant divisor m is) told = not_done (answer_in r) 11 (answered is) told

  10-given : ReadCase line clock r → RateMissing line clock → answer_in r ≡ Refused 10
  unfolding number_of
  10-given (no_line other is) v = absurd (other v.rate v.shape v.rated v.sized v.is)
  10-given (unlisted u is) v = answered is
  10-given (meant divisor m is) v =
      let same = one_rate m.rate v.rate m.shape v.shape m.rated m.sized v.rated v.sized (sym m.is ∙ v.is) in
      absurd (v.missing (rw (← same) (accepted_only m.rate clock divisor m.listed)))

  10-only : ReadCase line clock r → answer_in r ≡ Refused 10 → RateMissing line clock
  unfolding number_of
  10-only (no_line other is) told = two_refusals (answer_in r) 10 11 told (answered is) (λ e. omega arith)
  10-only (unlisted u is) told = u
  10-only (meant divisor m is) told = not_done (answer_in r) 10 (answered is) told

pub read_refusals : ReadRefusals
read_refusals =
    record {
      gives_11 = λ line clock r reads. 11-given line clock r (read_case line clock r reads);
      only_11 = λ line clock r reads. 11-only line clock r (read_case line clock r reads);
      gives_10 = λ line clock r reads. 10-given line clock r (read_case line clock r reads);
      only_10 = λ line clock r reads. 10-only line clock r (read_case line clock r reads);
    }

-- ---- writing

module _ (clock divisor lcr : ℕ) (d : List ℕ) (l : Left) where
  given_as : {m : Left} → l ≡ m → (answer_in l.written) ≡ answer_in m.written
  given_as is = ap (λ (x : Left). answer_in x.written) is

  pub 11-told : WriteCase clock divisor lcr d l → NoShape lcr → (answer_in l.written) ≡ Refused 11
  unfolding number_of
  11-told (no_shape other is) none = given_as is
  11-told (unrated u is) none = absurd (none u.shape u.sized u.is)
  11-told (short n less is) none = absurd (none n.shape n.sized n.is)
  11-told (lined n fits is) none = absurd (none n.shape n.sized n.is)

  11-alone : WriteCase clock divisor lcr d l → (answer_in l.written) ≡ Refused 11 → NoShape lcr
  unfolding number_of
  11-alone (no_shape other is) told = other
  11-alone (unrated u is) told = two_refusals (answer_in l.written) 11 10 told (given_as is) (λ e. omega arith)
  11-alone (short n less is) told = two_refusals (answer_in l.written) 11 12 told (given_as is) (λ e. omega arith)
  11-alone (lined n fits is) told = not_done (answer_in l.written) 11 (given_as is) told

  10-told : WriteCase clock divisor lcr d l → DivisorMissing clock divisor lcr → (answer_in l.written) ≡ Refused 10
  unfolding number_of
  10-told (no_shape other is) v = absurd (other v.shape v.sized v.is)
  10-told (unrated u is) v = given_as is
  10-told (short n less is) v = absurd (v.missing n.rate n.listed)
  10-told (lined n fits is) v = absurd (v.missing n.rate n.listed)

  10-alone : WriteCase clock divisor lcr d l → (answer_in l.written) ≡ Refused 10 → DivisorMissing clock divisor lcr
  unfolding number_of
  10-alone (no_shape other is) told = two_refusals (answer_in l.written) 10 11 told (given_as is) (λ e. omega arith)
  10-alone (unrated u is) told = u
  10-alone (short n less is) told = two_refusals (answer_in l.written) 10 12 told (given_as is) (λ e. omega arith)
  10-alone (lined n fits is) told = not_done (answer_in l.written) 10 (given_as is) told

  -- a divisor and a byte have one line
  one_line : (n m : Lined clock divisor lcr) → line_with n ≡ line_with m
  one_line n m =
      sym (line_by_lem n.shape n.sized n.rate)
      ∙ ap (λ (rate : ℕ). line_by rate (lcr_of n.shape)) (distinct_answered n.rate m.rate clock divisor n.listed m.listed)
      ∙ ap (line_by m.rate) (sym n.is ∙ m.is)
      ∙ line_by_lem m.shape m.sized m.rate

  12-told : WriteCase clock divisor lcr d l → (m : Lined clock divisor lcr) → length d < length (line_with m) → (answer_in l.written) ≡ Refused 12
  unfolding number_of
  12-told (no_shape other is) m full = absurd (other m.shape m.sized m.is)
  12-told (unrated u is) m full = absurd (u.missing m.rate m.listed)
  12-told (short n less is) m full = given_as is
  12-told (lined n fits is) m full = absurd (omega (arith, ap length (one_line n m)))

  12-alone : WriteCase clock divisor lcr d l → (answer_in l.written) ≡ Refused 12 → (n : Lined clock divisor lcr) × (length d < length (line_with n))
  unfolding number_of
  12-alone (no_shape other is) told = two_refusals (answer_in l.written) 12 11 told (given_as is) (λ e. omega arith)
  12-alone (unrated u is) told = two_refusals (answer_in l.written) 12 10 told (given_as is) (λ e. omega arith)
  12-alone (short n less is) told = (n, less)
  12-alone (lined n fits is) told = not_done (answer_in l.written) 12 (given_as is) told

  pub line_told : WriteCase clock divisor lcr d l → (m : Lined clock divisor lcr) → length (line_with m) ≤ length d
      → l ≡ begun_by d (line_with m)
  line_told (no_shape other is) m room = absurd (other m.shape m.sized m.is)
  line_told (unrated u is) m room = absurd (u.missing m.rate m.listed)
  line_told (short n less is) m room = absurd (omega (arith, ap length (one_line n m)))
  line_told (lined n fits is) m room =
      is ∙ ap (begun_by d) (one_line n m)

  kept : {k : Refusal} → l ≡ left_by d k → l.buffer ≡ d
  kept is = ap (λ (x : Left). x.buffer) is

  refused_kept : WriteCase clock divisor lcr d l → ((answer_in l.written) ≡ Done → ⊥) → l.buffer ≡ d
  unfolding number_of
  refused_kept (no_shape other is) refused = kept is
  refused_kept (unrated u is) refused = kept is
  refused_kept (short n less is) refused = kept is
  refused_kept (lined n fits is) refused = absurd (refused (given_as is))

  behind_kept : WriteCase clock divisor lcr d l → (answer_in l.written) ≡ Done → drop (length_in l.written) l.buffer ≡ drop (length_in l.written) d
  unfolding number_of
  behind_kept (no_shape other is) done = not_done (answer_in l.written) 11 done (given_as is)
  behind_kept (unrated u is) done = not_done (answer_in l.written) 10 done (given_as is)
  behind_kept (short n less is) done = not_done (answer_in l.written) 12 done (given_as is)
  behind_kept (lined n fits is) done = rw is (drop_at (line_with n) (drop (length (line_with n)) d) (length (line_with n)) refl)

pub write_refusals : WriteRefusals
write_refusals =
    record {
      gives_11 = λ clock divisor lcr d d' w writes. 11-told clock divisor lcr d (left w d') (write_case clock divisor lcr d d' w writes);
      only_11 = λ clock divisor lcr d d' w writes. 11-alone clock divisor lcr d (left w d') (write_case clock divisor lcr d d' w writes);
      gives_10 = λ clock divisor lcr d d' w writes. 10-told clock divisor lcr d (left w d') (write_case clock divisor lcr d d' w writes);
      only_10 = λ clock divisor lcr d d' w writes. 10-alone clock divisor lcr d (left w d') (write_case clock divisor lcr d d' w writes);
      gives_12 = λ clock divisor lcr d d' w writes. 12-told clock divisor lcr d (left w d') (write_case clock divisor lcr d d' w writes);
      only_12 = λ clock divisor lcr d d' w writes. 12-alone clock divisor lcr d (left w d') (write_case clock divisor lcr d d' w writes);
      gives_line = λ clock divisor lcr d d' w writes. line_told clock divisor lcr d (left w d') (write_case clock divisor lcr d d' w writes);
    }

-- ---- beside a refusal

module _ (line : List ℕ) (clock : ℕ) (r : Result Setting Refusal) where
  no_numbers_lem : ReadCase line clock r → (answer_in r ≡ Done → ⊥) → (divisor_in r ≡ 0) × (lcr_in r ≡ 0)
  no_numbers_lem (no_line other is) refused = rw is (refl, refl)
  no_numbers_lem (unlisted u is) refused = rw is (refl, refl)
  no_numbers_lem (meant divisor m is) refused = absurd (refused (ap answer_in is))

module _ (clock divisor lcr : ℕ) (d : List ℕ) (l : Left) where
  no_length : WriteCase clock divisor lcr d l → ((answer_in l.written) ≡ Done → ⊥) → length_in l.written ≡ 0
  no_length (no_shape other is) refused = ap (λ (x : Left). length_in x.written) is
  no_length (unrated u is) refused = ap (λ (x : Left). length_in x.written) is
  no_length (short n less is) refused = ap (λ (x : Left). length_in x.written) is
  no_length (lined n fits is) refused = absurd (refused (ap (λ (x : Left). answer_in x.written) is))

pub nothing : Nothing
nothing =
    record {
      read = λ line clock r reads. no_numbers_lem line clock r (read_case line clock r reads);
      written = λ clock divisor lcr d d' w writes. no_length clock divisor lcr d (left w d') (write_case clock divisor lcr d d' w writes);
    }

pub stays : Stays
stays =
    record {
      refused = λ clock divisor lcr d d' w writes. refused_kept clock divisor lcr d (left w d') (write_case clock divisor lcr d d' w writes);
      behind = λ clock divisor lcr d d' w writes. behind_kept clock divisor lcr d (left w d') (write_case clock divisor lcr d d' w writes);
    }

-- ---- the longest line

pub longest : Longest
unfolding line_of rate_text shape_text stop_text decimal digits_within pick
longest =
    record {
      most = line_short;
      reached =
          (384000, shape N true 0, inr (38400, omega arith, omega arith, refl), record { fewest = omega arith; most = omega arith }, refl);
    }
