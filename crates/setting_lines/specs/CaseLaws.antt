-- The outcomes of the two calls, case by case.
use Rattle.std.specs.Prelude.{ℕ, ◌≤◌, ◌<◌, true, false, List, ◌≡◌, refl, leb, length, Result, Err}
use Rattle.std.proofs.Common.{inl, inr, ⊎_elim, ap, ◌∙◌, arith, leb-true, leb-false}
use Rattle.base.specs.Pick.{pick}
use Rattle.base.specs.PickLaws.{pick_true, pick_false, either_way}
use Rattle.base.specs.Answers.{refusal_of, value_of}
use Rattle.base.specs.declared.Answer.{Answer}
use Rattle.base.specs.declared.Answer.TheVariants.{Done, Divisor, Refused}
use Rattle.base.specs.declared.Refusal.{Refusal}
use Rattle.base.specs.declared.Refusal.TheVariants.{NotListed, NoSetting, NoRoom}
use Rattle.rates.specs.Rates.{divisor_of}
use Rattle.rates.proofs.RatesLaws.{accepted}
use Rattle.rates.proofs.BackLaws.{rate_found, rate_none, divisor_either, either}
use Rattle.setting_lines.specs.Fields.{Shape, Sized, Rated, line_of, lcr_of}
use Rattle.setting_lines.specs.Reading.{setting_by, NoLine, Reads}
use Rattle.setting_lines.specs.Writing.{Left, left, left_by, put_into, written_by, NoShape, Writes}
use Rattle.setting_lines.specs.ThereAndBack.{setting_of, begun_by}
use Rattle.setting_lines.specs.SettingRefusals.{RateMissing, Lined, line_with, DivisorMissing}
use Rattle.setting_lines.specs.declared.Setting.{Setting}

-- an answer beside a refusal is not the same
pub not_done : {A : Type 0} (a : Answer) (n : ℕ) → a ≡ Done → a ≡ Refused n → A
not_done a n p q = let z : ◌≡◌ {A = ℕ} 0 1 = cc in absurd (omega arith)

-- ---- reading

-- the line of a rate and a shape, and a divisor that the clock's list has for the rate
pub record Meant (line : List ℕ) (clock divisor : ℕ) : Type 0 where
  pub rate : ℕ
  pub shape : Shape
  pub rated : Rated rate
  pub sized : Sized shape
  pub is : line ≡ line_of rate shape
  pub listed : divisor_of rate clock ≡ Divisor divisor

pub data ReadCase (line : List ℕ) (clock : ℕ) (r : Result Setting Refusal) : Type 0 where
  no_line : NoLine line → r ≡ Err NoSetting → ReadCase line clock r
  unlisted : RateMissing line clock → r ≡ Err NotListed → ReadCase line clock r
  meant : (divisor : ℕ) (m : Meant line clock divisor) → r ≡ setting_of divisor (lcr_of m.shape) → ReadCase line clock r

by_divisor : (divisor lcr : ℕ) → setting_by (Divisor divisor) lcr ≡ setting_of divisor lcr
unfolding refusal_of value_of pick
by_divisor divisor lcr = refl

by_refusal : (lcr : ℕ) → setting_by (Refused 10) lcr ≡ Err NotListed
unfolding refusal_of pick
by_refusal lcr = refl

no_divisor_lem : (d : ℕ) (a : Answer) → a ≡ Divisor d → a ≡ Refused 10 → ⊥
no_divisor_lem d a p q = let z : ◌≡◌ {A = ℕ} 0 1 = cc in omega arith

pub read_case : (line : List ℕ) (clock : ℕ) (r : Result Setting Refusal) → Reads line clock r → ReadCase line clock r
read_case line clock r (inr a) = no_line a.other a.told
read_case line clock r (inl a) =
    ⊎_elim
    (λ has.
    meant has.0
    (record { rate = a.rate; shape = a.shape; rated = a.rated; sized = a.sized; is = a.is; listed = has.1 })
    (a.told ∙ ap (λ (x : Answer). setting_by x (lcr_of a.shape)) has.1 ∙ by_divisor has.0 (lcr_of a.shape)))
    (λ no.
    unlisted
    (record {
      rate = a.rate;
      shape = a.shape;
      rated = a.rated;
      sized = a.sized;
      is = a.is;
      missing = λ l. let has = accepted a.rate clock l in no_divisor_lem has.0 (divisor_of a.rate clock) has.1 no;
    })
    (a.told ∙ ap (λ (x : Answer). setting_by x (lcr_of a.shape)) no ∙ by_refusal (lcr_of a.shape)))
    (divisor_either a.rate clock)

-- ---- writing

pub data WriteCase (clock divisor lcr : ℕ) (d : List ℕ) (l : Left) : Type 0 where
  no_shape : NoShape lcr → l ≡ left_by d NoSetting → WriteCase clock divisor lcr d l
  unrated : DivisorMissing clock divisor lcr → l ≡ left_by d NotListed → WriteCase clock divisor lcr d l
  short : (n : Lined clock divisor lcr) → length d < length (line_with n) → l ≡ left_by d NoRoom → WriteCase clock divisor lcr d l
  lined : (n : Lined clock divisor lcr) → length (line_with n) ≤ length d
      → l ≡ begun_by d (line_with n) → WriteCase clock divisor lcr d l

by_found : (rate : ℕ) (line : ℕ → List ℕ) (d : List ℕ) → written_by (rate_found rate) line d ≡ put_into d (line rate)
by_found rate line d = refl

by_none : (line : ℕ → List ℕ) (d : List ℕ) → written_by rate_none line d ≡ left_by d NotListed
by_none line d = refl

pub write_case : (clock divisor lcr : ℕ) (d d' : List ℕ) (w : Result ℕ Refusal) → Writes clock divisor lcr d d' w → WriteCase clock divisor lcr d (left w d')
write_case clock divisor lcr d d' w (inr a) = no_shape a.other a.told
write_case clock divisor lcr d d' w (inl a) =
    ⊎_elim
    (λ has.
    let n : Lined clock divisor lcr = record { rate = has.0; shape = a.shape; sized = a.sized; is = a.is; listed = has.2 } in
    let told : left w d' ≡ put_into d (line_with n) =
    a.told ∙ ap (λ (f : Result ℕ Refusal). written_by f (λ rate. line_of rate a.shape) d) has.1
    ∙ by_found has.0 (λ rate. line_of rate a.shape) d in
    ⊎_elim
    (λ (fits : leb (length (line_with n)) (length d) ≡ true). lined n (leb-true _ _ fits) (told ∙ pick_true _ _ _ fits))
    (λ (full : leb (length (line_with n)) (length d) ≡ false). short n (leb-false _ _ full) (told ∙ pick_false _ _ _ full))
    (either_way (leb (length (line_with n)) (length d))))
    (λ no.
    unrated
    (record { shape = a.shape; sized = a.sized; is = a.is; missing = no.1 })
    (a.told ∙ ap (λ (f : Result ℕ Refusal). written_by f (λ rate. line_of rate a.shape) d) no.0
    ∙ by_none (λ rate. line_of rate a.shape) d))
    (either divisor clock)
