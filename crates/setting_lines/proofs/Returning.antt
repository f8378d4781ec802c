-- There and back.
use Rattle.std.specs.Prelude.{Result}
use Prim.Native.Nat.{ℕ, ◌≤◌}
use mathlib.Core.List.{List}
use mathlib.Core.Path.{◌≡◌, refl, ap, sym, subst, ◌∙◌}
use native.Mathlib.Omega.{arith}
use lib.ListN.{length, take, drop}
use lib.Seq.{take_at}
use Rattle.base.specs.declared.Answer.TheVariants.{Done, Divisor}
use Rattle.base.specs.declared.Refusal.{Refusal}
use Rattle.base.specs.Refusals.{number_of}
use Rattle.rates.specs.Answering.{answer_in}
use Rattle.rates.specs.Rates.{divisor_of}
use Rattle.rates.proofs.RatesLaws.{accepted_only}
use Rattle.setting_lines.specs.Fields.{Rated, line_of, lcr_of}
use Rattle.setting_lines.specs.Reading.{divisor_in, lcr_in, Reads}
use Rattle.setting_lines.specs.Writing.{Left, left, length_in, Writes}
use Rattle.setting_lines.specs.ThereAndBack.{setting_of, begun_by, ReadBack, WrittenBack}
use Rattle.setting_lines.specs.SettingRefusals.{Lined, line_with}
use Rattle.setting_lines.proofs.RateLaws.{listed_rated}
use Rattle.setting_lines.proofs.LineLaws.{line_short, one_rate, one_lcr}
use Rattle.setting_lines.specs.declared.Setting.{Setting}
use Rattle.setting_lines.specs.CaseLaws.{ReadCase, no_line, unlisted, meant, read_case}
use Rattle.setting_lines.specs.CaseLaws.{not_done, WriteCase, no_shape, unrated, short, lined, write_case}
use Rattle.setting_lines.proofs.Refusing.{line_told}

-- ---- reading what was written

-- the line of a listed divisor and a byte is read as these
module _ (clock divisor lcr : ℕ) (n : Lined clock divisor lcr) (r : Result Setting Refusal) where
  rate_fits : Rated n.rate
  rate_fits = listed_rated n.rate clock divisor n.listed

  read_line : ReadCase (line_with n) clock r → r ≡ setting_of divisor lcr
  read_line (no_line other is) = absurd (other n.rate n.shape rate_fits n.sized refl)
  read_line (unlisted u is) =
      let same = one_rate n.rate u.rate n.shape u.shape rate_fits n.sized u.rated u.sized u.is in
      absurd (u.missing (rw (← same) (accepted_only n.rate clock divisor n.listed)))
  read_line (meant d m is) =
      let rates = one_rate n.rate m.rate n.shape m.shape rate_fits n.sized m.rated m.sized m.is in
      let lcrs = one_lcr n.rate m.rate n.shape m.shape rate_fits n.sized m.rated m.sized m.is in
      let divisors : Divisor divisor ≡ Divisor d = sym n.listed ∙ ap (λ (rate : ℕ). divisor_of rate clock) rates ∙ m.listed in
      let same : d ≡ divisor = cc in
      is ∙ ap (λ (x : ℕ). setting_of x (lcr_of m.shape)) same ∙ ap (setting_of divisor) (sym lcrs ∙ sym n.is)

module _ (clock divisor lcr : ℕ) (d : List ℕ) (l : Left) (r : Result Setting Refusal) where
  read_again : WriteCase clock divisor lcr d l → (answer_in l.written) ≡ Done → Reads (take (length_in l.written) l.buffer) clock r → r ≡ setting_of divisor lcr
  unfolding number_of
  read_again (no_shape other is) done reads = not_done (answer_in l.written) 11 done (ap (λ (x : Left). answer_in x.written) is)
  read_again (unrated u is) done reads = not_done (answer_in l.written) 10 done (ap (λ (x : Left). answer_in x.written) is)
  read_again (short n less is) done reads = not_done (answer_in l.written) 12 done (ap (λ (x : Left). answer_in x.written) is)
  read_again (lined n fits is) done reads =
      let taken : take (length_in l.written) l.buffer ≡ line_with n =
      ap (λ (x : Left). take (length_in x.written) x.buffer) is ∙ take_at (line_with n) (drop (length (line_with n)) d) (length (line_with n)) refl in
      read_line clock divisor lcr n r (read_case (line_with n) clock r (subst (λ (line : List ℕ). Reads line clock r) taken reads))

pub read_back : ReadBack
read_back =
    record {
      written = λ rate clock divisor s d d' w listed sized room writes.
          let n : Lined clock divisor (lcr_of s) = record { rate = rate; shape = s; sized = sized; is = refl; listed = listed } in
          let few : length (line_of rate s) ≤ 13 = line_short rate s (listed_rated rate clock divisor listed) sized in
          ap (λ (x : Left). answer_in x.written)
          (line_told clock divisor (lcr_of s) d (left w d') (write_case clock divisor (lcr_of s) d d' w writes) n (omega arith));
      back = λ clock divisor lcr d d' w r writes. read_again clock divisor lcr d (left w d') r (write_case clock divisor lcr d d' w writes);
    }

-- ---- writing what was read

module _ (line : List ℕ) (clock : ℕ) (r : Result Setting Refusal) (d d' : List ℕ) (w : Result ℕ Refusal) where
  write_again : ReadCase line clock r → answer_in r ≡ Done → length line ≤ length d → Writes clock (divisor_in r) (lcr_in r) d d' w
      → left w d' ≡ begun_by d line
  unfolding number_of
  write_again (no_line other is) done room writes = not_done (answer_in r) 11 done (ap answer_in is)
  write_again (unlisted u is) done room writes = not_done (answer_in r) 10 done (ap answer_in is)
  write_again (meant divisor m is) done room writes =
      let n : Lined clock (divisor_in r) (lcr_in r) = record {
        rate = m.rate;
        shape = m.shape;
        sized = m.sized;
        is = ap lcr_in is;
        listed = m.listed ∙ ap (λ (x : Result Setting Refusal). Divisor (divisor_in x)) (sym is);
      } in
      line_told clock (divisor_in r) (lcr_in r) d (left w d') (write_case clock (divisor_in r) (lcr_in r) d d' w writes) n (rw (← m.is) room)
      ∙ ap (begun_by d) (sym m.is)

pub written_back : WrittenBack
written_back =
    record { back = λ line clock r d d' w reads. write_again line clock r d d' w (read_case line clock r reads) }
