-- The control sheet's own line, 9600,E,7,2 at clock 0, read and written; and one of each refusal.
use Rattle.std.specs.Prelude.{ℕ, true, List, ◌≡◌, refl, Option, Some, Result, Ok, Err}
use Rattle.std.proofs.Common.{inl, inr, ⊎_elim, ap, subst, arith}
use Rattle.base.specs.Pick.{pick}
use Rattle.base.specs.Bits.{digit}
use Rattle.base.specs.Answers.{refusal_of, value_of}
use Rattle.base.specs.Refusals.{number_of}
use Rattle.base.specs.declared.Answer.TheVariants.{Refused}
use Rattle.rates.specs.Answering.{answer_in}
use Rattle.base.specs.declared.Refusal.{Refusal}
use Rattle.rates.specs.Rates.{everywhere, rates_of, first, divisors_of, look, divisor_of}
use Rattle.text.specs.Quoted.{quoted}
use Rattle.text.specs.Line.{decimal, digits_within, capital}
use Rattle.setting_lines.specs.Fields.{E, rate_text, stop_text, shape_text, line_of, lcr_of}
use Rattle.setting_lines.specs.Reading.{setting_by, ReadAs, NoLine, OtherLine, Reads}
use Rattle.setting_lines.specs.Writing.{Left}
use Rattle.setting_lines.specs.SettingRefusals.{Lined}
use Rattle.setting_lines.proofs.LineLaws.{read_one}
use Rattle.setting_lines.specs.declared.Setting.{Setting}
use Rattle.setting_lines.proofs.Statements.{statements}
use Rattle.sheets.specs.Limits.{up_to}
use Rattle.sheets.specs.Texts.{setting_text, written_text, AtStart}
use Rattle.text.specs.Hex.{digit as worth}
use Rattle.sheets.specs.Numbers.{base, no_numbers, with_digit, with_blank, numbers_after, numbers_behind, four}
use Rattle.sheets.specs.Replies.{LineReply, NumbersReply}

lined : Lined 0 12 0x1E
unfolding pick digit everywhere rates_of first divisors_of look divisor_of lcr_of
lined = record {
  rate = 96000;
  shape = record { parity = E; bits = 7; longer = true };
  sized = record { fewest = omega arith; most = omega arith };
  is = refl;
  listed = refl;
}

-- it is read so at any clock
own : (clock : ℕ) → Reads (quoted "9600,E,7,2") clock (setting_by (divisor_of 96000 clock) 0x1E)
unfolding pick digit decimal digits_within rate_text stop_text shape_text line_of lcr_of lined
own clock = inl (record {
  rate = 96000;
  shape = lined.shape;
  rated = inr (9600, omega arith, omega arith, refl);
  sized = lined.sized;
  is = refl;
  told = refl;
})

own_told : (clock : ℕ) (d d' : List ℕ) (r : ℕ) → LineReply (quoted "9600,E,7,2") clock d d' r
    → AtStart (setting_text (setting_by (divisor_of 96000 clock) 0x1E)) d d' r
own_told clock d d' r p =
    subst (λ (s : Result Setting Refusal). AtStart (setting_text s) d d' r) (read_one _ clock p.setting _ p.read (own clock)) p.told

pub sheet_read : (d d' : List ℕ) (r : ℕ) → LineReply (quoted "9600,E,7,2") 0 d d' r → AtStart (quoted "0 12 1E\n") d d' r
unfolding setting_text pick number_of refusal_of value_of decimal digits_within capital everywhere rates_of first divisors_of look divisor_of
sheet_read d d' r p = own_told 0 d d' r p

abbrev text_of : Left → List ℕ
text_of l = written_text l.written l.buffer

pub sheet_written : (d d' : List ℕ) (r : Option ℕ) → NumbersReply (numbers_behind no_numbers (quoted "0 12 1E 10")) d d' r
    → (n : ℕ) × (r ≡ Some n) × AtStart (quoted "0 9600,E,7,2\n") d d' n
unfolding up_to worth base with_digit with_blank numbers_after four lined written_text pick decimal digits_within rate_text stop_text shape_text line_of
sheet_written d d' r p =
    let (n, found, told) : _ = p.answer refl in
    let is : _ = statements.write_refusals.gives_line 0 12 0x1E _ told.buffer told.written told.writes lined (omega arith) in
    (n, found, subst (λ (l : List ℕ). AtStart l d d' n) (ap text_of is) told.told)

-- ---- refused

pub other_read : (line : List ℕ) (clock : ℕ) (d d' : List ℕ) (r : ℕ) → NoLine line → LineReply line clock d d' r
    → AtStart (quoted "11 - -\n") d d' r
unfolding setting_text pick number_of decimal digits_within
other_read line clock d d' r none p =
    ⊎_elim
    (λ (a : ReadAs line clock p.setting). absurd (none a.rate a.shape a.rated a.sized a.is))
    (λ (o : OtherLine line p.setting). subst (λ (s : Result Setting Refusal). AtStart (setting_text s) d d' r) o.told p.told)
    p.read

pub unlisted_read : (d d' : List ℕ) (r : ℕ) → LineReply (quoted "9600,E,7,2") 3 d d' r → AtStart (quoted "10 - -\n") d d' r
unfolding setting_text pick number_of refusal_of decimal digits_within everywhere rates_of divisors_of look divisor_of
unlisted_read d d' r p = own_told 3 d d' r p

refused_text : (w : Result ℕ Refusal) (buffer : List ℕ) → answer_in w ≡ Refused 12 → written_text w buffer ≡ quoted "12 -\n"
unfolding written_text pick decimal digits_within
refused_text (Ok n) buffer is = absurd (cc)
refused_text (Err r) buffer is = let same : number_of r ≡ 12 = cc in rw same

pub short_written : (d d' : List ℕ) (r : Option ℕ) → NumbersReply (numbers_behind no_numbers (quoted "0 12 1E 9")) d d' r
    → (n : ℕ) × (r ≡ Some n) × AtStart (quoted "12 -\n") d d' n
unfolding up_to worth base with_digit with_blank numbers_after four lined written_text pick decimal digits_within rate_text stop_text shape_text line_of
short_written d d' r p =
    let (n, found, told) : _ = p.answer refl in
    let is : _ = statements.write_refusals.gives_12 0 12 0x1E _ told.buffer told.written told.writes lined (omega arith) in
    (n, found, subst (λ (l : List ℕ). AtStart l d d' n) (refused_text told.written told.buffer is) told.told)
