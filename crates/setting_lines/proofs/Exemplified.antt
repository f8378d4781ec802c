-- The examples: each line's answer, computed as the code comes to it.
use Rattle.std.specs.Prelude.{Result, Err}
use Prim.Native.Nat.{ℕ, ◌≤◌}
use Prim.Native.String.{String}
use mathlib.Core.Bool.{Bool, true, false, ◌&&◌}
use mathlib.Core.List.{List, [], ◌∷◌, map}
use mathlib.Core.Logic.{⊎_elim}
use mathlib.Core.Path.{◌≡◌, refl, ap, ap₂, sym, ◌∙◌}
use native.Mathlib.Omega.{arith}
use lib.Dec.{eqb}
use lib.ListN.{length, take, drop}
use lib.Seq.{take_at}
use borrow.Author.Tests.{eqb-true, eq-eqb}
use Rattle.base.specs.Pick.{pick}
use Rattle.base.specs.PickLaws.{pick_true, pick_false, either_way, both_hold, not_both}
use Rattle.base.specs.Bits.{bit, digit}
use Rattle.base.specs.Answers.{refusal_of, value_of}
use Rattle.base.specs.declared.Answer.TheVariants.{Divisor}
use Rattle.base.specs.declared.Refusal.{Refusal}
use Rattle.base.specs.declared.Refusal.TheVariants.{NoSetting}
use Rattle.rates.specs.Rates.{everywhere, rates_of, first, second, third, divisors_of, look, divisor_of, rate_of}
use Rattle.text.specs.Quoted.{quoted}
use Rattle.text.specs.Line.{decimal, digits_within}
use Rattle.setting_lines.specs.Fields.{rate_text, stop_text, shape_text, lcr_of, line_of}
use Rattle.setting_lines.specs.Reading.{setting_by, Reads}
use Rattle.setting_lines.specs.Writing.{Left, left, length_in, written_by, Writes}
use Rattle.setting_lines.specs.Guess.{letter_by, shape_by, line_by, good, behind_rate, code_by, bits_by, lcr_guess, halved, rate_guess, guess_at, guessed}
use Rattle.setting_lines.specs.SettingRefusals.{Lined, line_with}
use Rattle.setting_lines.specs.ThereAndBack.{Answered}
use Rattle.setting_lines.specs.Examples.{Wrote, NotWritten, Example, examples, AllRead, Examples}
use Rattle.setting_lines.specs.ShapeLaws.{shape_for, shape_sized, lcr_again, lcr_good}
use Rattle.setting_lines.proofs.LineLaws.{read_one, line_short}
use Rattle.setting_lines.proofs.RateLaws.{listed_rated}
use Rattle.setting_lines.specs.declared.Setting.{Setting}
use Rattle.setting_lines.specs.CaseLaws.{write_case}
use Rattle.setting_lines.proofs.Refusing.{11-told, line_told}
use Rattle.setting_lines.proofs.Ends.{read_as, read_none, written_as, written_none}

-- two texts are the same, as a test
abbrev same : List ℕ → List ℕ → Bool
same [] [] = true
same [] (d ∷ m) = false
same (c ∷ l) [] = false
same (c ∷ l) (d ∷ m) = eqb c d && same l m

same_is : (l m : List ℕ) → same l m ≡ true → l ≡ m
same_is [] [] h = refl
same_is [] (d ∷ m) h = absurd (not_both h refl)
same_is (c ∷ l) [] h = absurd (not_both h refl)
same_is (c ∷ l) (d ∷ m) h = let two = both_hold (eqb c d) (same l m) h in ap₂ ◌∷◌ (eqb-true c d two.0) (same_is l m two.1)

same_self : (l : List ℕ) → same l l ≡ true
same_self [] = refl
same_self (c ∷ l) = ap₂ ◌&&◌ (eq-eqb c c refl) (same_self l)

-- the line of the guess at a line, and the answer by it
abbrev own : List ℕ → List ℕ
own line = line_by (guessed line).rate (guessed line).lcr

abbrev answer_of : List ℕ → ℕ → Result Setting Refusal
answer_of line clock = pick (same line (own line)) (setting_by (divisor_of (guessed line).rate clock) (guessed line).lcr) (Err NoSetting)

answers : (line : List ℕ) (clock : ℕ) → Reads line clock (answer_of line clock)
answers line clock =
    ⊎_elim
    (λ (h : same line (own line) ≡ true).
    read_as line clock (answer_of line clock) (guessed line) refl (same_is line (own line) h) (pick_true _ _ _ h))
    (λ (h : same line (own line) ≡ false).
    read_none line clock (answer_of line clock) (guessed line) refl
    (λ e. not_both (ap (same line) (sym e) ∙ same_self line) h) (pick_false _ _ _ h))
    (either_way (same line (own line)))

answers_written : (clock divisor lcr : ℕ) (d : List ℕ) → (d' : List ℕ) × (w : Result ℕ Refusal) × Writes clock divisor lcr d d' w
answers_written clock divisor lcr d =
    ⊎_elim
    (λ (sure : good lcr ≡ true).
    let l = written_by (rate_of divisor clock) (λ rate. line_by rate lcr) d in
    (l.buffer, l.written, written_as clock divisor lcr d l.buffer l.written sure refl))
    (λ (bad : good lcr ≡ false). (d, _, written_none clock divisor lcr d d _ bad refl))
    (either_way (good lcr))

pub answered : Answered
answered = record { read = λ line clock. (answer_of line clock, answers line clock); written = answers_written }

-- where all are computed as they should be, each is read so
all_read : (es : List Example) → map (λ e. answer_of (quoted e.line) e.clock) es ≡ map (λ e. e.setting) es → AllRead es
all_read [] is = tt
all_read (e ∷ es) is =
    let here : answer_of (quoted e.line) e.clock ≡ e.setting = cc in
    let this : Reads (quoted e.line) e.clock e.setting = rw (← here) (answers (quoted e.line) e.clock) in
    ((this, λ r reads. read_one (quoted e.line) e.clock r e.setting reads this), all_read es (cc))

-- a listed divisor and a good byte, written
wrote : (clock divisor lcr rate : ℕ) (text : String) → good lcr ≡ true → divisor_of rate clock ≡ Divisor divisor
    → line_of rate (shape_for lcr) ≡ quoted text → Wrote clock divisor lcr text
wrote clock divisor lcr rate text sure listed is d d' w room writes =
    let n : Lined clock divisor lcr =
    record { rate = rate; shape = shape_for lcr; sized = shape_sized lcr; is = lcr_again lcr sure; listed = listed } in
    let few : length (line_with n) ≤ 13 = line_short rate (shape_for lcr) (listed_rated rate clock divisor listed) (shape_sized lcr) in
    let told = line_told clock divisor lcr d (left w d') (write_case clock divisor lcr d d' w writes) n (omega arith) in
    ap (λ (x : Left). take (length_in x.written) x.buffer) told
    ∙ take_at (line_with n) (drop (length (line_with n)) d) (length (line_with n)) refl
    ∙ is

not_written : (lcr : ℕ) → good lcr ≡ false → NotWritten lcr
not_written lcr bad clock divisor d d' w writes =
    11-told clock divisor lcr d (left w d') (write_case clock divisor lcr d d' w writes)
    (λ s sized is. not_both (ap good is ∙ lcr_good s sized) bad)

pub exemplified : Examples
unfolding pick bit digit refusal_of value_of everywhere rates_of first second third divisors_of look divisor_of decimal digits_within rate_text stop_text shape_text lcr_of line_of letter_by shape_by line_by good behind_rate code_by bits_by lcr_guess halved rate_guess guess_at guessed
exemplified =
    record {
      read = all_read examples refl;
      sheet = wrote 0 12 0b011_110 96000 "9600,E,7,2" refl refl refl;
      five = wrote 0 384 0b000_100 3000 "300,N,5,1.5" refl refl refl;
      half = wrote 0 857 0b000_011 1345 "134.5,N,8,1" refl refl refl;
      second = wrote 1 16 0b000_011 96000 "9600,N,8,1" refl refl refl;
      third = wrote 2 20 0b000_011 96000 "9600,N,8,1" refl refl refl;
      divisor_bit = not_written 0x83 refl;
      break_bit = not_written 0x43 refl;
      no_letter = not_written 0b010_011 refl;
    }
