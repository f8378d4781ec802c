-- What the contracts of the settings lines for C require, told by what C sees of them: what was written is read back, and numbers that are none of a
-- setting are refused, however large.
use Prim.Native.Nat.{ℕ, ◌≤◌}
use mathlib.Core.Bool.{false}
use mathlib.Core.List.{List}
use mathlib.Core.Path.{◌≡◌, ap, sym, subst, ◌∙◌}
use native.Mathlib.Omega.{arith}
use lib.ListN.{take}
use seplogic.Ra.Ura.{Ura}
use base.Logic.{SProp, ent, id⊢}
use prog.Memory.{Memory}
use prog.Routine.{Routine}
use types.Logic.{Logic}
use contract.Monad.{Fun, fact, fact_use, fact_i, conj, conj_l, conj_r}
use contract.Lifetimes.{Lfts}
use denote.Triple.Entry.{Args, Res}
use denote.Triple.Clauses.{Lasts, at_exit}
use borrow.Author.Tests.{ne_eqb}
use Rattle.base.specs.Pick.{pick}
use Rattle.base.specs.PickLaws.{pick_false}
use Rattle.base.specs.Answers.{refusal_of, value_of}
use Rattle.base.specs.Refusals.{number_of}
use Rattle.base.specs.declared.Answer.{Answer}
use Rattle.base.specs.declared.Answer.TheVariants.{Byte, Divisor, Done, Refused}
use Rattle.c_word.specs.Word.{answer_in, refusal_in, Tells}
use Rattle.rates.specs.Answering as answering
use Rattle.setting_lines.specs.Fields.{Shape, Sized, lcr_of}
use Rattle.setting_lines.specs.Reading.{divisor_in, lcr_in, Reads}
use Rattle.setting_lines.specs.Writing.{Left, left, length_in}
use Rattle.setting_lines.specs.ThereAndBack.{setting_of}
use Rattle.setting_lines.specs.CaseLaws.{not_done, WriteCase, no_shape, unrated, short, lined, write_case}
use Rattle.setting_lines.proofs.Statements.{statements}
use Rattle.embed.specs.Settings.{given_unless, ReadsTold, WritesTold}
use Rattle.embed.specs.SettingLaws.{shape_below, past_divisor}
use Rattle.embed.specs.contracts.hailstoat_read_setting as read
use Rattle.embed.specs.contracts.hailstoat_write_setting as write

-- ---- what a word shows of what was given, and of what was refused

given_shown : (w : ℕ) (a given : Answer) → a ≡ Done → Tells w (given_unless a given) false → Tells w given false
unfolding refusal_of pick
given_shown w a given is told = subst (λ (x : Answer). Tells w (given_unless x given) false) is told

refused_shown : (w n : ℕ) (a given : Answer) → a ≡ Refused n → (n ≡ 0 → ⊥) → Tells w (given_unless a given) false → Tells w (Refused n) false
unfolding refusal_of
refused_shown w n a given is some told =
    subst (λ (x : Answer). Tells w x false) (ap (λ (x : Answer). given_unless x given) is ∙ pick_false _ _ _ (ne_eqb n 0 some)) told

-- a line was written where the word shows no refusal
done_shown : (clock divisor lcr : ℕ) (d d' : List ℕ) (r : ℕ) (t : WritesTold clock divisor lcr d d' r) → refusal_in r ≡ 0 → answering.answer_in t.written ≡ Done
unfolding refusal_of number_of
done_shown clock divisor lcr d d' r t none = by_case (write_case clock divisor lcr d d' t.written t.writes)
  where
    answered : {l : Left} → left t.written d' ≡ l → answering.answer_in t.written ≡ answering.answer_in l.written
    answered is = ap (λ (l : Left). answering.answer_in l.written) is

    not_refused : (n : ℕ) → (n ≡ 0 → ⊥) → answering.answer_in t.written ≡ Refused n → answering.answer_in t.written ≡ Done
    not_refused n some is = absurd (some (sym (refused_shown r n (answering.answer_in t.written) _ is some t.told).1.refusal ∙ none))

    by_case : WriteCase clock divisor lcr d (left t.written d') → answering.answer_in t.written ≡ Done
    by_case (no_shape other is) = not_refused 11 (λ e. omega arith) (answered is)
    by_case (unrated u is) = not_refused 10 (λ e. omega arith) (answered is)
    by_case (short n less is) = not_refused 12 (λ e. omega arith) (answered is)
    by_case (lined n fits is) = answered is

module _ {M : Type 1} {𝓤 : Ura M} (𝓛 : Logic 𝓤) (mem : Memory → SProp 𝓤) (run : Routine → Fun 𝓤)
    (κ : Lfts (write.ended).signature.lifetimes) (a : Args (write.ended).signature κ) (g : (write.clauses 𝓛 mem run κ a).ghost)
    (r : Res (write.ended).signature κ) (v : Lasts write.ended κ a) where
  abbrev Written-to : SProp 𝓤
  Written-to = (write.clauses 𝓛 mem run κ a).ensures g r (at_exit write.ended κ a v)

  abbrev divisor : ℕ
  divisor = a.0

  abbrev lcr : ℕ
  lcr = a.1.0

  abbrev clock : ℕ
  clock = a.1.1.0

  -- the buffer before and after it
  abbrev before : List ℕ
  before = a.1.1.1.0.now

  abbrev after : List ℕ
  after = v.1.1.1.0

  abbrev Says : Type 0
  Says = WritesTold clock divisor lcr before after r

  abbrev Refuses : ℕ → Type 0
  Refuses n = (after ≡ before) × (refusal_in r ≡ n) × (answer_in r ≡ 0xFFF)

  refuses : (n : ℕ) (p : Says) → answering.answer_in p.written ≡ Refused n → (n ≡ 0 → ⊥) → Refuses n
  unfolding refusal_of value_of
  refuses n p is some =
      let told = refused_shown r n (answering.answer_in p.written) _ is some p.told in
      (statements.stays.refused clock divisor lcr before after p.written p.writes (λ done. not_done (answering.answer_in p.written) n done is), told.1.refusal, told.1.answer)

  -- ticket 1: "11 for any other line or an LCR byte that no line gives": no number past a byte is one
  pub lcr_lent_refused : 255 ≤ lcr → ent 𝓤 Written-to (fact 𝓤 (Refuses 11))
  lcr_lent_refused past =
      fact_use 𝓤 Says (id⊢ 𝓤 Written-to) (λ p.
      fact_i 𝓤 (Refuses 11) Written-to
      (refuses 11 p
      (statements.write_refusals.gives_11 clock divisor lcr before after p.written p.writes (λ s sized is. omega (arith, past, is, shape_below s sized)))
      (λ e. omega arith)))

  -- ticket 1: "then 10 (also for a divisor not listed at the clock)": no number past two bytes is listed
  pub divisor_lent_refused : (s : Shape) → Sized s → lcr ≡ lcr_of s → 65535 ≤ divisor → ent 𝓤 Written-to (fact 𝓤 (Refuses 10))
  divisor_lent_refused s sized is past =
      fact_use 𝓤 Says (id⊢ 𝓤 Written-to) (λ p.
      fact_i 𝓤 (Refuses 10) Written-to
      (refuses 10 p
      (statements.write_refusals.gives_10 clock divisor lcr before after p.written p.writes
      (record { shape = s; sized = sized; is = is; missing = λ rate. past_divisor clock divisor rate past }))
      (λ e. omega arith)))

  -- a line that was written, read at the same clock from as many bytes of the buffer as the word told, gives divisor and LCR byte back
  pub written_read_lent : (κ' : Lfts (read.ended).signature.lifetimes) (a' : Args (read.ended).signature κ') (g' : (read.clauses 𝓛 mem run κ' a').ghost)
      (r' : Res (read.ended).signature κ') (v' : Lasts read.ended κ' a')
      → refusal_in r ≡ 0 → a'.0.now ≡ take (answer_in r) after → a'.1.0 ≡ clock
      → ent 𝓤 (conj 𝓤 Written-to ((read.clauses 𝓛 mem run κ' a').ensures g' r' (at_exit read.ended κ' a' v')))
      (fact 𝓤 ((refusal_in r' ≡ 0) × (answer_in r' ≡ divisor) × (v'.1.1.0 ≡ lcr)))
  unfolding refusal_of value_of
  written_read_lent κ' a' g' r' v' taken lent same =
      let Q : SProp 𝓤 = (read.clauses 𝓛 mem run κ' a').ensures g' r' (at_exit read.ended κ' a' v') in
      fact_use 𝓤 Says (conj_l 𝓤 Written-to Q) (λ p.
      fact_use 𝓤 (ReadsTold a'.0.now a'.1.0 v'.1.1.0 r') (conj_r 𝓤 Written-to Q) (λ c.
      let done = done_shown clock divisor lcr before after r p taken in
      let long : answer_in r ≡ length_in p.written = (given_shown r (answering.answer_in p.written) (Byte (length_in p.written)) done p.told).1.answer in
      let line : a'.0.now ≡ take (length_in p.written) after = lent ∙ ap (λ (n : ℕ). take n after) long in
      let reads : Reads (take (length_in p.written) after) clock c.setting =
      subst (λ (n : ℕ). Reads (take (length_in p.written) after) n c.setting) same (subst (λ (l : List ℕ). Reads l a'.1.0 c.setting) line c.reads) in
      let is : c.setting ≡ setting_of divisor lcr = statements.read_back.back clock divisor lcr before after p.written c.setting p.writes done reads in
      let told : Tells r' (Divisor (divisor_in c.setting)) false =
      given_shown r' (answering.answer_in c.setting) (Divisor (divisor_in c.setting)) (ap answering.answer_in is) c.told in
      fact_i 𝓤 ((refusal_in r' ≡ 0) × (answer_in r' ≡ divisor) × (v'.1.1.0 ≡ lcr)) (conj 𝓤 Written-to Q) (
        told.1.refusal,
        told.1.answer ∙ ap divisor_in is,
        c.stored ∙ ap lcr_in is,
      )))
