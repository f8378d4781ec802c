-- Ticket 4: by which of the four numbers an arrival is refused, and that exactly those arrivals are refused that were before.
use Rattle.std.specs.Prelude.{ℕ, ◌+◌, ◌%◌, ◌^◌, Bool, true, false, not, ◌&&◌, ◌||◌, ◌≡◌, refl, ltb, leb, eqb}
use Rattle.std.proofs.Common.{ap, sym, subst, ◌∙◌, eqb-true}
use Rattle.base.specs.Pick.{pick}
use Rattle.base.specs.PickLaws.{pick_false}
use Rattle.base.specs.Bits.{bit}
use Rattle.base.specs.Refusals.{first_held}
use Rattle.registers.specs.declared.Settings.{Settings}
use Rattle.registers.specs.declared.SeatEvent.TheVariants.{Arrival}
use Rattle.registers.specs.Refusals.{grounds, refusal}
use Rattle.registers.specs.RegisterLaws.{divisor_none}
use Rattle.registers.proofs.RefusalLaws.{first_held_lem, undivided, marks_fit, data_fits, parity_fits, break_fits, below, fits}

-- ticket 4: "6 is now marks above 7 only; 16 data beyond the word length, 17 parity mark with parity off, 18 break with data; tried in this order
-- where 6 stood": each exactly if its own test holds and none before it does, the divisor's first
pub record Numbered (no-divisor marks-fit data-fits parity-fits break-fits : Bool) (number : ℕ) : Type 0 where
  pub six : eqb number 6 ≡ (not no-divisor && not marks-fit)
  pub sixteen : eqb number 16 ≡ (not no-divisor && marks-fit && not data-fits)
  pub seventeen : eqb number 17 ≡ (not no-divisor && marks-fit && data-fits && not parity-fits)
  pub eighteen : eqb number 18 ≡ (not no-divisor && marks-fit && data-fits && parity-fits && not break-fits)

-- what document 01 refused by 6: any of the four
abbrev pub six_before : Settings → ℕ → ℕ → Bool
six_before s marks byte = ltb 7 marks || leb (2 ^ (5 + s.lcr % 4)) byte || (bit 0 marks && not (bit 3 s.lcr)) || (bit 2 marks && not (eqb byte 0))

-- the four numbers taken together: 16, 17 and 18 as 6
abbrev pub together : ℕ → ℕ
together n = pick (eqb n 16 || eqb n 17 || eqb n 18) 6 n

-- ---- by five truths: there is no divisor; marks, data, parity and break fit

-- the number of the first that is off
abbrev first : Bool → Bool → Bool → Bool → Bool → ℕ
first n m d p b = pick n 5 (pick (not m) 6 (pick (not d) 16 (pick (not p) 17 (pick (not b) 18 0))))

abbrev Both : Bool → Bool → Bool → Bool → Bool → ℕ → Type 0
Both n m d p b number = Numbered n m d p b number × (together number ≡ pick n 5 (pick (not m || not d || not p || not b) 6 0))

both : (n m d p b : Bool) → Both n m d p b (first n m d p b)
unfolding pick
both true m d p b = (record { six = refl; sixteen = refl; seventeen = refl; eighteen = refl }, refl)
both false false d p b = (record { six = refl; sixteen = refl; seventeen = refl; eighteen = refl }, refl)
both false true false p b = (record { six = refl; sixteen = refl; seventeen = refl; eighteen = refl }, refl)
both false true true false b = (record { six = refl; sixteen = refl; seventeen = refl; eighteen = refl }, refl)
both false true true true false = (record { six = refl; sixteen = refl; seventeen = refl; eighteen = refl }, refl)
both false true true true true = (record { six = refl; sixteen = refl; seventeen = refl; eighteen = refl }, refl)

-- a number that is none of the three is taken as it is
as_it_is : (number : ℕ) → eqb number 16 ≡ false → eqb number 17 ≡ false → eqb number 18 ≡ false → number ≡ together number
as_it_is number not_16 not-17 not-18 = sym (pick_false _ _ _ (λ i. not_16 i || not-17 i || not-18 i))

only : (n m d p b : Bool) (number : ℕ) → Both n m d p b number → number ≡ first n m d p b
unfolding pick
only true m d p b number (named, joined) = as_it_is number named.sixteen named.seventeen named.eighteen ∙ joined
only false false d p b number (named, joined) = eqb-true _ _ named.six
only false true false p b number (named, joined) = eqb-true _ _ named.sixteen
only false true true false b number (named, joined) = eqb-true _ _ named.seventeen
only false true true true false number (named, joined) = eqb-true _ _ named.eighteen
only false true true true true number (named, joined) = as_it_is number named.sixteen named.seventeen named.eighteen ∙ joined

-- ---- the old condition, told by what fits

twice : (b : Bool) → not (not b) ≡ b
twice true = refl
twice false = refl

beyond : (a b : ℕ) → leb b a ≡ not (ltb a b)
beyond a b = sym (twice (leb b a)) ∙ ap not (below a b)

unmet : (mark needed : Bool) → (mark && not needed) ≡ not (not mark || needed)
unmet mark needed = sym (twice (mark && not needed)) ∙ ap not (fits mark needed)

module _ (s : Settings) (marks byte : ℕ) where
  marked : ltb 7 marks ≡ not (marks_fit marks)
  marked = beyond marks 8

  longer : leb (2 ^ (5 + s.lcr % 4)) byte ≡ not (data_fits s byte)
  longer = beyond byte (2 ^ (5 + s.lcr % 4))

  -- the two laws below, of any number
  abbrev Says : ℕ → Type 0
  Says = Both (undivided s) (marks_fit marks) (data_fits s byte) (parity_fits s marks) (break_fits marks byte)

  by_truths : refusal s (Arrival marks byte) ≡ first (undivided s) (marks_fit marks) (data_fits s byte) (parity_fits s marks) (break_fits marks byte)
  unfolding grounds first_held
  by_truths =
      first_held_lem s (Arrival marks byte)
      ∙ (λ i.
      pick (divisor_none s i) 5
      (pick (marked i) 6
      (pick (longer i) 16 (pick (unmet (bit 0 marks) (bit 3 s.lcr) i) 17 (pick (unmet (bit 2 marks) (eqb byte 0) i) 18 0)))))

  both_say : Says (refusal s (Arrival marks byte))
  both_say = subst Says (sym by_truths) (both (undivided s) (marks_fit marks) (data_fits s byte) (parity_fits s marks) (break_fits marks byte))

  off : six_before s marks byte ≡ (not (marks_fit marks) || not (data_fits s byte) || not (parity_fits s marks) || not (break_fits marks byte))
  off = λ i. marked i || longer i || unmet (bit 0 marks) (bit 3 s.lcr) i || unmet (bit 2 marks) (eqb byte 0) i

  -- document 01's numbers for an arrival
  abbrev five_or_six : Bool → ℕ
  five_or_six wrong = pick (undivided s) 5 (pick wrong 6 0)

  -- by which of the four: the first that is off, whatever else is
  pub which_one : Numbered (undivided s) (marks_fit marks) (data_fits s byte) (parity_fits s marks) (break_fits marks byte) (refusal s (Arrival marks byte))
  which_one = both_say.0

  -- the four together are what 6 was, and 5 still comes first
  pub as_before : together (refusal s (Arrival marks byte)) ≡ pick (undivided s) 5 (pick (six_before s marks byte) 6 0)
  as_before = both_say.1 ∙ ap five_or_six (sym off)

  -- and no other number is so
  pub only_one : (number : ℕ) → Numbered (undivided s) (marks_fit marks) (data_fits s byte) (parity_fits s marks) (break_fits marks byte) number
      → together number ≡ pick (undivided s) 5 (pick (six_before s marks byte) 6 0)
      → number ≡ refusal s (Arrival marks byte)
  only_one number numbered before = only _ _ _ _ _ number (numbered, before ∙ ap five_or_six off) ∙ sym by_truths
