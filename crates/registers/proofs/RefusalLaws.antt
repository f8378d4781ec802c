-- What a seat refuses, and by which number: nothing of what is accepted, and everything else. By which of its four an arrival is refused stands in
-- ArrivalLaws.
use Rattle.std.specs.Prelude.{ℕ, ◌+◌, ◌%◌, ◌^◌, ◌<◌, Bool, false, not, ◌&&◌, ◌||◌, ◌≡◌, ltb, leb, eqb}
use Rattle.std.proofs.Math.Bool.{true, and-true}
use Rattle.std.proofs.Math.Path.{refl, subst}
use Rattle.std.proofs.Common.{ap, sym, ◌∙◌, ⊎_elim, lt-ltb, le-ltb, leb-true, leb-false, eqb-true}
use Rattle.base.specs.Pick.{pick}
use Rattle.base.specs.PickLaws.{pick_true, pick_either, either_way}
use Rattle.base.specs.Bits.{bit}
use Rattle.base.specs.Refusals.{refusal_order, first_held}
use Rattle.base.specs.RefusalLaws.{follows, in_order, none_holds, none_given}
use Rattle.registers.specs.declared.Settings.{Settings}
use Rattle.registers.specs.declared.SeatEvent.{SeatEvent}
use Rattle.registers.specs.declared.SeatEvent.TheVariants.{Read, Write, Arrival, Levels, Time}
use Rattle.registers.specs.Registers.{with_mcr}
use Rattle.registers.specs.Refusals.{no_divisor, grounds, refusal}
use Rattle.registers.specs.RegisterLaws.{divisor_none}

-- the grounds of every event are listed in the order
pub in_turn : (s : Settings) (e : SeatEvent) → follows refusal_order (grounds s e) ≡ true
unfolding grounds
in_turn s (Read n) = refl
in_turn s (Write n byte) = refl
in_turn s (Arrival marks byte) = refl
in_turn s (Levels levels) = refl
in_turn s Time = refl

-- so the number is that of the first that holds
pub first_held_lem : (s : Settings) (e : SeatEvent) → refusal s e ≡ first_held (grounds s e)
unfolding refusal
first_held_lem s e = in_order (grounds s e) (in_turn s e)

-- ---- what is accepted

-- "while the divisor is 0": nothing in either of its two registers
abbrev pub undivided : Settings → Bool
undivided s = eqb s.dll 0 && eqb s.dlm 0

-- of a character that may arrive: its marks are below 8
abbrev pub marks_fit : ℕ → Bool
marks_fit marks = ltb marks 8

-- its data are below the power of two that the word length makes
abbrev pub data_fits : Settings → ℕ → Bool
data_fits s byte = ltb byte (2 ^ (5 + s.lcr % 4))

-- a parity mark stands only with LCR bit 3
abbrev pub parity_fits : Settings → ℕ → Bool
parity_fits s marks = not (bit 0 marks) || bit 3 s.lcr

-- and a break mark only with data 0
abbrev pub break_fits : ℕ → ℕ → Bool
break_fits marks byte = not (bit 2 marks) || eqb byte 0

-- what a seat accepts, told the other way round: a register below 8; levels below 16; with a divisor, a character time, and an arrival of which all
-- four are so
abbrev pub accepts : Settings → SeatEvent → Bool
accepts s (Read n) = ltb n 8
accepts s (Write n byte) = ltb n 8
accepts s (Arrival marks byte) = not (undivided s) && (marks_fit marks && (data_fits s byte && (parity_fits s marks && break_fits marks byte)))
accepts s (Levels levels) = ltb levels 16
accepts s Time = not (undivided s)

-- not at least is less
pub below : (a b : ℕ) → not (leb b a) ≡ ltb a b
below a b =
    ⊎_elim (λ (e : leb b a ≡ true). rw (e, le-ltb a b (leb-true b a e)))
    (λ (e : leb b a ≡ false). rw (e, lt-ltb a b (leb-false b a e))) (either_way (leb b a))

-- a mark fits where it is absent, or what it needs is there
pub fits : (mark needed : Bool) → not (mark && not needed) ≡ (not mark || needed)
fits true true = refl
fits true false = refl
fits false needed = refl

-- 0 exactly if no ground holds
none_held : (s : Settings) (e : SeatEvent) → eqb (refusal s e) 0 ≡ none_holds (grounds s e)
unfolding refusal
none_held s e = none_given (grounds s e) (in_turn s e)

-- "They are given in no other case": 0 exactly for what is accepted
pub accepted : (s : Settings) (e : SeatEvent) → eqb (refusal s e) 0 ≡ accepts s e
unfolding grounds
accepted s (Read n) = none_held s (Read n) ∙ and-true _ ∙ below n 8
accepted s (Write n byte) = none_held s (Write n byte) ∙ and-true _ ∙ below n 8
accepted s (Arrival marks byte) =
    none_held s (Arrival marks byte)
    ∙ (λ i.
    not (divisor_none s i)
    && (below marks 8 i && (below byte (2 ^ (5 + s.lcr % 4)) i && (fits (bit 0 marks) (bit 3 s.lcr) i && (and-true _ ∙ fits (bit 2 marks) (eqb byte 0)) i))))
accepted s (Levels levels) = none_held s (Levels levels) ∙ and-true _ ∙ below levels 16
accepted s Time = none_held s Time ∙ and-true _ ∙ ap not (divisor_none s)

-- ---- which number refuses what

-- a number that is not 9
abbrev Served : ℕ → Type 0
Served number = eqb number 9 ≡ false

module _ (s : Settings) where
  -- "register above 7": reads and writes alike
  pub register_above_lem : (n byte : ℕ) → 7 < n → (refusal s (Read n) ≡ 2) × (refusal s (Write n byte) ≡ 2)
  unfolding grounds first_held pick
  register_above_lem n byte above = (first_held_lem s (Read n) ∙ pick_true _ _ _ (lt-ltb 7 n above), first_held_lem s (Write n byte) ∙ pick_true _ _ _ (lt-ltb 7 n above))

  -- "arrival or character time while the divisor is 0", whatever arrives
  pub while_undivided : undivided s ≡ true → (marks byte : ℕ) → (refusal s (Arrival marks byte) ≡ 5) × (refusal s Time ≡ 5)
  unfolding grounds first_held pick
  while_undivided none marks byte =
      let stopped : no_divisor s ≡ true = divisor_none s ∙ none in (first_held_lem s (Arrival marks byte) ∙ pick_true _ _ _ stopped, first_held_lem s Time ∙ pick_true _ _ _ stopped)

  -- "modem levels above 15"
  pub levels_above_lem : (levels : ℕ) → 15 < levels → refusal s (Levels levels) ≡ 7
  unfolding grounds first_held pick
  levels_above_lem levels above = first_held_lem s (Levels levels) ∙ pick_true _ _ _ (lt-ltb 15 levels above)

  -- ticket 7: "9 is no longer given for MCR": any byte is taken, in either state of LCR bit 7
  pub mcr_taken : (byte : ℕ) → refusal s (Write 4 byte) ≡ 0
  mcr_taken byte = eqb-true (refusal s (Write 4 byte)) 0 (accepted s (Write 4 byte))

  -- nor for any other event on a seat: none is refused as "not served"
  pub all_served : (e : SeatEvent) → eqb (refusal s e) 9 ≡ false
  unfolding grounds first_held
  all_served (Read n) = subst Served (sym (first_held_lem s (Read n))) (pick_either Served _ _ _ refl refl)
  all_served (Write n byte) = subst Served (sym (first_held_lem s (Write n byte))) (pick_either Served _ _ _ refl refl)
  all_served (Arrival marks byte) =
      subst Served (sym (first_held_lem s (Arrival marks byte)))
      (pick_either Served _ _ _ refl
      (pick_either Served _ _ _ refl (pick_either Served _ _ _ refl (pick_either Served _ _ _ refl (pick_either Served _ _ _ refl refl)))))
  all_served (Levels levels) = subst Served (sym (first_held_lem s (Levels levels))) (pick_either Served _ _ _ refl refl)
  all_served Time = subst Served (sym (first_held_lem s Time)) (pick_either Served _ _ _ refl refl)

-- ticket 7: "arrivals and modem events are checked as before": the MCR has no part in what any event on a seat is refused by
pub mcr_has_no_part : (s : Settings) (mcr : ℕ) (e : SeatEvent) → refusal (with_mcr s mcr) e ≡ refusal s e
unfolding refusal grounds
mcr_has_no_part s mcr (Read n) = refl
mcr_has_no_part s mcr (Write n byte) = refl
mcr_has_no_part s mcr (Arrival marks byte) = refl
mcr_has_no_part s mcr (Levels levels) = refl
mcr_has_no_part s mcr Time = refl
