-- Demand 1 holds, and with no other value than FFF.
use Rattle.std.specs.Prelude.{Result, Err}
use Prim.Native.Nat.{ℕ, suc, ◌<◌, ◌≤◌}
use mathlib.Core.Bool.{Bool, true, false, not, ◌&&◌, ◌||◌, or-true, and-false}
use mathlib.Core.List.Memᴰ
use mathlib.Core.List.{List, [], ◌∷◌, Memᴰ}
use mathlib.Core.Path.{◌≡◌, refl, ap, ap₂, sym, subst, ◌∙◌}
use mathlib.Core.Logic.{inl, inr, ⊎_elim}
use native.Mathlib.Omega.{arith}
use lib.Dec.{eqb, ltb}
use borrow.Author.Tests.{eqb-true, eqb-false, eq-eqb, ltb-true, ltb-false, lt-ltb}
use Rattle.base.specs.PickLaws.{pick_true, pick_false, either_way, not_both, both_hold, not_true}
use Rattle.base.specs.declared.Answer.{Answer}
use Rattle.base.specs.declared.Answer.TheVariants as answer
use Rattle.base.specs.Answers.{refusal_of, value_of}
use Rattle.base.specs.Refusals.{Ground, refusal_order, stands, first_of, refusal_by}
use Rattle.base.specs.RefusalLaws.{none_holds, none_given}
use Rattle.rates.specs.Rates as list
use Rattle.rates.specs.Rates.{rates_of, divisors_of, divisor_of}
use Rattle.rates.proofs.RatesLaws as rates
use Rattle.rates.specs.Row.{row_of}
use Rattle.rates.proofs.BackLaws.{either, listed_rate}
use Rattle.rates.specs.Answering.{answer_in}
use Rattle.base.specs.Refusals.{number_of}
use Rattle.base.specs.declared.Refusal.{Refusal}
use Rattle.base.specs.declared.Refusal.TheVariants.{NoSetting}
use Rattle.setting_lines.proofs.LineLaws.{no_leading_zero}
use Rattle.setting_lines.proofs.Statements as lines
use Rattle.controller.specs.Refusals.{line_above}
use Rattle.controller.specs.LineLaws.{place_told, place_refused}
use Rattle.records.specs.Events.{Record, whole}
use Rattle.bench.specs.declared.Bench.{Bench}
use Rattle.bench.specs.declared.Outcome.{Outcome}
use Rattle.bench.specs.Refusals.{grounds, refusal}
use Rattle.bench.specs.RefusalLaws.{in_turn}
use Rattle.bench.specs.Seats.{seat, power_up}
use Rattle.bench.specs.Steps.{outcome}
use Rattle.bench.specs.OutcomeLaws.{outcome_refused, outcome_number}
use Rattle.demands.specs.Demand1.{Listed, RefusedBy, Accepted, Answered, Unchanged, Events, Places, among, Divisors, Rates, Demand1, OnlyFFF, OneRefusal}
use Rattle.image.specs.declared.Restored.{Restored}
use Rattle.image.specs.RefusalLaws.{restored_none}
use Rattle.image.specs.Refusals.{restored}
use Rattle.demands.specs.DemandImages.{save_reasons, restore_reasons}
use Rattle.demands.specs.DemandLines.{read_reasons, write_reasons}
use Rattle.demands.proofs.Opened.{laid_open}
use Rattle.demands.proofs.DemandImages.{savings, restorings}
use Rattle.demands.proofs.DemandLines.{readings, writings}
use Rattle.demands.proofs.Reasons.{one_reason, a_reason}

-- the number that is given is listed, where there is one
first_listed : (order : List ℕ) (gs : List Ground) → (first_of order gs ≡ 0 → ⊥) → Listed order (first_of order gs) gs
unfolding first_of
first_listed [] gs some = some refl
first_listed (n ∷ order) gs some =
    ⊎_elim
    (λ (h : stands n gs ≡ true). inl (h, pick_true _ _ _ h))
    (λ (h : stands n gs ≡ false).
    let later = pick_false (stands n gs) n (first_of order gs) h in
    inr (h, subst (λ (k : ℕ). Listed order k gs) (sym later) (first_listed order gs (λ z. some (later ∙ z)))))
    (either_way (stands n gs))

-- ---- events

module _ (b : Bench) (r : Record) where
  refused : (refusal b r ≡ 0 → ⊥) → RefusedBy refusal_order 0xFFF (grounds b r) (outcome b r).answer
  unfolding refusal refusal_by value_of
  refused some =
      record {
        listed = subst (λ (n : ℕ). Listed refusal_order n (grounds b r)) (sym (outcome_number b r)) (first_listed refusal_order (grounds b r) some);
        told = ap (λ (o : Outcome). value_of o.answer) (outcome_refused b r some);
      }

  unchanged : (refusal b r ≡ 0 → ⊥) → Unchanged b (outcome b r)
  unchanged some =
      let e = outcome_refused b r some in
      record {
        seats = λ n. ap (λ (o : Outcome). seat o.bench n) e;
        controller = ap (λ (o : Outcome). o.bench.controller) e;
        whole = ap (λ (o : Outcome). o.bench) e;
        output = ap (λ (o : Outcome). o.output) e;
      }

  accepted : refusal b r ≡ 0 → Accepted (grounds b r) (outcome b r).answer
  unfolding refusal
  accepted none = record { number = outcome_number b r ∙ none; none = sym (none_given (grounds b r) (in_turn b r)) ∙ eq-eqb _ _ none }

events : Events 0xFFF
events b [] = tt
events b (r ∷ rs) = (
  ⊎_elim (λ (none : eqb (refusal b r) 0 ≡ true). inl (accepted b r (eqb-true _ _ none)))
      (λ (some : eqb (refusal b r) 0 ≡ false). let no = eqb-false _ _ some in inr (refused b r no, unchanged b r no))
      (either_way (eqb (refusal b r) 0)),
  events (outcome b r).bench rs,
)

-- ---- the place in turn and the divisor list, each of one ground

-- an answer with no number where the ground does not hold
free : (order : List ℕ) (k : ℕ) (h : Bool) (a : Answer) → h ≡ false → refusal_of a ≡ 0 → Answered order 0xFFF (record { number = k; holds = h } ∷ []) a
free order k h a none e = inl (record { number = e; none = ap (λ (x : Bool). not x && true) none })

-- a refusal by its number where it does, which is then listed
held : (order : List ℕ) (k : ℕ) (gs : List Ground) (a : Answer) → Listed order k gs → a ≡ answer.Refused k → Answered order 0xFFF gs a
unfolding refusal_of value_of
held order k gs a listed e = inr (record { listed = subst (λ (n : ℕ). Listed order n gs) (sym (ap refusal_of e)) listed; told = ap value_of e })

places : Places 0xFFF
unfolding refusal_of
places b n =
    ⊎_elim (λ (above : line_above n ≡ true). held refusal_order 1 _ _ (inr (refl, inr (refl, inl (above, refl)))) (place_refused b.controller n (ltb-true 7 n above)))
    (λ (small : line_above n ≡ false). free refusal_order 1 _ _ small (ap refusal_of (place_told b.controller n (below n (ltb-false 7 n small)))))
    (either_way (line_above n))
  where
    below : (n : ℕ) → n ≤ 7 → n < 8
    below n l = omega arith

listed_among : (n : ℕ) (ms : List ℕ) → among n ms ≡ true → Memᴰ n ms
listed_among n [] e = absurd (not_both e refl)
listed_among n (m ∷ ms) e =
    ⊎_elim (λ (here : eqb m n ≡ true). Memᴰ.head (sym (eqb-true m n here)))
    (λ (other : eqb m n ≡ false). Memᴰ.tail (listed_among n ms (rw other at e))) (either_way (eqb m n))

among_listed : (n : ℕ) (ms : List ℕ) → Memᴰ n ms → among n ms ≡ true
among_listed n [] l = absurd (Memᴰ.not-nil l)
among_listed n (m ∷ ms) l =
    ⊎_elim (λ (e : n ≡ m). rw (eq-eqb m n (sym e))) (λ rest. ap (λ (x : Bool). eqb m n || x) (among_listed n ms rest) ∙ or-true (eqb m n)) (Memᴰ.cases_cons l)

divisors : Divisors 0xFFF
unfolding refusal_of
divisors rate clock =
    ⊎_elim
    (λ (in_List : (ltb clock 3 && among rate (rates_of clock)) ≡ true).
    let k = both_hold (ltb clock 3) _ in_List in
    free (10 ∷ []) 10 _ _ (ap not in_List) (ap refusal_of (rates.accepted rate clock (ltb-true clock 3 k.0, listed_among rate (rates_of clock) k.1)).1))
    (λ (out : (ltb clock 3 && among rate (rates_of clock)) ≡ false).
    held (10 ∷ []) 10 _ _ (inl (ap not out, refl))
    (rates.refused rate clock
    (λ l. not_both (ap₂ ◌&&◌ (lt-ltb clock 3 l.0) (among_listed rate (rates_of clock) l.1)) out)))
    (either_way (ltb clock 3 && among rate (rates_of clock)))

back : Rates 0xFFF
unfolding refusal_of number_of
back divisor clock =
    ⊎_elim
    (λ has.
    let at = rates.answered has.0 clock divisor has.2 in
    let row = subst (λ (d : ℕ). Memᴰ d (divisors_of clock)) at.given (rates.member (divisors_of clock) at.row at.inside) in
    free (10 ∷ []) 10 _ _ (ap not (among_listed divisor (divisors_of clock) row)) (ap (λ (f : Result ℕ Refusal). refusal_of (answer_in f)) has.1))
    (λ none.
    held (10 ∷ []) 10 _ _ (inl (ap not (absent divisor clock none.1), refl)) (ap answer_in none.0))
    (either divisor clock)
  where
    absent : (divisor clock : ℕ) → ((rate : ℕ) → divisor_of rate clock ≡ answer.Divisor divisor → ⊥) → among divisor (divisors_of clock) ≡ false
    absent divisor clock none =
        ⊎_elim
        (λ (there : among divisor (divisors_of clock) ≡ true).
        let has = listed_rate divisor clock (listed_among divisor (divisors_of clock) there) in absurd (none has.0 has.1))
        (λ (not_there : among divisor (divisors_of clock) ≡ false). not_there)
        (either_way (among divisor (divisors_of clock)))

pub demand_1 : Demand1
demand_1 = record { events = events; places = places; divisors = divisors; rates = back; readings = readings; writings = writings; savings = savings; restorings = restorings }

-- ---- another value: a record of no kind at power-up, a line above 7, a clock that is not there

no_kind : Record
no_kind = whole 9 0 0 0

-- where the number is not 0 the answer is a refusal
a_refusal : (order : List ℕ) (value : ℕ) (gs : List Ground) (a : Answer) → (refusal_of a ≡ 0 → ⊥) → Answered order value gs a → value_of a ≡ value
a_refusal order value gs a some (inl x) = absurd (some x.number)
a_refusal order value gs a some (inr x) = x.told

pub only_fff : OnlyFFF
unfolding number_of laid_open no_kind list.divisor_of list.rate_of list.rate_in row_of list.look list.rates_of list.divisors_of list.everywhere
only_fff =
    record {
      events = λ value e.
          ⊎_elim (λ x. absurd (above 2 x.number)) (λ x. sym x.0.told) (e power_up (no_kind ∷ [])).0;
      places = λ value p. sym (a_refusal _ value _ _ (above 0) (p power_up 8));
      divisors = λ value d. sym (a_refusal _ value _ _ (above 9) (d 0 3));
      rates = λ value d. sym (a_refusal _ value _ _ (above 9) (d 0 3));
      readings = λ value all. sym (a_reason value (read_reasons (48 ∷ []) 0) (answer.Refused 11) (above 10) (all (48 ∷ []) 0 (Err NoSetting) (inr (record { other = no_leading_zero []; told = refl }))));
      writings = λ value all.
          sym (a_reason value (write_reasons 0 0 0x83 []) (answer.Refused 11) (above 10)
          (all 0 0 0x83 [] [] (Err NoSetting)
          (inr (record { other = (lines.statements).forty_bytes.others 0x83 refl; told = refl }))).0);
      savings = λ value all.
          sym (a_reason value (save_reasons 0 []) (answer.Refused 12) (above 11)
          (all power_up 0 [] [] (answer.Refused 12) (record { answer = refl; bytes = refl })).0);
      restorings = λ value all.
          sym (a_reason value (restore_reasons []) (restored power_up []).answer
          (λ none. above 11 (sym (ap (λ (t : Restored). refusal_of t.answer) (restored_none power_up)) ∙ none)) (all power_up [] 0).0)
          ∙ ap (λ (t : Restored). value_of t.answer) (restored_none power_up);
    }
  where
    above : (n : ℕ) → suc n ≡ 0 → ⊥
    above n e = omega arith

-- ---- one refusal

listed_once : (order : List ℕ) (gs : List Ground) (n m : ℕ) → Listed order n gs → Listed order m gs → n ≡ m
listed_once [] gs n m l k = absurd l
listed_once (o ∷ order) gs n m (inl p) (inl q) = p.1 ∙ sym q.1
listed_once (o ∷ order) gs n m (inl p) (inr q) = absurd (not_both p.0 q.0)
listed_once (o ∷ order) gs n m (inr p) (inl q) = absurd (not_both q.0 p.0)
listed_once (o ∷ order) gs n m (inr p) (inr q) = listed_once order gs n m p.1 q.1

-- where no ground holds no number stands, and so none is listed
stands_not : (n : ℕ) (gs : List Ground) → none_holds gs ≡ true → stands n gs ≡ false
stands_not n [] none = refl
stands_not n (g ∷ gs) none =
    let two = both_hold (not g.holds) (none_holds gs) none in
    ap₂ (λ (x y : Bool). x || eqb g.number n && y) (stands_not n gs two.1) (not_true g.holds two.0) ∙ and-false (eqb g.number n)

listed_none : (order : List ℕ) (gs : List Ground) (n : ℕ) → Listed order n gs → none_holds gs ≡ true → ⊥
listed_none [] gs n l none = l
listed_none (o ∷ order) gs n (inl p) none = not_both p.0 (stands_not o gs none)
listed_none (o ∷ order) gs n (inr p) none = listed_none order gs n p.1 none

module _ (order : List ℕ) (value : ℕ) (gs : List Ground) (a b : Answer) where
  one_number : Answered order value gs a → Answered order value gs b → refusal_of a ≡ refusal_of b
  one_number (inl x) (inl y) = x.number ∙ sym y.number
  one_number (inl x) (inr y) = absurd (listed_none order gs (refusal_of b) y.listed x.none)
  one_number (inr x) (inl y) = absurd (listed_none order gs (refusal_of a) x.listed y.none)
  one_number (inr x) (inr y) = listed_once order gs (refusal_of a) (refusal_of b) x.listed y.listed

pub one_refusal : OneRefusal
one_refusal = record { number = one_number; reading = λ value line clock. one_reason value (read_reasons line clock); writing = λ value clock divisor lcr d. one_reason value (write_reasons clock divisor lcr d); saving = λ value at l. one_reason value (save_reasons at l); restoring = λ value p. one_reason value (restore_reasons p); bench = λ b o p u v. (u.whole ∙ sym v.whole, u.output ∙ sym v.output) }
