-- Each wrong program is refuted at closed records, and what meets is none of them.
use Prim.Native.Nat.{ℕ, zero, suc, ◌+◌, ◌<◌}
use mathlib.Core.Bool.{Bool, false}
use mathlib.Core.List.{List, [], ◌∷◌, ◌++◌}
use mathlib.Core.Path.{◌≡◌, refl, ap, ap₂, sym, subst, ◌∙◌, fun_ext}
use mathlib.Core.Logic.{◌⊎◌, inl, inr, ⊎_elim}
use native.Mathlib.Omega.{arith}
use lib.ListN.{length, replicate}
use Rattle.base.specs.EveryLaws.{equal_at}
use Rattle.base.specs.declared.Answer.{Answer}
use Rattle.base.specs.declared.Answer.TheVariants.{Vector}
use Rattle.base.specs.Answers.{refusal_of, value_of}
use Rattle.rank.specs.Sets.{line}
use Rattle.controller.specs.LineLaws.{place_told}
use Rattle.turn.specs.Waiting.{Start}
use Rattle.turn.specs.Demand3.{Among, InTurn}
use Rattle.base.specs.Subsequences.{Subsequence, skips, keeps}
use Rattle.base.specs.Subsequences as subsequence
use Rattle.receiver.specs.Ledger.{Handed}
use Rattle.records.specs.Events.{Record, whole, decoded, seat_count}
use Rattle.bench.specs.declared.Bench.{Bench}
use Rattle.bench.specs.declared.Outcome.{Outcome}
use Rattle.bench.specs.Seats.{power_up}
use Rattle.bench.specs.Steps.{outcome}
use Rattle.bench.specs.Runs.{after_all}
use Rattle.bench.specs.RunLaws.{after_parts}
use Rattle.demands.specs.Demand2.{Step, Meets, ends}
use Rattle.demands.specs.Demand3.{heard, told, KeptWaiting}
use Rattle.demands.specs.SeatLedger.{arrived_at, read_at, gone_at, queued_at, Keeps}
use Rattle.demands.specs.SeatLetters.{HandsOver, with_parity, read_rbr}
use Rattle.demands.specs.WrongPrograms.{refusing, fixed, ignoring, inventing, retelling, Program, played, MeetsFrom, pretending, told_by, TakesTurns, Placing, MeetsPlace, Counts, dreaming, ShutOut, LetIn}
use Rattle.demands.proofs.Opened.{laid_open}
use Rattle.demands.proofs.Contracts.{step_says}
use Rattle.demands.proofs.Demand2.{met, demand_2}
use Rattle.demands.proofs.Demand3.{demand_3_from_power_up}
use Rattle.demands.proofs.SeatLedger.{seat_ledger, sound_at}
use Rattle.demands.proofs.SeatLetters.{seat_letters}
use Rattle.demands.proofs.Closed3.{calls, all_call, asks, set_automatic, eight, automatic_closed}

-- the scratch register of seat 0 is written, and read
writes : ℕ → Record
writes byte = whole 1 0 7 byte

reads : Record
reads = whole 0 0 7 0

-- what it holds, as the next read of it tells
scratch : Outcome → ℕ
scratch o = value_of (outcome o.bench reads).answer

-- ---- steps

one_is_not : (n : ℕ) → suc n ≡ 0 → ⊥
one_is_not n e = omega arith

refuses_everything : (number : Bench → Record → ℕ) → Meets (refusing number) → ⊥
unfolding laid_open reads
refuses_everything number m = one_is_not _ (ap (λ (o : Outcome). refusal_of o.answer) (met (refusing number) m power_up reads))

-- LSR 60 and scratch 00, both at power-up
fixed_answer : (a : Answer) (f : Step) → Meets (fixed a f) → ⊥
unfolding laid_open reads
fixed_answer a f m =
    let value : Outcome → ℕ = λ o. value_of o.answer in
    one_is_not 0x5F (sym (ap value (met (fixed a f) m power_up (whole 0 0 5 0))) ∙ ap value (met (fixed a f) m power_up reads))

ignores_events : (f : Step) → Meets (ignoring f) → ⊥
unfolding laid_open writes reads scratch
ignores_events f m = one_is_not 0 (sym (ap scratch (met (ignoring f) m power_up (writes 1))))

-- a read of the scratch register, and a character waits that never came
count : ℕ → Outcome → ℕ
count n o = length (queued_at n o.bench)

invents_a_count : (n : ℕ) → n < seat_count → Meets (inventing n) → ⊥
unfolding laid_open reads count
invents_a_count n small m =
    let one = equal_at seat_count (λ k. count k (inventing k power_up reads)) (λ k. 1) tt n small in
    let none = equal_at seat_count (λ k. count k (outcome power_up reads)) (λ k. 0) tt n small in
    one_is_not 0 (sym one ∙ ap (count n) (met (inventing n) m power_up reads) ∙ none)

came : ℕ → ℕ
came n = length (arrived_at (inventing n) n power_up (reads ∷ [])) + length (queued_at n power_up)

became : ℕ → ℕ
became n =
    length (read_at (inventing n) n power_up (reads ∷ [])) + gone_at (inventing n) n power_up (reads ∷ [])
    + length (queued_at n (ends (inventing n) power_up (reads ∷ [])))

breaks_the_ledger : (n : ℕ) → n < seat_count → Keeps (inventing n) → ⊥
unfolding laid_open came became reads
breaks_the_ledger n small k =
    let none = equal_at seat_count came (λ j. 0) tt n small in
    let one = equal_at seat_count became (λ j. 1) tt n small in
    one_is_not 0 (sym one ∙ sym (k n power_up (reads ∷ []) refl (sound_at n)).balanced ∙ none)

-- what is in the first list is in the second
abbrev In : ℕ → List ℕ → Type 0
In n [] = ⊥
In n (m ∷ l) = (n ≡ m) ⊎ In n l

kept_in : (n : ℕ) (l m : List ℕ) → Subsequence l m → In n l → In n m
kept_in n l m subsequence.ends i = i
kept_in n l m (skips s) i = inr (kept_in n _ _ s i)
kept_in n l m (keeps s) (inl e) = inl e
kept_in n l m (keeps s) (inr i) = inr (kept_in n _ _ s i)

-- divisor 12 and LCR 03; a character arrives at seat 0 and is read
receives : ℕ → List Record
receives byte = whole 1 0 3 0x83 ∷ whole 1 0 0 12 ∷ whole 1 0 3 0x03 ∷ whole 2 0 0 byte ∷ whole 0 0 0 0 ∷ []

reads_41 : (a : Answer) → Keeps (fixed a outcome) → value_of a ≡ 0x41
unfolding laid_open receives
reads_41 a k =
    ⊎_elim (λ (e : value_of a ≡ 0x41). e) (λ (z : ⊥). absurd z)
    (kept_in (value_of a) (value_of a ∷ []) (0x41 ∷ []) (k 0 power_up (receives 0x41) refl (sound_at 0)).in_order (inl refl))

reads_42 : (a : Answer) → Keeps (fixed a outcome) → value_of a ≡ 0x42
unfolding laid_open receives
reads_42 a k =
    ⊎_elim (λ (e : value_of a ≡ 0x42). e) (λ (z : ⊥). absurd z)
    (kept_in (value_of a) (value_of a ∷ []) (0x42 ∷ []) (k 0 power_up (receives 0x42) refl (sound_at 0)).in_order (inl refl))

breaks_the_order : (a : Answer) → Keeps (fixed a outcome) → ⊥
breaks_the_order a k = one_is_not 0 (omega (arith, reads_41 a k, reads_42 a k))

-- a marked character arrives at seat 0 and is read
lettered : List Record
lettered = with_parity ++ (whole 2 0 1 0x41 ∷ read_rbr ∷ [])

-- of those that were read the first
first : List Handed → Handed
first [] = record { character = record { «data» = 0; marks = 0 }; behind = 0 }
first (h ∷ l) = h

hides_marks : HandsOver (retelling (λ f. record { marks = 0; behind = f.behind })) → ⊥
unfolding laid_open lettered first
hides_marks k = one_is_not 0 (sym (ap (λ (l : List Handed). (first l).character.marks) (k 0 power_up lettered refl (sound_at 0)).given_as))

miscounts_behind : HandsOver (retelling (λ f. record { marks = f.marks; behind = suc f.behind })) → ⊥
unfolding laid_open lettered first
miscounts_behind k = one_is_not 0 (ap (λ (l : List Handed). (first l).behind) (k 0 power_up lettered refl (sound_at 0)).given_as)

-- ---- programs with a memory

-- two writes: the second is not in the bench
pretends : (says : List Record → Record → Answer) (raises : List Record → Record → Bool) → MeetsFrom (pretending says raises) → ⊥
unfolding laid_open writes reads scratch
pretends says raises m =
    let e = (step_says (after_all power_up (writes 2 ∷ [])) (writes 1) (pretending says raises (writes 2 ∷ []) (writes 1))).0 (m (writes 2 ∷ []) (writes 1)) in
    let f : ◌≡◌ {A = ℕ} 2 1 = ap scratch e in
    omega arith

-- one answer for all acknowledges names one line, and two wait
all_one : (v a : Answer) (k : ℕ) → Among v (replicate k a) → v ≡ a
all_one v a zero x = absurd x
all_one v a (suc k) (inl e) = e
all_one v a (suc k) (inr x) = all_one v a k x

six_start : Start (after_all power_up set_automatic).controller 6
unfolding laid_open set_automatic all_call calls
six_start = record { line = omega arith; up = refl; idle = refl; plain = refl; turns = inl (refl, refl); stands = refl; unmasked = refl }

six_kept : KeptWaiting 6 false (after_all power_up set_automatic) eight
unfolding laid_open set_automatic all_call calls eight asks
six_kept = (refl, inr (refl, (refl, inr (refl, (refl, inr (refl, (refl, inr (refl, (refl, inr (refl, (refl, inr (refl, (refl, inl refl)))))))))))))

-- what it answers would be the vector of line 7, and that of line 6
names_7 : (says : Record → Answer) (raises : List Record → Record → Bool) → TakesTurns (pretending (λ before r. says r) raises) → Vector 0x47 ≡ says asks
unfolding laid_open set_automatic all_call calls eight asks
names_7 says raises h = all_one (Vector 0x47) (says asks) 8 ((h set_automatic 7 eight automatic_closed.0 automatic_closed.1).eighth (omega arith))

names_6 : (says : Record → Answer) (raises : List Record → Record → Bool) → TakesTurns (pretending (λ before r. says r) raises) → Vector 0x46 ≡ says asks
unfolding laid_open set_automatic all_call calls eight asks
names_6 says raises h = all_one (Vector 0x46) (says asks) 8 ((h set_automatic 6 eight six_start six_kept).eighth (omega arith))

pretends_out_of_turn : (says : Record → Answer) (raises : List Record → Record → Bool) → TakesTurns (pretending (λ before r. says r) raises) → ⊥
unfolding value_of
pretends_out_of_turn says raises h =
    let e : ◌≡◌ {A = ℕ} 0x47 0x46 = ap value_of (names_7 says raises h ∙ sym (names_6 says raises h)) in omega arith

-- ---- places: of line 3 at power-up, and once line 3 has been made last

last_3 : List Record
last_3 = whole 7 0 0 0x13 ∷ whole 7 0 1 0x40 ∷ whole 7 0 1 0x01 ∷ whole 7 0 0 0xC3 ∷ []

invents_a_place : (says : ℕ → Answer) → MeetsPlace (dreaming says) → ⊥
unfolding laid_open last_3
invents_a_place says m =
    let e : ◌≡◌ {A = ℕ} 3 7 = ap value_of (sym (m power_up 3) ∙ m (after_all power_up last_3) 3) in omega arith

breaks_the_count : (says : ℕ → Answer) → Counts (dreaming says) → ⊥
unfolding laid_open last_3
breaks_the_count says c =
    let e : ◌≡◌ {A = ℕ} 3 7 = sym (c power_up 3 (omega arith)) ∙ c (after_all power_up last_3) 3 (omega arith) in omega arith

pub shut_out : ShutOut
shut_out =
    record {
      refuses_everything = refuses_everything;
      fixed_answer = fixed_answer;
      ignores_events = ignores_events;
      invents_a_count = invents_a_count;
      breaks_the_ledger = breaks_the_ledger;
      breaks_the_order = breaks_the_order;
      hides_marks = hides_marks;
      miscounts_behind = miscounts_behind;
      pretends = pretends;
      pretends_out_of_turn = pretends_out_of_turn;
      invents_a_place = invents_a_place;
      breaks_the_count = breaks_the_count;
    }

-- ---- what meets is let in

meets_from : (f : Step) → Meets f → MeetsFrom (played f)
meets_from f m before r =
    (step_says (after_all power_up before) r (played f before r)).1
    (met f m (ends f power_up before) r ∙ ap (λ (b : Bench). outcome b r) (demand_2 f m power_up before).1)

told_by_lem : (p : Program) → MeetsFrom p → (before rs : List Record) → told (after_all power_up before) rs ≡ told_by p before rs
told_by_lem p m before [] = refl
told_by_lem p m before (r ∷ rs) =
    let e = (step_says (after_all power_up before) r (p before r)).0 (m before r) in
    ap₂ (λ (o : Outcome) (l : List Answer). heard (decoded r) o.answer ++ l) (sym e)
    (ap (λ (b : Bench). told b rs) (sym (after_parts power_up before (r ∷ []))) ∙ told_by_lem p m (before ++ (r ∷ [])) rs)

takes_turns : (p : Program) → MeetsFrom p → TakesTurns p
takes_turns p m before n rs st k =
    subst (InTurn (after_all power_up before).controller n) (told_by_lem p m before rs) (demand_3_from_power_up before n rs st k)

keeps_the_ledger : (f : Step) → Meets f → Keeps f
keeps_the_ledger f m = subst Keeps (fun_ext (λ b. fun_ext (λ r. sym (met f m b r)))) seat_ledger

hands_over : (f : Step) → Meets f → HandsOver f
hands_over f m = subst HandsOver (fun_ext (λ b. fun_ext (λ r. sym (met f m b r)))) seat_letters

counts_places : (p : Placing) → MeetsPlace p → Counts p
unfolding value_of
counts_places p m b n small = ap value_of (m b n ∙ place_told b.controller n small)

pub let_in : LetIn
let_in =
    record {
      meets_from = meets_from;
      takes_turns = takes_turns;
      keeps_the_ledger = keeps_the_ledger;
      hands_over = hands_over;
      counts_places = counts_places;
    }
