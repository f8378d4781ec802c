-- Each change of demand 3 is refuted by a closed run, in which line 7 waits.
use Prim.Native.Nat.{ℕ, zero, suc, ◌≤◌}
use mathlib.Core.Bool.{Bool, true, false, not, ◌&&◌}
use mathlib.Core.List.{List, [], ◌∷◌, ◌++◌}
use mathlib.Core.Path.{◌≡◌, refl, sym, ◌∙◌, subst}
use mathlib.Core.Logic.{inl, inr}
use native.Mathlib.Nat.{not-suc-le-zero, le_of_suc-le-suc}
use native.Mathlib.Omega.{arith}
use borrow.Author.Tests.{eq-eqb}
use lib.Dec.{eqb}
use lib.ListN.{length, take}
use Rattle.base.specs.declared.Answer.{Answer}
use Rattle.base.specs.declared.Answer.TheVariants.{Byte, Letter, Done, Sent, Idle, Break, Vector, Spurious, Place, Divisor, Refused}
use Rattle.base.specs.PickLaws.{never, not_true, both_hold}
use Rattle.rank.specs.Sets.{has}
use Rattle.controller.specs.Signals.{Signal, levels, read, write, acknowledge}
use Rattle.controller.specs.Turns.{vector}
use Rattle.controller.specs.declared.Controller.{Controller}
use Rattle.turn.specs.Runs.{after, answers}
use Rattle.turn.specs.Waiting.{Word, mask, rotating, barred, harmless, word, Start, MayWrite, owes, WaitsBy}
use Rattle.turn.specs.Demand3.{Among, Demand3}
use Rattle.turn.specs.Needed.{Also, Harmful, NoSooner, NothingMore}
use Rattle.turn.proofs.Opened.{laid_open}
use Rattle.turn.proofs.InTurn.{demand_3}
use Rattle.turn.proofs.Closed.{automatic, eight, automatic_start, automatic_waits, manual, manual_start}

-- ---- what is asked of a run, as tests, so that a closed run is tried by computing

-- a signal that may come, or the one more
data Move : Type 0 where
  may : Signal → Move
  too : Move

abbrev signal : Signal → Move → Signal
signal more (may s) = s
signal more too = more

abbrev signals : Signal → List Move → List Signal
signals more [] = []
signals more (m ∷ rest) = signal more m ∷ signals more rest

abbrev may_write : ℕ → ℕ → Word → Bool
may_write t b mask = not (has b t)
may_write t b rotating = true
may_write t b barred = false
may_write t b harmless = true

write_may : (t b : ℕ) (w : Word) → may_write t b w ≡ true → MayWrite t b w
write_may t b mask e = not_true (has b t) e
write_may t b rotating e = tt
write_may t b barred e = never e
write_may t b harmless e = tt

abbrev comes : ℕ → Bool → Move → Bool
comes t owed (may (levels high)) = has high t
comes t owed (may (read port)) = true
comes t owed (may (write port b)) = may_write t b (word port b)
comes t owed (may acknowledge) = not owed
comes t owed too = true

move_may : (more : Signal) (t : ℕ) (owed : Bool) (m : Move) → comes t owed m ≡ true → Also more t owed (signal more m)
move_may more t owed (may (levels high)) e = inl e
move_may more t owed (may (read port)) e = inl tt
move_may more t owed (may (write port b)) e = inl (write_may t b (word port b) e)
move_may more t owed (may acknowledge) e = inl (not_true owed e)
move_may more t owed too e = inr refl

abbrev all_come : Signal → ℕ → Bool → Controller → List Move → Bool
all_come more t owed c [] = true
all_come more t owed c (m ∷ rest) = comes t owed m && all_come more t (owes c owed (signal more m)) (after c (signal more m)) rest

waits_by : (more : Signal) (t : ℕ) (owed : Bool) (c : Controller) (ms : List Move) → all_come more t owed c ms ≡ true
    → WaitsBy (Also more) t owed c (signals more ms)
waits_by more t owed c [] e = tt
waits_by more t owed c (m ∷ rest) e =
    let p = both_hold (comes t owed m) _ e in
    (move_may more t owed m p.0, inr (waits_by more t (owes c owed (signal more m)) (after c (signal more m)) rest p.1))

abbrev pub tells : ℕ → Answer → Bool
tells v (Byte b) = false
tells v (Letter b f) = false
tells v Done = false
tells v (Sent b) = false
tells v Idle = false
tells v Break = false
tells v (Vector w) = eqb v w
tells v (Spurious w) = false
tells v (Place p) = false
tells v (Divisor d) = false
tells v (Refused n) = false

abbrev pub none_tells : ℕ → List Answer → Bool
none_tells v [] = true
none_tells v (a ∷ rest) = not (tells v a) && none_tells v rest

pub not_among : (v : ℕ) (l : List Answer) → none_tells v l ≡ true → Among (Vector v) l → ⊥
not_among v [] e a = a
not_among v (b ∷ rest) e (inl p) =
    let own : tells v b ≡ true = subst (λ (x : Answer). tells v x ≡ true) p (eq-eqb v v refl) in
    never (sym (not_true (tells v b) (both_hold (not (tells v b)) _ e).0) ∙ own)
not_among v (b ∷ rest) e (inr a) = not_among v rest (both_hold (not (tells v b)) _ e).1 a

-- ---- one signal more: a closed run that asks nothing else, and eight answers without line 7

refuted : (more : Signal) (c : Controller) (ms : List Move) → Start c 7 → all_come more 7 false c ms ≡ true → length (answers c (signals more ms)) ≡ 8
    → none_tells (vector c.setup 7) (take 8 (answers c (signals more ms))) ≡ true → Harmful more
refuted more c ms st come told none h =
    not_among (vector c.setup 7) (take 8 (answers c (signals more ms))) none
    (h c 7 (signals more ms) st (waits_by more 7 false c ms come) (omega (arith, told)))

abbrev times : ℕ → List Move → List Move
times zero ms = []
times (suc n) ms = ms ++ times n ms

-- an acknowledge, and the rotating end that it owes
abbrev asks : Move
asks = may acknowledge

abbrev ends : Move
ends = may (write 0 0xA0)

-- from the closed starts, where every line is high
pub nothing_more : NothingMore
unfolding laid_open automatic manual
nothing_more =
    record {
      end_owed = refuted acknowledge manual (times 8 (too ∷ [])) manual_start refl refl refl;
      line_falls = refuted (levels 0x7F) automatic (too ∷ times 8 (asks ∷ [])) automatic_start refl refl refl;
      line_masked = refuted (write 1 0x80) automatic (too ∷ times 8 (asks ∷ [])) automatic_start refl refl refl;
      initialisation = refuted (write 0 0x13) automatic (too ∷ times 8 (asks ∷ ends ∷ [])) automatic_start refl refl refl;
      set_priority = refuted (write 0 0xC7) automatic (times 8 (asks ∷ too ∷ [])) automatic_start refl refl refl;
      -- the line in service is masked where its end comes, and so it stays there
      special_mask = refuted (write 0 0x68) manual (too ∷ times 8 (asks ∷ may (write 1 0x01) ∷ ends ∷ may (write 1 0x00) ∷ [])) manual_start refl refl refl;
      rotation_off = refuted (write 0 0x00) automatic (too ∷ times 8 (asks ∷ [])) automatic_start refl refl refl;
      plain_end = refuted (write 0 0x20) manual (times 8 (asks ∷ too ∷ ends ∷ [])) manual_start refl refl refl;
      specific_end = refuted (write 0 0x60) manual (times 8 (asks ∷ too ∷ ends ∷ [])) manual_start refl refl refl;
      specific_rotating_end = refuted (write 0 0xE7) automatic (times 8 (asks ∷ too ∷ [])) automatic_start refl refl refl;
    }

-- ---- a smaller number: the eighth acknowledge is the first that names line 7

fewer : (a : Answer) (k m : ℕ) (l : List Answer) → k ≤ m → Among a (take k l) → Among a (take m l)
fewer a zero m l le x = absurd x
fewer a (suc k) zero l le x = absurd (not-suc-le-zero le)
fewer a (suc k) (suc m) [] le x = x
fewer a (suc k) (suc m) (b ∷ l) le (inl e) = inl e
fewer a (suc k) (suc m) (b ∷ l) le (inr x) = inr (fewer a k m l (le_of_suc-le-suc le) x)

not_in_seven : Among (Vector (vector automatic.setup 7)) (take 7 (answers automatic eight)) → ⊥
unfolding laid_open automatic eight
not_in_seven = not_among 0x47 (take 7 (answers automatic eight)) refl

eight_answers : length (answers automatic eight) ≡ 8
unfolding laid_open automatic eight
eight_answers = refl

pub no_sooner : NoSooner
unfolding Demand3
no_sooner = (
  λ c t signals st w. (demand_3 c t signals st w).eighth,
  λ k less h.
      not_in_seven
      (fewer _ k 7 (answers automatic eight) (omega arith) (h automatic 7 eight automatic_start automatic_waits (omega (arith, eight_answers)))),
)
