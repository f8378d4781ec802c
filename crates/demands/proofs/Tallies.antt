-- Ticket 8 holds over items, record by record, and against a bench without tallies.
use Prim.Native.Nat.{ℕ, ◌+◌, ◌-◌}
use mathlib.Core.Bool.{true, false}
use mathlib.Core.List.{List, [], ◌∷◌, ◌++◌, append_assoc, append-nil}
use mathlib.Core.Path.{◌≡◌, refl, ap, sym, subst, ◌∙◌}
use mathlib.Core.Logic.{⊎_elim}
use native.Mathlib.Omega.{arith}
use lib.Dec.{eqb}
use lib.ListN.{length, drop}
use borrow.Author.Tests.{eqb-true, eq-eqb}
use Rattle.base.specs.PickLaws.{pick_true, pick_false, either_way}
use Rattle.base.specs.Subsequences.{Subsequence}
use Rattle.queue.specs.declared.Character.{Character}
use Rattle.receiver.specs.Receiver.{restarted}
use Rattle.receiver.specs.Ledger as side-run
use Rattle.receiver.proofs.LedgerLaws.{ledger}
use Rattle.seat.specs.declared.Seat.{Seat}
use Rattle.seat.specs.Acts.{Act, resets, acted, acted_all}
use Rattle.seat.specs.Receiving.{side, befalls_by, befalling, receives_soundly}
use Rattle.seat.proofs.SoundLaws.{sound_parts, acts_moved}
use Rattle.seat.specs.TallyLaws.{Moved, sum, heard_soundly}
use Rattle.records.specs.Events.{Record, seat_count, decoded}
use Rattle.bench.specs.declared.Bench.{Bench}
use Rattle.bench.specs.declared.Outcome.{Outcome}
use Rattle.bench.specs.Seats.{chair, seat}
use Rattle.bench.specs.Steps.{outcome}
use Rattle.bench.specs.Runs.{after_all, own, own_all}
use Rattle.bench.specs.Valid.{valid}
use Rattle.bench.specs.MeetLaws.{outcome_dealt}
use Rattle.bench.specs.FrameLaws.{seat_acts}
use Rattle.bench.specs.RunLaws.{all_kept, seat_runs}
use Rattle.bench.proofs.ValidLaws as bench
use Rattle.image.specs.declared.Restored.{Restored}
use Rattle.image.specs.Items.{Item, gives, restores, given, item_outcome, after_items}
use Rattle.image.specs.Read.{bench_from}
use Rattle.image.specs.Refusals as image
use Rattle.image.proofs.RestoredLaws.{taken_of, restored_taken, restored_left, restored_valid}
use Rattle.demands.specs.SeatLedger.{befalls_in, arrived_at, read_at, queued_at}
use Rattle.demands.specs.Tallies.{five_at, Since, since, since_all, counting, CountingBegins, KeepsTallies, TalliesAddUp}
use Rattle.demands.proofs.Demand2.{outcome_meets, demand_2}
use Rattle.demands.proofs.SeatLedger.{all_read, all_arrived, all_lost, all_dropped_lem, seat_ledger}

-- ---- where the counting begins

after_all_more : (b : Bench) (rs : List Record) (r : Record) → after_all b (rs ++ (r ∷ [])) ≡ (outcome (after_all b rs) r).bench
after_all_more b [] r = refl
after_all_more b (q ∷ rs) r = after_all_more (outcome b q).bench rs r

-- what a point of a run stands at
abbrev standing : Since → Bench
standing s = after_all s.from s.records

one_item : (s : Since) (i : Item) → standing (since s i) ≡ (item_outcome (standing s) i).bench
one_item s (gives r) = after_all_more s.from s.records r
one_item s (restores l at) =
    ⊎_elim
    (λ (none : eqb (image.refusal (drop at l)) 0 ≡ true).
    ap standing (pick_true _ _ _ none) ∙ sym (ap (λ (t : Restored). t.bench) (restored_taken (standing s) (drop at l) (eqb-true _ _ none))))
    (λ (some : eqb (image.refusal (drop at l)) 0 ≡ false).
    ap standing (pick_false _ _ _ some) ∙ sym (ap (λ (t : Restored). t.bench) (restored_left (standing s) (drop at l) some)))
    (either_way (eqb (image.refusal (drop at l)) 0))

all_items : (s : Since) (is : List Item) → after_items (standing s) is ≡ standing (since_all s is)
all_items s [] = refl
all_items s (i ∷ is) = ap (λ (b : Bench). after_items b is) (sym (one_item s i)) ∙ all_items (since s i) is

since_both : (s : Since) (is js : List Item) → since_all s (is ++ js) ≡ since_all (since_all s is) js
since_both s [] js = refl
since_both s (i ∷ is) js = since_both (since s i) is js

since_given : (s : Since) (rs : List Record) → since_all s (given rs) ≡ record { from = s.from; records = s.records ++ rs }
since_given s [] = ap {B = Since} (λ (l : List Record). record { from = s.from; records = l }) (sym (append-nil s.records))
since_given s (r ∷ rs) =
    since_given (since s (gives r)) rs ∙ ap {B = Since} (λ (l : List Record). record { from = s.from; records = l }) (append_assoc s.records (r ∷ []) rs)

pub counting_begins : CountingBegins
counting_begins =
    record {
      records = λ b rs. since_given (record { from = b; records = [] }) rs;
      accepted = λ b is l at rs none.
          since_both (record { from = b; records = [] }) is (restores l at ∷ given rs)
          ∙ ap (λ (s : Since). since_all s (given rs)) (pick_true _ _ _ (eq-eqb _ 0 none))
          ∙ since_given (record { from = bench_from (drop at l); records = [] }) rs;
      refused = λ b is js l at some.
          since_both (record { from = b; records = [] }) is (restores l at ∷ js)
          ∙ ap (λ (s : Since). since_all s js) (pick_false _ _ _ some) ∙ sym (since_both (record { from = b; records = [] }) is js);
    }

from_valid : (s : Since) (is : List Item) → valid s.from ≡ true → valid (since_all s is).from ≡ true
from_valid s [] ok = ok
from_valid s (gives r ∷ is) ok = from_valid (since s (gives r)) is ok
from_valid s (restores l at ∷ is) ok =
    from_valid (since s (restores l at)) is
    (⊎_elim
    (λ (none : eqb (image.refusal (drop at l)) 0 ≡ true).
    ap (λ (t : Since). valid t.from) (pick_true _ _ _ none) ∙ restored_valid (drop at l) (taken_of (drop at l) (eqb-true _ _ none)))
    (λ (some : eqb (image.refusal (drop at l)) 0 ≡ false). ap (λ (t : Since). valid t.from) (pick_false _ _ _ some) ∙ ok)
    (either_way (eqb (image.refusal (drop at l)) 0)))

-- ---- from there on

-- what befalls the seat by two runs of acts
befalling_both : (s : Seat) (xs ys : List Act) → befalling s (xs ++ ys) ≡ befalling s xs ++ befalling (acted_all s xs) ys
befalling_both s [] ys = refl
befalling_both s (a ∷ xs) ys =
    ap (λ (l : List side-run.Moment). befalls_by s a ++ l) (befalling_both (acted s a) xs ys)
    ∙ sym (append_assoc (befalls_by s a) (befalling (acted s a) xs) (befalling (acted_all s (a ∷ xs)) ys))

pub seat_after : (n : ℕ) (b : Bench) → length b.seats ≡ seat_count → (r : Record) → seat (outcome b r).bench n ≡ acted_all (seat b n) (own (chair n) (decoded r))
seat_after n b all r = ap (λ (o : Outcome). seat o.bench n) (outcome_dealt b r) ∙ seat_acts b all n (decoded r)

all_befalls : (n : ℕ) (b : Bench) → length b.seats ≡ seat_count → (rs : List Record) → befalling (seat b n) (own_all (chair n) rs) ≡ befalls_in outcome n b rs
all_befalls n b all [] = refl
all_befalls n b all (r ∷ rs) =
    befalling_both (seat b n) (own (chair n) (decoded r)) (own_all (chair n) rs)
    ∙ ap (λ (l : List side-run.Moment). befalling (seat b n) (own (chair n) (decoded r)) ++ l)
    (ap (λ (s : Seat). befalling s (own_all (chair n) rs)) (sym (seat_after n b all r))
    ∙ all_befalls n (outcome b r).bench (all_kept b r ∙ all) rs)

-- how many the queue holds is its number
queue_number : (s : Seat) → receives_soundly s ≡ true → length (side-run.queued (side s)) ≡ side-run.number (side s)
unfolding side-run.after side-run.after_all side-run.arrived_in side-run.read_in side-run.lost_in side-run.dropped_in restarted
queue_number s sound = let b = (ledger (side s) (side-run.resets ∷ []) sound).balanced in omega (arith, b)

module _ (n : ℕ) (b : Bench) (ok : valid b ≡ true) (rs : List Record) where
  abbrev now : Bench
  now = after_all b rs

  all : length b.seats ≡ seat_count
  all = (bench.parts b ok).wired.all

  tallied : KeepsTallies n b rs now
  tallied =
      let sound = bench.at_seat_lem b (bench.parts b ok) n in
      let later = bench.at_seat_lem now (bench.parts now (bench.run_kept b rs ok)) n in
      let two = sound_parts (seat now n) later in
      let adds = sum (seat now n).tallies (five_at n now).queued two.1 in
      let heard = heard_soundly (seat b n) (sound_parts (seat b n) sound).0 in
      let m : Moved (seat b n).tallies (side (seat b n)) (befalls_in outcome n b rs) (seat now n).tallies
      = subst (λ (ms : List side-run.Moment). Moved (seat b n).tallies (side (seat b n)) ms (seat now n).tallies) (all_befalls n b all rs)
      (subst (λ (s : Seat). Moved (seat b n).tallies (side (seat b n)) (befalling (seat b n) (own_all (chair n) rs)) s.tallies) (sym (seat_runs b all n rs))
      (acts_moved (seat b n) (own_all (chair n) rs) sound)) in
      let end = (demand_2 outcome outcome_meets b rs).1 in
      record {
        arrived = m.arrived_is ∙ ap (λ (l : List Character). (five_at n b).arrived + length l) (all_arrived n b all rs);
        read = m.read_is ∙ ap (λ (l : List side-run.Handed). (five_at n b).read + length l) (all_read n b all rs);
        lost = m.lost_is ∙ ap (λ (k : ℕ). (five_at n b).lost + k) (all_lost n b all rs);
        dropped = m.dropped_is ∙ ap (λ (k : ℕ). (five_at n b).dropped + k) (all_dropped_lem n b all rs);
        queued = sym (queue_number (seat now n) (heard_soundly (seat now n) two.0));
        sum = adds.total;
        largest = adds.within;
        in_order =
            subst (λ (e : Bench). Subsequence (side-run.bytes (side-run.characters (read_at outcome n b rs)) ++ queued_at n e) (queued_at n b ++ side-run.bytes (arrived_at outcome n b rs)))
            end (seat_ledger n b rs all heard).in_order;
      }

pub tallies_add_up : TalliesAddUp
tallies_add_up n b is ok =
    let start : Since = record { from = b; records = [] } in
    subst (KeepsTallies n (counting b is).from (counting b is).records) (sym (all_items start is))
    (tallied n (counting b is).from (from_valid start is ok) (counting b is).records)
