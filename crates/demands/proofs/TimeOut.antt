-- A seat of the bench after a run is that seat after its own events, and there a time-out lasts; the runs from power-up are computed.
use Prim.Native.Nat.{ℕ}
use mathlib.Core.Bool.{true, or-false}
use mathlib.Core.List.{List, [], ◌∷◌, ◌++◌}
use mathlib.Core.Path.{◌≡◌, refl, ap, sym, ◌∙◌}
use lib.Dec.{eqb}
use lib.ListN.{length}
use Rattle.base.specs.PickLaws.{pick_either, never}
use Rattle.channel_laws.specs.Lasting as channel
use Rattle.seat.specs.declared.Seat.{Seat}
use Rattle.seat.specs.Acts.{Act, event, resets, acted_all}
use Rattle.seat.specs.Lasting.{timeout_count, ends_in}
use Rattle.seat.specs.LastingLaws.{seat_lasting}
use Rattle.records.specs.declared.Event.TheVariants.{OfSeat, MasterReset, ReadController, WriteController, Acknowledge}
use Rattle.records.specs.Events.{Record, decoded, seat_count, Decoded}
use Rattle.bench.specs.declared.Bench.{Bench}
use Rattle.bench.specs.Seats.{chair, seat, power_up}
use Rattle.bench.specs.Steps.{outcome}
use Rattle.bench.specs.Runs.{own, own_all, after_all}
use Rattle.bench.specs.RunLaws.{all_kept, seat_runs}
use Rattle.demands.specs.TimeOut.{timeout_at, waiting, untouched, LastsAt, TimeOutLasts, AtArrival, Untouched, TimeOutEnds}
use Rattle.std.specs.Prelude.{Ok, Err}
use Rattle.demands.proofs.Opened.{laid_open}

-- ---- one record

-- at most one act of a seat is in a record, and where it ends a time-out nothing is counted after it
abbrev EndsAtZero : Seat → List Act → Type 0
EndsAtZero s acts = ends_in s (acts ++ []) ≡ true → timeout_count (acted_all s (acts ++ [])) ≡ 0

one_act : (s : Seat) (a : Act) → EndsAtZero s (a ∷ [])
one_act s a e = (seat_lasting s []).ends a (sym (or-false _) ∙ e)

no_act : (s : Seat) → EndsAtZero s []
no_act s e = absurd (never e)

own_ends : (s : Seat) (n : ℕ) (d : Decoded) → EndsAtZero s (own n d)
unfolding own
own_ends s n (Ok (OfSeat m e)) = pick_either (EndsAtZero s) (eqb (chair m) n) _ _ (one_act s (event e)) (no_act s)
own_ends s n (Ok MasterReset) = one_act s resets
own_ends s n (Ok (ReadController port)) = no_act s
own_ends s n (Ok (WriteController port byte)) = no_act s
own_ends s n (Ok Acknowledge) = no_act s
own_ends s n (Err number) = no_act s

-- ---- any run

as_many : (b : Bench) (rs : List Record) → length (after_all b rs).seats ≡ length b.seats
as_many b [] = refl
as_many b (r ∷ rs) = as_many (outcome b r).bench rs ∙ all_kept b r

module _ (n : ℕ) (b : Bench) (rs : List Record) (all : length b.seats ≡ seat_count) where
  -- the seat after the run and one record more
  one_more : (r : Record) → timeout_at n (outcome (after_all b rs) r).bench ≡ timeout_count (acted_all (seat (after_all b rs) n) (own (chair n) (decoded r) ++ []))
  one_more r = ap timeout_count (seat_runs (after_all b rs) (as_many b rs ∙ all) n (r ∷ []))

  lasts : LastsAt n b rs
  lasts =
      record {
        stays = λ four none. ap timeout_count (seat_runs b all n rs) ∙ (seat_lasting (seat b n) (own_all (chair n) rs)).stays four none;
        ends = λ r e. one_more r ∙ own_ends (seat (after_all b rs) n) (chair n) (decoded r) e;
        set_back = λ r marks byte is outside served less.
            one_more r ∙ ap (λ (acts : List Act). timeout_count (acted_all (seat (after_all b rs) n) (acts ++ []))) is
            ∙ (seat_lasting (seat (after_all b rs) n) []).set_back marks byte outside served less;
      }

pub time_out_lasts : TimeOutLasts
time_out_lasts n b rs all = lasts n b rs all

-- ---- runs from power-up

pub at_arrival : AtArrival
unfolding laid_open
at_arrival = (refl, refl)

all_on : length (after_all power_up (waiting 4)).seats ≡ seat_count
unfolding laid_open
all_on = refl

happened : timeout_at 0 (after_all power_up (waiting 4)) ≡ 4
unfolding laid_open
happened = refl

-- what is said of it is not computed: it follows
pub untouched_stays : Untouched
unfolding laid_open channel.ending_event
untouched_stays =
    record {
      happened = happened;
      none_ends = refl;
      stays = (time_out_lasts 0 (after_all power_up (waiting 4)) untouched all_on).stays happened refl;
    }

pub time_out_ends : TimeOutEnds
unfolding laid_open
time_out_ends = refl
