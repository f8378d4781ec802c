-- The closed runs of ticket 9, by computation; what the busy lesson shows of seat 2 is drawn from the theorem.
use Prim.Native.Nat.{ℕ}
use mathlib.Core.Bool.{false}
use mathlib.Core.List.{List, [], ◌∷◌, map}
use mathlib.Core.Path.{◌≡◌, refl, ap, sym, ◌∙◌}
use native.Mathlib.Omega.{arith}
use lib.Dec.{eqb}
use lib.ListN.{get_or}
use borrow.Author.Tests.{eq-eqb}
use Rattle.base.specs.Answers.{refusal_of, value_of}
use Rattle.base.specs.Bits.{digit}
use Rattle.base.specs.PickLaws.{never}
use Rattle.seat.specs.declared.Seat.{Seat}
use Rattle.seat.specs.Acts.{acted_all}
use Rattle.seat.specs.Seats.{five}
use Rattle.bench.specs.Seats.{power_up, seat}
use Rattle.bench.specs.Runs.{own_all}
use Rattle.bench.specs.RunLaws.{seat_runs}
use Rattle.demands.specs.Neighbours.{View, happenings, views, Whole, Alike, Same}
use Rattle.demands.specs.NeighbourRuns.{quiet_before, quiet, busy_before, busy, happened, expected, NeighboursMet, NoMoreAlike, AgreementsNeeded, NothingLess}
use Rattle.demands.specs.Tallies.{five_at}
use Rattle.demands.specs.TallyRuns.{told}
use Rattle.demands.proofs.Opened.{laid_open, of_images}
use Rattle.demands.proofs.Neighbours.{neighbours}

quiet_whole : Whole quiet
unfolding laid_open
quiet_whole = refl

busy_whole : Whole busy
unfolding laid_open
busy_whole = refl

quiet_happens : happenings 2 quiet.items ≡ happened
unfolding laid_open of_images
quiet_happens = refl

busy_happens : happenings 2 busy.items ≡ happened
unfolding laid_open of_images
busy_happens = refl

-- the starts are not computed: seat 2 is set by its own records among those before
set_so : own_all 2 quiet_before ≡ own_all 2 busy_before
unfolding laid_open
set_so = refl

alike : Alike 2 quiet busy
alike =
    record {
      set_alike =
          seat_runs power_up refl 2 quiet_before ∙ ap (acted_all (seat power_up 2)) set_so ∙ sym (seat_runs power_up refl 2 busy_before);
      same_events = quiet_happens ∙ sym busy_happens;
    }

same : Same 2 quiet busy
same = neighbours 2 quiet busy (omega arith) quiet_whole busy_whole alike

quiet_seen : views 2 quiet.start quiet.items ≡ expected
unfolding laid_open of_images
quiet_seen = refl

pub neighbours_met : NeighboursMet
neighbours_met =
    record {
      quiet_whole = quiet_whole;
      busy_whole = busy_whole;
      quiet_happens = quiet_happens;
      busy_happens = busy_happens;
      alike = alike;
      spoken_of = λ silent. silent 2 quiet busy (omega arith) quiet_whole busy_whole alike refl refl refl;
      same = same;
      seen = sym same.seen ∙ quiet_seen;
    }

-- two lists that differ at a place are not the same
apart : (l m : List ℕ) (k : ℕ) → l ≡ m → eqb (get_or l k 0) (get_or m k 0) ≡ false → ⊥
apart l m k same differs = never (sym differs ∙ eq-eqb (get_or l k 0) (get_or m k 0) (ap (λ (r : List ℕ). get_or r k 0) same))

pub no_more_alike : NoMoreAlike
unfolding laid_open of_images
no_more_alike =
    record {
      quiet_neighbour = refl;
      busy_neighbour = refl;
      neighbours_fixed = λ each. apart (told (five_at 3 quiet.start)) (told (five_at 3 busy.start)) 0 (ap (λ (s : Seat). told (five s)) (each 3)) refl;
      quiet_outputs = refl;
      busy_outputs = refl;
      outputs_carried = λ same. apart _ _ 0 same refl;
      quiet_refusals = refl;
      busy_refusals = refl;
      numbers_told = λ same. apart _ _ 4 same refl;
    }

pub agreements_needed : AgreementsNeeded
unfolding laid_open of_images
agreements_needed =
    record {
      set_so = refl;
      set_otherwise = refl;
      no_reset = refl;
      reset = refl;
      version_2 = refl;
      version_1 = refl;
      another_record = refl;
      refused = refl;
    }

-- nor are two lists of views, of which a number differs at a place
seen_apart : (f : View → ℕ) (k : ℕ) (vs ws : List View) → vs ≡ ws → eqb (get_or (map f vs) k 0) (get_or (map f ws) k 0) ≡ false → ⊥
seen_apart f k vs ws same differs = apart (map f vs) (map f ws) k (ap (map f) same) differs

pub nothing_less : NothingLess
unfolding laid_open of_images
nothing_less =
    record {
      answers = λ s. seen_apart (λ v. get_or (map value_of v.answers) 0 0) 0 _ _ s.seen refl;
      refused_answers = λ s. seen_apart (λ v. get_or (map refusal_of v.answers) 0 0) 0 _ _ s.seen refl;
      last_answers = λ s. seen_apart (λ v. get_or (map value_of v.answers) 0 0) 8 _ _ s.seen refl;
      marks = λ s. seen_apart (λ v. get_or v.marks 1 0) 0 _ _ s.seen refl;
      tallies = λ s. seen_apart (λ v. v.tallies.arrived) 0 _ _ s.seen refl;
      line = λ s. seen_apart (λ v. digit v.line) 0 _ _ s.seen refl;
      left = λ s. apart (_ ∷ []) (_ ∷ []) 0 (ap (λ (x : Seat). x.channel.settings.scratch ∷ []) s.left) refl;
    }
