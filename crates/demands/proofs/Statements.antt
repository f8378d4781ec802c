-- Every statement of this room is proved.
use Rattle.demands.specs.Statements.{Statements}
use Rattle.demands.proofs.Contracts.{contracts_say}
use Rattle.demands.proofs.Demand1.{demand_1, only_fff, one_refusal}
use Rattle.demands.proofs.Demand2.{demand_2, demand_2_listed}
use Rattle.demands.proofs.Demand2Items.{demand_2_items}
use Rattle.demands.proofs.Demand3.{demand_3_bench, demand_3_from_power_up}
use Rattle.demands.proofs.Demand3Restores.{starts_anew, demand_3_from_items}
use Rattle.demands.proofs.SeatLedger.{seat_ledger, seat_ledger_from_power_up}
use Rattle.demands.proofs.SeatLetters.{seat_letters, seat_letters_from_power_up, only_rbr, in_16450_mode, in_fifo_mode}
use Rattle.demands.proofs.TimeOut.{time_out_lasts, at_arrival, untouched_stays, time_out_ends}
use Rattle.demands.proofs.Loopback.{fed_back_lem, changes_noticed, changes_stand, reset_sets_none, arrivals_unheard, levels_kept, levels_last_on, leaver_is_received, sent_is_received, idle_receives_nothing, seats_sound, outside_as_before}
use Rattle.demands.proofs.LoopbackRuns.{self_test, overrun_inside, time_out_inside, ledger_inside, fed_in_turn, entering_leaving, reset_inside, levels_outlast, from_outside, line_gated, calls_from_within, before_differs, loopback_met}
use Rattle.demands.proofs.SheetMeant.{sheet_meant}
use Rattle.demands.proofs.WrongPrograms.{shut_out, let_in}
use Rattle.demands.proofs.Needed.{needed}
use Rattle.demands.proofs.Tallies.{counting_begins, tallies_add_up}
use Rattle.demands.proofs.TalliesMove.{tallies_move, full_exactly, tallies_told}
use Rattle.demands.proofs.WithoutTallies.{without_tallies}
use Rattle.demands.proofs.TallyRuns.{five_move, full_refused, nearly_refused, tallies_met}
use Rattle.demands.proofs.Neighbours.{neighbours}
use Rattle.demands.proofs.NeighbourRuns.{neighbours_met, no_more_alike, agreements_needed, nothing_less}
use Rattle.demands.proofs.Starred.{tasted}
use Rattle.demands.proofs.Worked.{worked}
use Rattle.demands.proofs.Edges.{at_the_edges, by_ingredient}

pub statements : Statements
statements =
    record {
      contracts_say = contracts_say;
      demand_1 = demand_1;
      only_fff = only_fff;
      one_refusal = one_refusal;
      demand_2 = demand_2;
      demand_2_listed = demand_2_listed;
      demand_2_items = demand_2_items;
      demand_3 = demand_3_bench;
      demand_3_from_power_up = demand_3_from_power_up;
      starts_anew = starts_anew;
      demand_3_from_items = demand_3_from_items;
      seat_ledger = seat_ledger;
      seat_ledger_from_power_up = seat_ledger_from_power_up;
      seat_letters = seat_letters;
      seat_letters_from_power_up = seat_letters_from_power_up;
      only_rbr = only_rbr;
      in_16450_mode = in_16450_mode;
      in_fifo_mode = in_fifo_mode;
      time_out_lasts = time_out_lasts;
      at_arrival = at_arrival;
      untouched_stays = untouched_stays;
      time_out_ends = time_out_ends;
      fed_back_lem = fed_back_lem;
      changes_noticed = changes_noticed;
      changes_stand = changes_stand;
      reset_sets_none = reset_sets_none;
      arrivals_unheard = arrivals_unheard;
      levels_kept = levels_kept;
      levels_last = levels_last_on;
      leaver_received = leaver_is_received;
      sent_is_received = sent_is_received;
      idle_receives_nothing = idle_receives_nothing;
      seats_sound = seats_sound;
      outside_as_before = outside_as_before;
      self_test = self_test;
      overrun_inside = overrun_inside;
      time_out_inside = time_out_inside;
      ledger_inside = ledger_inside;
      fed_in_turn = fed_in_turn;
      entering_leaving = entering_leaving;
      reset_inside = reset_inside;
      levels_outlast = levels_outlast;
      from_outside = from_outside;
      line_gated = line_gated;
      calls_from_within = calls_from_within;
      before_differs = before_differs;
      loopback_met = loopback_met;
      counting_begins = counting_begins;
      tallies_add_up = tallies_add_up;
      tallies_move = tallies_move;
      full_exactly = full_exactly;
      without_tallies = without_tallies;
      five_move = five_move;
      tallies_told = tallies_told;
      full_refused = full_refused;
      nearly_refused = nearly_refused;
      tallies_met = tallies_met;
      neighbours = neighbours;
      neighbours_met = neighbours_met;
      no_more_alike = no_more_alike;
      agreements_needed = agreements_needed;
      nothing_less = nothing_less;
      sheet_meant = sheet_meant;
      shut_out = shut_out;
      let_in = let_in;
      needed = needed;
      tasted = tasted;
      worked = worked;
      at_the_edges = at_the_edges;
      by_ingredient = by_ingredient;
    }
