-- The statements of this room. The proofs give the record whole.
use Rattle.demands.specs.Contracts.{ContractsSay}
use Rattle.demands.specs.Demand1.{Demand1, OnlyFFF, OneRefusal}
use Rattle.demands.specs.Demand2.{Demand2, Demand2Listed}
use Rattle.demands.specs.Demand2Items.{Demand2Items}
use Rattle.demands.specs.Demand3.{Demand3, Demand3FromPowerUp}
use Rattle.demands.specs.Demand3Restores.{StartsAnew, Demand3FromItems}
use Rattle.demands.specs.SeatLedger.{SeatLedger, SeatLedgerFromPowerUp}
use Rattle.demands.specs.SeatLetters.{SeatLetters, SeatLettersFromPowerUp, OnlyRbr, In16450Mode, InFifoMode}
use Rattle.demands.specs.TimeOut.{TimeOutLasts, AtArrival, Untouched, TimeOutEnds}
use Rattle.demands.specs.Loopback.{FedBack, ChangesNoticed, ChangesStand, ResetSetsNone, ArrivalsUnheard, LevelsKept, LevelsLast, LeaverReceived, SentIsReceived, IdleReceivesNothing, SeatsSound, OutsideAsBefore}
use Rattle.demands.specs.LoopbackRuns.{SelfTest, OverrunInside, TimeOutInside, LedgerInside, FedInTurn, EnteringLeaving, ResetInside, LevelsOutlast, FromOutside, LineGated, CallsFromWithin, BeforeDiffers, LoopbackMet}
use Rattle.demands.specs.SheetMeant.{SheetMeant}
use Rattle.demands.specs.WrongPrograms.{ShutOut, LetIn}
use Rattle.demands.specs.Needed.{Needed}
use Rattle.demands.specs.Tallies.{CountingBegins, TalliesAddUp, TalliesMove, FullExactly, WithoutTallies, TalliesTold}
use Rattle.demands.specs.TallyRuns.{FiveMove, FullRefused, NearlyRefused, TalliesMet}
use Rattle.demands.specs.Neighbours.{Neighbours}
use Rattle.demands.specs.NeighbourRuns.{NeighboursMet, NoMoreAlike, AgreementsNeeded, NothingLess}
use Rattle.demands.specs.Starred.{Tasted}
use Rattle.demands.specs.Worked.{Worked}
use Rattle.demands.specs.Edges.{Edges, Ingredients}

pub record Statements : Type 0 where
  pub contracts_say : ContractsSay
  pub demand_1 : Demand1
  pub only_fff : OnlyFFF
  pub one_refusal : OneRefusal
  pub demand_2 : Demand2
  pub demand_2_listed : Demand2Listed
  pub demand_2_items : Demand2Items
  pub demand_3 : Demand3
  pub demand_3_from_power_up : Demand3FromPowerUp
  pub starts_anew : StartsAnew
  pub demand_3_from_items : Demand3FromItems
  pub seat_ledger : SeatLedger
  pub seat_ledger_from_power_up : SeatLedgerFromPowerUp
  pub seat_letters : SeatLetters
  pub seat_letters_from_power_up : SeatLettersFromPowerUp
  pub only_rbr : OnlyRbr
  pub in_16450_mode : In16450Mode
  pub in_fifo_mode : InFifoMode
  pub time_out_lasts : TimeOutLasts
  pub at_arrival : AtArrival
  pub untouched_stays : Untouched
  pub time_out_ends : TimeOutEnds
  pub fed_back_lem : FedBack
  pub changes_noticed : ChangesNoticed
  pub changes_stand : ChangesStand
  pub reset_sets_none : ResetSetsNone
  pub arrivals_unheard : ArrivalsUnheard
  pub levels_kept : LevelsKept
  pub levels_last : LevelsLast
  pub leaver_received : LeaverReceived
  pub sent_is_received : SentIsReceived
  pub idle_receives_nothing : IdleReceivesNothing
  pub seats_sound : SeatsSound
  pub outside_as_before : OutsideAsBefore
  pub self_test : SelfTest
  pub overrun_inside : OverrunInside
  pub time_out_inside : TimeOutInside
  pub ledger_inside : LedgerInside
  pub fed_in_turn : FedInTurn
  pub entering_leaving : EnteringLeaving
  pub reset_inside : ResetInside
  pub levels_outlast : LevelsOutlast
  pub from_outside : FromOutside
  pub line_gated : LineGated
  pub calls_from_within : CallsFromWithin
  pub before_differs : BeforeDiffers
  pub loopback_met : LoopbackMet
  pub counting_begins : CountingBegins
  pub tallies_add_up : TalliesAddUp
  pub tallies_move : TalliesMove
  pub full_exactly : FullExactly
  pub without_tallies : WithoutTallies
  pub five_move : FiveMove
  pub tallies_told : TalliesTold
  pub full_refused : FullRefused
  pub nearly_refused : NearlyRefused
  pub tallies_met : TalliesMet
  pub neighbours : Neighbours
  pub neighbours_met : NeighboursMet
  pub no_more_alike : NoMoreAlike
  pub agreements_needed : AgreementsNeeded
  pub nothing_less : NothingLess
  pub sheet_meant : SheetMeant
  pub shut_out : ShutOut
  pub let_in : LetIn
  pub needed : Needed
  pub tasted : Tasted
  pub worked : Worked
  pub at_the_edges : Edges
  pub by_ingredient : Ingredients
