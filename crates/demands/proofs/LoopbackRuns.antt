-- Ticket 7 in runs from power-up: computed, and what the statements say of two of them, drawn from the statements.
use mathlib.Core.Bool.{true, false}
use mathlib.Core.List.{[], ◌∷◌}
use lib.ListN.{replicate}
use mathlib.Core.Path.{◌≡◌, refl}
use native.Mathlib.Omega.{arith}
use Rattle.channel.specs.Parts.{in_loopback}
use Rattle.channel.specs.Sound.{sound_channel}
use Rattle.receiver.specs.Sound as heard
use Rattle.transmitter.specs.Sound as sending
use Rattle.channel_laws.specs.Unlooped as unlooped
use Rattle.channel_laws.specs.SoundLaws.{power_up_sound}
use Rattle.bench.specs.Seats.{power_up}
use Rattle.base.specs.Answers.{refusal_of}
use Rattle.demands.specs.Loopback.{record_of, channel_at, OnBench, AtRest}
use Rattle.demands.specs.LoopbackRuns.{SelfTest, OverrunInside, TimeOutInside, LedgerInside, FedInTurn, EnteringLeaving, ResetInside, LevelsOutlast, FromOutside, LineGated, CallsFromWithin, BeforeDiffers, seven, third, LoopbackMet}
use Rattle.demands.proofs.Loopback.{changes_noticed, sent_is_received, outside_as_before}
use Rattle.demands.proofs.Opened.{laid_open}

pub self_test : SelfTest
unfolding laid_open
self_test = refl

pub overrun_inside : OverrunInside
unfolding laid_open
overrun_inside = refl

pub time_out_inside : TimeOutInside
unfolding laid_open
time_out_inside = refl

pub ledger_inside : LedgerInside
unfolding laid_open
ledger_inside = record { arrived = refl; read = refl; lost = refl; dropped = refl; waits = refl }

pub fed_in_turn : FedInTurn
unfolding laid_open
fed_in_turn = refl

pub entering_leaving : EnteringLeaving
unfolding laid_open
entering_leaving = refl

pub reset_inside : ResetInside
unfolding laid_open
reset_inside = refl

pub from_outside : FromOutside
unfolding laid_open
from_outside = refl

pub levels_outlast : LevelsOutlast
unfolding laid_open
levels_outlast = refl

pub line_gated : LineGated
unfolding laid_open
line_gated = refl

pub calls_from_within : CallsFromWithin
unfolding laid_open
calls_from_within = refl

pub before_differs : BeforeDiffers
unfolding laid_open unlooped.answers_then unlooped.stepped_then unlooped.effect_then unlooped.written_then unlooped.answer_then unlooped.grounds_then unlooped.asks_loop
before_differs = (refl, refl)

-- ---- the premises

on_seven : OnBench 7 seven
unfolding laid_open
on_seven = (omega arith, refl)

on_third : OnBench 3 third
unfolding laid_open
on_third = (omega arith, refl)

seven_inside : in_loopback (channel_at 7 seven) ≡ true
unfolding laid_open
seven_inside = refl

third_inside : in_loopback (channel_at 3 third) ≡ true
unfolding laid_open
third_inside = refl

seven_rests : AtRest 7 seven
unfolding laid_open sound_channel heard.sound_receiver heard.marks_within heard.count_allowed sending.sound_transmitter
seven_rests = record { sound = refl; divided = refl; thr_reached = refl; sent = refl; none = refl }

third_rests : AtRest 3 third
unfolding laid_open sound_channel heard.sound_receiver heard.marks_within heard.count_allowed sending.sound_transmitter
third_rests = record { sound = refl; divided = refl; thr_reached = refl; sent = refl; none = refl }

at_power_up_lem : OnBench 0 power_up
at_power_up_lem = (omega arith, refl)

is_outside : in_loopback (channel_at 0 power_up) ≡ false
unfolding laid_open
is_outside = refl

sound_0 : sound_channel (channel_at 0 power_up) ≡ true
unfolding laid_open
sound_0 = power_up_sound

pub loopback_met : LoopbackMet
unfolding laid_open record_of refusal_of unlooped.asks_loop unlooped.some_asks
loopback_met =
    record {
      inside = (seven_inside, third_inside);
      rest = (seven_rests, third_rests);
      sixteen = sent_is_received 7 seven on_seven seven_inside seven_rests (replicate 16 0xA5) (omega arith) refl;
      one = sent_is_received 3 third on_third third_inside third_rests (0xA5 ∷ []) (omega arith) refl;
      noticed = ((changes_noticed 0 power_up at_power_up_lem).1 0x1B).change_shows;
      outside = is_outside;
      as_before = outside_as_before 0 power_up at_power_up_lem is_outside sound_0 _ refl refl;
    }
