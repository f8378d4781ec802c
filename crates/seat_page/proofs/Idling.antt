-- A sound seat that is not in use, part by part.
use Prim.Native.Nat.{ℕ, ◌+◌}
use mathlib.Core.Bool.{Bool, true, false, not, ◌&&◌, ◌||◌}
use mathlib.Core.List.{[]}
use mathlib.Core.Path.{◌≡◌, refl, sym}
use native.Mathlib.Omega.{arith}
use lib.Dec.{eqb, leb, ltb}
use borrow.Author.Tests.{eqb-true, eq-eqb}
use Rattle.base.specs.PickLaws.{neither, both_hold, not_both}
use Rattle.queue.specs.declared.Queue.{Queue}
use Rattle.queue.specs.Queue.{empty_queue, capacity, canonical, contents, marked}
use Rattle.queue.proofs.CanonicalLaws.{holding_canonical, contents_determine}
use Rattle.registers.specs.declared.Settings.{Settings}
use Rattle.registers.specs.Registers.{fcr_kept}
use Rattle.receiver.specs.declared.Receiver.{Receiver}
use Rattle.receiver.specs.Receiver.{none_queued}
use Rattle.receiver.specs.Sound.{marks_within, count_allowed, sound_receiver}
use Rattle.transmitter.specs.declared.Transmitter.{Transmitter}
use Rattle.transmitter.specs.Transmitter.{still, none_waiting}
use Rattle.transmitter.specs.Sound.{sound_transmitter}
use Rattle.channel.specs.declared.Modem.{Modem}
use Rattle.channel.specs.Parts.{fifo}
use Rattle.channel.specs.Sound.{sound_channel}
use Rattle.seat.specs.declared.Tallies.{Tallies}
use Rattle.seat.specs.Seats.{queued}
use Rattle.seat.specs.Tallies.{largest, no_tallies, add_up}
use Rattle.seat_page.specs.Using.{is_set, some_setting, some_modem, some_to_send, some_arrived, in_use}
use Rattle.seat_page.specs.Idle.{PowerUpIdle, IdleAsAtPowerUp}

pub power_up_idle : PowerUpIdle
unfolding in_use some_setting some_modem some_to_send some_arrived none_waiting
power_up_idle = refl

holds_then : (a : Bool) → not a ≡ false → a ≡ true
holds_then true e = refl
holds_then false e = sym e

none : (n : ℕ) → is_set n ≡ false → n ≡ 0
none n e = eqb-true n 0 (holds_then (eqb n 0) e)

-- the second of two tests holds where the first fails
second : (a b : Bool) → (a || b) ≡ true → a ≡ false → b ≡ true
second true b e f = absurd (not_both e f)
second false b e f = e

first : (a b : Bool) → (a || b) ≡ true → b ≡ false → a ≡ true
first true b e f = refl
first false b e f = absurd (not_both e f)

settings_none : (s : Settings) → some_setting s ≡ false → s ≡ record { ier = 0; fcr = 0; lcr = 0; mcr = 0; scratch = 0; dll = 0; dlm = 0 }
unfolding some_setting
settings_none s e =
    let a = neither (is_set s.ier || is_set s.fcr || is_set s.lcr || is_set s.mcr || is_set s.scratch || is_set s.dll) (is_set s.dlm) e in
    let b = neither (is_set s.ier || is_set s.fcr || is_set s.lcr || is_set s.mcr || is_set s.scratch) (is_set s.dll) a.0 in
    let c = neither (is_set s.ier || is_set s.fcr || is_set s.lcr || is_set s.mcr) (is_set s.scratch) b.0 in
    let d = neither (is_set s.ier || is_set s.fcr || is_set s.lcr) (is_set s.mcr) c.0 in
    let f = neither (is_set s.ier || is_set s.fcr) (is_set s.lcr) d.0 in
    let g = neither (is_set s.ier) (is_set s.fcr) f.0 in
    λ i.
    record {
      ier = none s.ier g.0 i;
      fcr = none s.fcr g.1 i;
      lcr = none s.lcr f.1 i;
      mcr = none s.mcr d.1 i;
      scratch = none s.scratch c.1 i;
      dll = none s.dll b.1 i;
      dlm = none s.dlm a.1 i;
    }

modem_none : (m : Modem) → some_modem m ≡ false → m ≡ record { levels = 0; changes = 0 }
unfolding some_modem
modem_none m e =
    let a = neither (is_set m.levels) (is_set m.changes) e in
    λ i. record { levels = none m.levels a.0 i; changes = none m.changes a.1 i }

-- a canonical queue of nothing is the empty queue
queue_empty : (most : ℕ) (q : Queue) → canonical most q ≡ true → q.count ≡ 0 → q ≡ empty_queue
queue_empty most q e count =
    contents_determine most q empty_queue e (holding_canonical most [] (omega arith) (omega arith)) (rw count)

transmitter_still : (mode : Bool) (t : Transmitter) → sound_transmitter mode t ≡ true → some_to_send t ≡ false → t ≡ still
unfolding sound_transmitter some_to_send none_waiting
transmitter_still mode t good idle =
    let a = neither (not (eqb t.queue.count 0) || t.busy) t.flag idle in
    let b = neither (not (eqb t.queue.count 0)) t.busy a.0 in
    let c = both_hold (canonical (capacity mode) t.queue && not (marked t.queue)) (t.busy || eqb t.shift 0) good in
    let d = both_hold (canonical (capacity mode) t.queue) (not (marked t.queue)) c.0 in
    let queue : t.queue ≡ empty_queue = queue_empty (capacity mode) t.queue d.0 (none t.queue.count b.0) in
    let shift : t.shift ≡ 0 = eqb-true t.shift 0 (second t.busy (eqb t.shift 0) c.1 b.1) in
    λ i. record { queue = queue i; busy = b.1 i; shift = shift i; flag = a.1 i }

receiver_quiet : (mode : Bool) (r : Receiver) → sound_receiver mode r ≡ true → r.queue.count ≡ 0
    → r ≡ record { queue = empty_queue; overrun = r.overrun; kept = r.kept; timeout = 0; last = r.last }
unfolding sound_receiver count_allowed none_queued
receiver_quiet mode r good count =
    let a = both_hold (canonical (capacity mode) r.queue && marks_within (contents r.queue) && ltb r.kept 8 && leb r.timeout 4) _ good in
    let b = both_hold (canonical (capacity mode) r.queue && marks_within (contents r.queue) && ltb r.kept 8) _ a.0 in
    let c = both_hold (canonical (capacity mode) r.queue && marks_within (contents r.queue)) _ b.0 in
    let d = both_hold (canonical (capacity mode) r.queue) _ c.0 in
    let queue : r.queue ≡ empty_queue = queue_empty (capacity mode) r.queue d.0 count in
    let none-there : (mode && not (eqb r.queue.count 0)) ≡ false = rw (eq-eqb r.queue.count 0 count) (never mode) in
    let timeout : r.timeout ≡ 0 = eqb-true r.timeout 0 (first (eqb r.timeout 0) (mode && not (eqb r.queue.count 0)) a.1 none-there) in
    λ i. record { queue = queue i; overrun = r.overrun; kept = r.kept; timeout = timeout i; last = r.last }
  where
    never : (m : Bool) → (m && false) ≡ false
    never true = refl
    never false = refl

record Nothing (t : Tallies) (n : ℕ) : Type 0 where
  tallies : t ≡ no_tallies
  queued : n ≡ 0

nothing : (t : Tallies) (n : ℕ) → add_up t n ≡ true → some_arrived t ≡ false → Nothing t n
unfolding add_up some_arrived
nothing t n good idle =
    let a = both_hold (eqb (t.read + t.lost + t.dropped + n) t.arrived) (leb t.arrived largest) good in
    let sum : t.read + t.lost + t.dropped + n ≡ t.arrived = eqb-true _ _ a.0 in
    let arrived : t.arrived ≡ 0 = none t.arrived idle in
    let read : t.read ≡ 0 = omega (arith, sum, arrived) in
    let lost : t.lost ≡ 0 = omega (arith, sum, arrived) in
    let dropped : t.dropped ≡ 0 = omega (arith, sum, arrived) in
    record {
      tallies = λ i. record { arrived = arrived i; read = read i; lost = lost i; dropped = dropped i };
      queued = omega (arith, sum, arrived);
    }

pub idle_as_at_power_up : IdleAsAtPowerUp
unfolding in_use sound_channel
idle_as_at_power_up s good idle =
    let c = s.channel in
    let whole = both_hold (sound_channel c) (add_up s.tallies (queued s)) good in
    let registers : Bool =
    ltb c.settings.ier 16 && eqb (fcr_kept c.settings.fcr) c.settings.fcr && ltb c.settings.mcr 32
    && ltb c.modem.levels 16 && ltb c.modem.changes 16 in
    let sides = both_hold (registers && sound_receiver (fifo c) c.receiver) (sound_transmitter (fifo c) c.transmitter) whole.0 in
    let heard = both_hold registers (sound_receiver (fifo c) c.receiver) sides.0 in
    let d = neither (some_setting c.settings || some_modem c.modem || some_to_send c.transmitter) (some_arrived s.tallies) idle in
    let e = neither (some_setting c.settings || some_modem c.modem) (some_to_send c.transmitter) d.0 in
    let f = neither (some_setting c.settings) (some_modem c.modem) e.0 in
    let counted = nothing s.tallies (queued s) whole.1 d.1 in
    λ i.
    record {
      tallies = counted.tallies i;
      channel =
          record {
            settings = settings_none c.settings f.0 i;
            receiver = receiver_quiet (fifo c) c.receiver heard.1 counted.queued i;
            transmitter = transmitter_still (fifo c) c.transmitter sides.1 e.1 i;
            modem = modem_none c.modem f.1 i;
          };
    }
