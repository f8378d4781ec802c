-- What the receive ledger says of an accepted event, by how many were queued before and after it: of any channel, sound or not.
use Rattle.std.specs.Prelude.{ℕ, ◌-◌, true, false, not, ◌&&◌, ◌||◌, List, [], ◌∷◌, ◌≡◌, refl, eqb, leb, length}
use Rattle.std.proofs.Common.{append-nil, ap, sym, subst, ◌∙◌, add-zero}
use Rattle.std.proofs.Math.Nat.{sub_self, sub-zero}
use Rattle.base.specs.Pick.{pick}
use Rattle.base.specs.PickLaws.{pick_true, pick_false, pick_through, pick_either}
use Rattle.base.specs.Bits.{bit}
use Rattle.queue.specs.declared.Character.{Character}
use Rattle.queue.specs.Queue.{capacity}
use Rattle.receiver.specs.Receiver.{none_queued, cleared, after_mode_change}
use Rattle.receiver.specs.Ledger.{Moment, arrives, rbr, lsr, passes, empties, changes, resets, Side, after, after_all, number, reading, arrived_in, read_in, lost_in, dropped_in}
use Rattle.receiver.specs.CountLaws.{lost_told, read_told, lsr_leaves, time_leaves}
use Rattle.registers.specs.declared.SeatEvent.{SeatEvent}
use Rattle.registers.specs.declared.SeatEvent.TheVariants.{Read, Write, Arrival, Levels, Time}
use Rattle.registers.specs.declared.Register.{Register}
use Rattle.registers.specs.declared.Register.TheVariants.{RbrThr, Ier, IirFcr, Lcr, Mcr, Lsr, Msr, Scratch, Dll, Dlm}
use Rattle.registers.specs.Registers.{register_at}
use Rattle.channel.specs.declared.Channel.{Channel}
use Rattle.channel.specs.Parts.{divisor_shown, in_loopback}
use Rattle.channel.specs.Effects.{mode_changed, leaver}
use Rattle.channel.specs.Steps.{effect}
use Rattle.channel.specs.Moments.{side, read_moments, fcr_moments, write_moments, arrival_moments, time_moments, accepted_moments}
use Rattle.channel_laws.specs.MomentLaws.{effect_side}
use Rattle.channel_laws.specs.ShapeLaws.{other_read, rbr_read_lem, other_write, fcr_write}

-- what a run of moments adds under each of the ledger's names
pub record Figures (s : Side) (ms : List Moment) (arrived read lost dropped : ℕ) : Type 0 where
  pub arrived_is : length (arrived_in ms) ≡ arrived
  pub read_is : length (read_in s ms) ≡ read
  pub lost_is : lost_in s ms ≡ lost
  pub dropped_is : dropped_in s ms ≡ dropped

-- so many fewer are queued after it
abbrev pub fewer : Side → List Moment → ℕ
fewer s ms = number s - number (after_all s ms)

-- one is lost, where as many are queued after it as before
abbrev pub lost_one : Side → List Moment → ℕ
lost_one s ms = pick (eqb (number (after_all s ms)) (number s)) 1 0

-- one is lost, where it finds the queue full
abbrev pub lost_then : Side → ℕ
lost_then s = pick (leb (capacity s.fifo) (number s)) 1 0

-- a run that takes what is missing then by reads, and moves no other figure; and one that drops it
abbrev Takes : Side → List Moment → Type 0
Takes s ms = Figures s ms 0 (fewer s ms) 0 0

abbrev Drops : Side → List Moment → Type 0
Drops s ms = Figures s ms 0 0 0 (fewer s ms)

-- ---- of the moments of one event

nothing : (s : Side) → Figures s [] 0 0 0 0
unfolding arrived_in read_in lost_in dropped_in
nothing s = record { arrived_is = refl; read_is = refl; lost_is = refl; dropped_is = refl }

none_read : (s : Side) → Takes s []
unfolding after_all
none_read s = subst (λ (n : ℕ). Figures s [] 0 n 0 0) (sym (sub_self (number s))) (nothing s)

none_dropped : (s : Side) → Drops s []
unfolding after_all
none_dropped s = subst (λ (n : ℕ). Figures s [] 0 0 0 n) (sym (sub_self (number s))) (nothing s)

rbr_figures : (s : Side) → Takes s (rbr ∷ [])
unfolding arrived_in read_in lost_in dropped_in after_all
rbr_figures s = record { arrived_is = refl; read_is = ap length (append-nil (reading s rbr)) ∙ read_told s; lost_is = refl; dropped_is = refl }

lsr_figures : (s : Side) → Takes s (lsr ∷ [])
unfolding arrived_in read_in lost_in dropped_in after_all
lsr_figures s =
    record {
      arrived_is = refl;
      read_is = sym (ap (λ (n : ℕ). number s - n) (lsr_leaves s) ∙ sub_self (number s));
      lost_is = refl;
      dropped_is = refl;
    }

-- what leaves nothing queued drops all
empties_all : (s : Side) → Figures s (empties ∷ []) 0 0 0 (number s)
unfolding arrived_in read_in lost_in dropped_in
empties_all s = record { arrived_is = refl; read_is = refl; lost_is = refl; dropped_is = add-zero (number s) }

changes_all : (s : Side) → Figures s (changes ∷ []) 0 0 0 (number s)
unfolding arrived_in read_in lost_in dropped_in
changes_all s = record { arrived_is = refl; read_is = refl; lost_is = refl; dropped_is = add-zero (number s) }

pub resets_figures : (s : Side) → Figures s (resets ∷ []) 0 0 0 (number s)
unfolding arrived_in read_in lost_in dropped_in
resets_figures s = record { arrived_is = refl; read_is = refl; lost_is = refl; dropped_is = add-zero (number s) }

-- one that arrives, by itself or before a character time: lost where the queue is full
arrives_figures : (s : Side) (ch : Character) → Figures s (arrives ch ∷ []) 1 0 (lost_then s) 0
unfolding arrived_in read_in lost_in dropped_in
arrives_figures s ch = record { arrived_is = refl; read_is = refl; lost_is = add-zero (lost_then s); dropped_is = refl }

back_figures : (s : Side) (ch : Character) → Figures s (arrives ch ∷ passes ∷ []) 1 0 (lost_then s) 0
unfolding arrived_in read_in lost_in dropped_in
back_figures s ch = record { arrived_is = refl; read_is = refl; lost_is = add-zero (lost_then s); dropped_is = refl }

-- and so by the numbers before and after
arrives_told : (s : Side) (ch : Character) → lost_then s ≡ lost_one s (arrives ch ∷ [])
unfolding after_all
arrives_told s ch = lost_told s ch

back_told : (s : Side) (ch : Character) → lost_then s ≡ lost_one s (arrives ch ∷ passes ∷ [])
unfolding after_all
back_told s ch = lost_told s ch ∙ ap (λ (n : ℕ). pick (eqb n (number s)) 1 0) (sym (time_leaves (after s (arrives ch))))

passes_figures : (s : Side) → Figures s (passes ∷ []) 0 0 0 0
unfolding arrived_in read_in lost_in dropped_in
passes_figures s = record { arrived_is = refl; read_is = refl; lost_is = refl; dropped_is = refl }

-- ---- of an accepted event

-- how many fewer are queued after an event than before it, and the one that it loses where as many are
abbrev pub fewer_after : Channel → SeatEvent → ℕ
fewer_after c e = number (side c) - number (side (effect c e).channel)

abbrev pub lost_after : Channel → SeatEvent → ℕ
lost_after c e = pick (eqb (number (side (effect c e).channel)) (number (side c))) 1 0

register_read : (s : Side) (r : Register) → Takes s (read_moments r)
unfolding read_moments
register_read s RbrThr = rbr_figures s
register_read s Ier = none_read s
register_read s IirFcr = none_read s
register_read s Lcr = none_read s
register_read s Mcr = none_read s
register_read s Lsr = lsr_figures s
register_read s Msr = none_read s
register_read s Scratch = none_read s
register_read s Dll = none_read s
register_read s Dlm = none_read s

pub read_figures : (c : Channel) (n : ℕ) → Figures (side c) (accepted_moments c (Read n)) 0 (fewer_after c (Read n)) 0 0
unfolding accepted_moments
read_figures c n =
    subst (λ (s : Side). Figures (side c) (read_moments (register_at (divisor_shown c) n)) 0 (number (side c) - number s) 0 0) (sym (effect_side c (Read n)))
    (register_read (side c) (register_at (divisor_shown c) n))

-- so many fewer are queued then
all_fewer : (s : Side) (ms : List Moment) → number (after_all s ms) ≡ 0 → Figures s ms 0 0 0 (number s) → Drops s ms
all_fewer s ms none = subst (Figures s ms 0 0 0) (sym (ap (λ (n : ℕ). number s - n) none ∙ sub-zero (number s)))

fcr_figures : (c : Channel) (byte : ℕ) → Drops (side c) (fcr_moments c byte)
unfolding fcr_moments after after_all cleared after_mode_change
fcr_figures c byte =
    pick_either (Drops (side c)) (mode_changed c byte) _ _ (all_fewer (side c) (changes ∷ []) refl (changes_all (side c)))
    (pick_either (Drops (side c)) (bit 0 byte && bit 1 byte) _ _ (all_fewer (side c) (empties ∷ []) refl (empties_all (side c))) (none_dropped (side c)))

register_written : (c : Channel) (r : Register) (byte : ℕ) → Drops (side c) (write_moments c r byte)
unfolding write_moments
register_written c RbrThr byte = none_dropped (side c)
register_written c Ier byte = none_dropped (side c)
register_written c IirFcr byte = fcr_figures c byte
register_written c Lcr byte = none_dropped (side c)
register_written c Mcr byte = none_dropped (side c)
register_written c Lsr byte = none_dropped (side c)
register_written c Msr byte = none_dropped (side c)
register_written c Scratch byte = none_dropped (side c)
register_written c Dll byte = none_dropped (side c)
register_written c Dlm byte = none_dropped (side c)

pub write_figures : (c : Channel) (n byte : ℕ) → Figures (side c) (accepted_moments c (Write n byte)) 0 0 0 (fewer_after c (Write n byte))
unfolding accepted_moments
write_figures c n byte =
    let r = register_at (divisor_shown c) n in
    subst (λ (s : Side). Figures (side c) (write_moments c r byte) 0 0 0 (number (side c) - number s)) (sym (effect_side c (Write n byte)))
    (register_written c r byte)

pub levels_figures : (c : Channel) (levels : ℕ) → Figures (side c) (accepted_moments c (Levels levels)) 0 0 0 0
unfolding accepted_moments
levels_figures c levels = nothing (side c)

-- an event that receives: one is lost where the queue is full, and then as many are queued after it as before
pub record Received (c : Channel) (e : SeatEvent) : Type 0 where
  pub figures : Figures (side c) (accepted_moments c e) 1 0 (lost_then (side c)) 0
  pub told : lost_then (side c) ≡ lost_after c e

-- and one that does not
abbrev pub Unmoved : Channel → SeatEvent → Type 0
Unmoved c e = Figures (side c) (accepted_moments c e) 0 0 0 0

received_by : (c : Channel) (e : SeatEvent) (ms : List Moment) → accepted_moments c e ≡ ms → Figures (side c) ms 1 0 (lost_then (side c)) 0
    → lost_then (side c) ≡ lost_one (side c) ms → Received c e
received_by c e ms is figures told =
    record {
      figures = subst (λ (l : List Moment). Figures (side c) l 1 0 (lost_then (side c)) 0) (sym is) figures;
      told =
          told ∙ ap (λ (l : List Moment). lost_one (side c) l) (sym is)
          ∙ ap (λ (s : Side). pick (eqb (number s) (number (side c))) 1 0) (sym (effect_side c e));
    }

unmoved_by : (c : Channel) (e : SeatEvent) (ms : List Moment) → accepted_moments c e ≡ ms → Figures (side c) ms 0 0 0 0 → Unmoved c e
unmoved_by c e ms is = subst (λ (l : List Moment). Figures (side c) l 0 0 0 0) (sym is)

pub arrival_received : (c : Channel) (marks byte : ℕ) → in_loopback c ≡ false → Received c (Arrival marks byte)
unfolding accepted_moments arrival_moments
arrival_received c marks byte outside =
    received_by c (Arrival marks byte) (arrives (record { «data» = byte; marks = marks }) ∷ []) (pick_false _ _ _ outside)
    (arrives_figures (side c) (record { «data» = byte; marks = marks })) (arrives_told (side c) (record { «data» = byte; marks = marks }))

pub arrival_unheard : (c : Channel) (marks byte : ℕ) → in_loopback c ≡ true → Unmoved c (Arrival marks byte)
unfolding accepted_moments arrival_moments
arrival_unheard c marks byte inside = unmoved_by c (Arrival marks byte) [] (pick_true _ _ _ inside) (nothing (side c))

pub time_received : (c : Channel) → (in_loopback c && c.transmitter.busy) ≡ true → Received c Time
unfolding accepted_moments time_moments
time_received c inside =
    received_by c Time (arrives (leaver c) ∷ passes ∷ []) (pick_true _ _ _ inside) (back_figures (side c) (leaver c)) (back_told (side c) (leaver c))

pub time_unheard : (c : Channel) → (in_loopback c && c.transmitter.busy) ≡ false → Unmoved c Time
unfolding accepted_moments time_moments
time_unheard c outside = unmoved_by c Time (passes ∷ []) (pick_false _ _ _ outside) (passes_figures (side c))

-- ---- of reads and writes, by the register's number

-- a read that takes nothing, and one of RBR
none_figures : (s : Side) → Figures s (lsr ∷ []) 0 0 0 0
unfolding arrived_in read_in lost_in dropped_in
none_figures s = record { arrived_is = refl; read_is = refl; lost_is = refl; dropped_is = refl }

pub other_read_figures : (c : Channel) (n : ℕ) → (eqb n 0 && not (divisor_shown c)) ≡ false → Unmoved c (Read n)
other_read_figures c n other = other_read c n (λ (ms : List Moment). Figures (side c) ms 0 0 0 0) other (nothing (side c)) (none_figures (side c))

pub rbr_read_figures : (c : Channel) (n : ℕ) → (eqb n 0 && not (divisor_shown c)) ≡ true
    → Figures (side c) (accepted_moments c (Read n)) 0 (pick (eqb (number (side c)) 0) 0 1) 0 0
unfolding arrived_in read_in lost_in dropped_in none_queued
rbr_read_figures c n at =
    subst (λ (ms : List Moment). Figures (side c) ms 0 (pick (eqb (number (side c)) 0) 0 1) 0 0) (sym (rbr_read_lem c n at))
    (record {
      arrived_is = refl;
      read_is = ap length (append-nil (reading (side c) rbr)) ∙ pick_through length (eqb (number (side c)) 0) _ _;
      lost_is = refl;
      dropped_is = refl;
    })

-- a write that empties nothing, and one that does
pub other_write_figures : (c : Channel) (n byte : ℕ) → (eqb n 2 && ((bit 0 byte && bit 1 byte) || mode_changed c byte)) ≡ false → Unmoved c (Write n byte)
other_write_figures c n byte other = other_write c n byte (λ (ms : List Moment). Figures (side c) ms 0 0 0 0) other (nothing (side c))

pub fcr_write_figures : (c : Channel) (n byte : ℕ) → (eqb n 2 && ((bit 0 byte && bit 1 byte) || mode_changed c byte)) ≡ true
    → Figures (side c) (accepted_moments c (Write n byte)) 0 0 0 (number (side c))
fcr_write_figures c n byte at =
    fcr_write c n byte (λ (ms : List Moment). Figures (side c) ms 0 0 0 (number (side c))) at (changes_all (side c)) (empties_all (side c))
