-- The receive side after an event is the side after the moments of the event, and an RBR read is answered with the character it takes.
use Rattle.std.specs.Prelude.{ℕ, Bool, true, false, not, ◌&&◌, ◌||◌, List, [], ◌∷◌, ◌≡◌, refl, eqb}
use Rattle.std.proofs.Common.{ap, sym, ◌∙◌, ⊎_elim}
use Rattle.base.specs.Pick.{pick}
use Rattle.base.specs.PickLaws.{pick_true, pick_false, pick_through, pick_either, pick_cases, either_way}
use Rattle.base.specs.Bits.{bit}
use Rattle.base.proofs.BitLaws.{bit_bits}
use Rattle.base.specs.Answers.{value_of, figures_of}
use Rattle.base.specs.declared.Answer.{Answer}
use Rattle.base.specs.declared.Answer.TheVariants.{Done}
use Rattle.queue.specs.declared.Character.{Character}
use Rattle.receiver.specs.declared.Receiver.{Receiver}
use Rattle.receiver.specs.Receiver.{after_mode_change, cleared, waited}
use Rattle.receiver.specs.Ledger.{Moment, empties, changes, resets, Side, after, after_all, read_in}
use Rattle.channel.specs.declared.Channel.{Channel}
use Rattle.channel.specs.declared.Stepped.{Stepped}
use Rattle.registers.specs.declared.SeatEvent.{SeatEvent}
use Rattle.registers.specs.declared.SeatEvent.TheVariants.{Read, Write, Arrival, Levels, Time}
use Rattle.registers.specs.declared.Register.{Register}
use Rattle.registers.specs.declared.Register.TheVariants.{RbrThr, Ier, IirFcr, Lcr, Mcr, Lsr, Msr, Scratch, Dll, Dlm}
use Rattle.channel.specs.Parts.{master_reset, with_receiver, fifo, divisor_shown, in_loopback}
use Rattle.registers.specs.Registers.{register_at, fcr_kept}
use Rattle.channel.specs.Effects.{lsr_read, iir_read, msr_read, answer_at, after_read, ier_written, mode_changed, fcr_receiver, fcr_written, mcr_written, after_write, receives, heard_outside, after_arrival, after_levels, heard_back, after_time, time_answer}
use Rattle.registers.specs.Refusals.{refusal}
use Rattle.channel.specs.Steps.{effect, stepped}
use Rattle.channel.specs.Moments.{side, read_moments, fcr_moments, write_moments, arrival_moments, time_moments, accepted_moments, moments_of, handed_by, telling, told_in}

-- ---- the mode after an FCR write

no_mode : bit 0 0 ≡ false
unfolding bit
no_mode = refl

kept_mode : (byte : ℕ) → bit 0 (fcr_kept byte) ≡ bit 0 byte
unfolding fcr_kept
kept_mode byte =
    pick_cases (λ (x : ℕ). bit 0 x ≡ bit 0 byte) (bit 0 byte) _ _ (λ set. bit_bits 0 _ ∙ sym set) (λ clear. no_mode ∙ sym clear)

flips : (a b : Bool) → ((a && not b) || (not a && b)) ≡ true → b ≡ not a
flips true true e = sym e
flips true false e = refl
flips false true e = refl
flips false false e = e

stays : (a b : Bool) → ((a && not b) || (not a && b)) ≡ false → b ≡ a
stays true true e = refl
stays true false e = sym e
stays false true e = e
stays false false e = refl

-- a side is its mode and its receiver
same_side : (f g : Bool) (r s : Receiver) → f ≡ g → r ≡ s → ◌≡◌ {A = Side} (record { fifo = f; receiver = r }) (record { fifo = g; receiver = s })
same_side f g r s e d = cc

emptied_side : (c : Channel) (t : Bool)
    → ◌≡◌ {A = Side} (record { fifo = fifo c; receiver = pick t (cleared c.receiver) c.receiver }) (after_all (side c) (pick t (empties ∷ []) []))
unfolding pick after after_all
emptied_side c true = refl
emptied_side c false = refl

changed_side : (c : Channel) → after_all (side c) (changes ∷ []) ≡ record { fifo = not (fifo c); receiver = after_mode_change c.receiver }
unfolding after after_all
changed_side c = refl

fcr_side : (c : Channel) (byte : ℕ) → side (fcr_written c byte) ≡ after_all (side c) (fcr_moments c byte)
unfolding fcr_written fcr_receiver fcr_moments mode_changed
fcr_side c byte =
    ⊎_elim
    (λ (changed : mode_changed c byte ≡ true).
    same_side _ _ _ _ (kept_mode byte ∙ flips (fifo c) (bit 0 byte) changed) (pick_true _ _ _ changed)
    ∙ sym (ap (after_all (side c)) (pick_true _ _ _ changed) ∙ changed_side c))
    (λ (same : mode_changed c byte ≡ false).
    same_side _ _ _ _ (kept_mode byte ∙ stays (fifo c) (bit 0 byte) same) (pick_false _ _ _ same)
    ∙ emptied_side c (bit 0 byte && bit 1 byte) ∙ sym (ap (after_all (side c)) (pick_false _ _ _ same)))
    (either_way (mode_changed c byte))

-- ---- the side after a read, a write, any event

read_side : (c : Channel) (r : Register) → side (after_read c r) ≡ after_all (side c) (read_moments r)
unfolding after_read read_moments iir_read lsr_read msr_read after after_all
read_side c RbrThr = refl
read_side c Ier = refl
read_side c IirFcr = refl
read_side c Lcr = refl
read_side c Mcr = refl
read_side c Lsr = refl
read_side c Msr = refl
read_side c Scratch = refl
read_side c Dll = refl
read_side c Dlm = refl

write_side : (c : Channel) (r : Register) (byte : ℕ) → side (after_write c r byte) ≡ after_all (side c) (write_moments c r byte)
unfolding after_write write_moments ier_written mcr_written after_all
write_side c RbrThr byte = refl
write_side c Ier byte = refl
write_side c IirFcr byte = fcr_side c byte
write_side c Lcr byte = refl
write_side c Mcr byte = refl
write_side c Lsr byte = refl
write_side c Msr byte = refl
write_side c Scratch byte = refl
write_side c Dll byte = refl
write_side c Dlm byte = refl

-- what the receive side hears of a character from outside
arrival_side : (c : Channel) (ch : Character) → side (with_receiver c (heard_outside c ch)) ≡ after_all (side c) (arrival_moments c ch)
unfolding heard_outside receives arrival_moments after after_all
arrival_side c ch =
    pick_through (λ (r : Receiver). side (with_receiver c r)) (in_loopback c) _ _ ∙ sym (pick_through (after_all (side c)) (in_loopback c) _ _)

-- and of one that leaves in loopback, before the time passes
time_side : (c : Channel) → side (after_time c) ≡ after_all (side c) (time_moments c)
unfolding after_time heard_back receives time_moments after after_all
time_side c =
    let heard = in_loopback c && c.transmitter.busy in
    pick_through (λ (r : Receiver). side (with_receiver c (waited (fifo c) r))) heard _ _ ∙ sym (pick_through (after_all (side c)) heard _ _)

pub effect_side : (c : Channel) (e : SeatEvent) → side (effect c e).channel ≡ after_all (side c) (accepted_moments c e)
unfolding effect accepted_moments after_arrival after_levels after after_all
effect_side c (Read n) = read_side c (register_at (divisor_shown c) n)
effect_side c (Write n byte) = write_side c (register_at (divisor_shown c) n) byte
effect_side c (Arrival marks byte) = arrival_side c (record { «data» = byte; marks = marks })
effect_side c (Levels levels) = refl
effect_side c Time = time_side c

pub step_side : (c : Channel) (e : SeatEvent) → side (stepped c e).channel ≡ after_all (side c) (moments_of c e)
unfolding stepped moments_of after_all
step_side c e =
    pick_through (λ (s : Stepped). side s.channel) (eqb (refusal c.settings e) 0) _ _
    ∙ ap (λ (s : Side). pick (eqb (refusal c.settings e) 0) s (side c)) (effect_side c e)
    ∙ sym (pick_through (after_all (side c)) (eqb (refusal c.settings e) 0) _ _)

-- a master reset clears the FCR
pub reset_side : (c : Channel) → side (master_reset c) ≡ after_all (side c) (resets ∷ [])
unfolding master_reset after after_all
reset_side c = same_side _ _ _ _ no_mode refl

-- ---- what an RBR read is answered with

read_told : (c : Channel) (r : Register) → told_in (side c) (answer_at c r) (read_moments r) ≡ read_in (side c) (read_moments r)
unfolding told_in telling handed_by read_in read_moments answer_at value_of figures_of
read_told c RbrThr = refl
read_told c Ier = refl
read_told c IirFcr = refl
read_told c Lcr = refl
read_told c Mcr = refl
read_told c Lsr = refl
read_told c Msr = refl
read_told c Scratch = refl
read_told c Dll = refl
read_told c Dlm = refl

fcr_told : (c : Channel) (byte : ℕ) (a : Answer) → told_in (side c) a (fcr_moments c byte) ≡ read_in (side c) (fcr_moments c byte)
unfolding fcr_moments told_in telling read_in
fcr_told c byte a =
    pick_cases (λ (ms : List Moment). told_in (side c) a ms ≡ read_in (side c) ms) (mode_changed c byte) _ _
    (λ changed. refl)
    (λ same. pick_cases (λ (ms : List Moment). told_in (side c) a ms ≡ read_in (side c) ms) (bit 0 byte && bit 1 byte) _ _ (λ set. refl) (λ clear. refl))

write_told : (c : Channel) (r : Register) (byte : ℕ) (a : Answer) → told_in (side c) a (write_moments c r byte) ≡ read_in (side c) (write_moments c r byte)
unfolding write_moments told_in read_in
write_told c RbrThr byte a = refl
write_told c Ier byte a = refl
write_told c IirFcr byte a = fcr_told c byte a
write_told c Lcr byte a = refl
write_told c Mcr byte a = refl
write_told c Lsr byte a = refl
write_told c Msr byte a = refl
write_told c Scratch byte a = refl
write_told c Dll byte a = refl
write_told c Dlm byte a = refl

-- neither of two runs of moments tells other characters than are read
none_told : (c : Channel) (a : Answer) (t : Bool) (ms ns : List Moment) → told_in (side c) a ms ≡ read_in (side c) ms → told_in (side c) a ns ≡ read_in (side c) ns
    → told_in (side c) a (pick t ms ns) ≡ read_in (side c) (pick t ms ns)
none_told c a t ms ns first second = pick_either (λ (l : List Moment). told_in (side c) a l ≡ read_in (side c) l) t ms ns first second

pub effect_told : (c : Channel) (e : SeatEvent) → told_in (side c) (effect c e).answer (accepted_moments c e) ≡ read_in (side c) (accepted_moments c e)
unfolding effect accepted_moments arrival_moments time_moments told_in telling read_in
effect_told c (Read n) = read_told c (register_at (divisor_shown c) n)
effect_told c (Write n byte) = write_told c (register_at (divisor_shown c) n) byte Done
effect_told c (Arrival marks byte) = none_told c Done (in_loopback c) _ _ refl refl
effect_told c (Levels levels) = refl
effect_told c Time = none_told c (time_answer c) (in_loopback c && c.transmitter.busy) _ _ refl refl

by_test : (s : Side) (t : Bool) (x y : Stepped) (ms ns : List Moment) → told_in s x.answer ms ≡ read_in s ms → told_in s y.answer ns ≡ read_in s ns
    → told_in s (pick t x y).answer (pick t ms ns) ≡ read_in s (pick t ms ns)
unfolding pick
by_test s true x y ms ns first second = first
by_test s false x y ms ns first second = second

pub step_told : (c : Channel) (e : SeatEvent) → told_in (side c) (stepped c e).answer (moments_of c e) ≡ read_in (side c) (moments_of c e)
unfolding stepped moments_of told_in read_in
step_told c e = by_test (side c) (eqb (refusal c.settings e) 0) _ _ _ _ (effect_told c e) refl
