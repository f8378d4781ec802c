-- What an access may change: a table of accesses by part of the channel. Every other part stays equal.
use Rattle.std.specs.Prelude.{ℕ, Bool, true, false, ◌≡◌, refl, eqb}
use Rattle.std.proofs.Common.{ap, sym, ◌∙◌}
use Rattle.base.specs.Pick.{pick}
use Rattle.base.specs.PickLaws.{pick_same, pick_either}
use Rattle.channel.specs.declared.Channel.{Channel}
use Rattle.channel.specs.declared.Stepped.{Stepped}
use Rattle.registers.specs.declared.Register.{Register}
use Rattle.registers.specs.declared.Register.TheVariants.{RbrThr, Ier, IirFcr, Lcr, Mcr, Lsr, Msr, Scratch, Dll, Dlm}
use Rattle.registers.specs.declared.SeatEvent.{SeatEvent}
use Rattle.registers.specs.declared.SeatEvent.TheVariants.{Read, Write, Arrival, Levels, Time}
use Rattle.channel.specs.Parts.{divisor_shown}
use Rattle.registers.specs.Registers.{register_at}
use Rattle.channel.specs.Effects.{iir_read, lsr_read, msr_read, ier_written, fcr_written, mcr_written, after_read, after_write, after_arrival, after_levels, after_time}
use Rattle.registers.specs.Refusals.{refusal}
use Rattle.channel.specs.Steps.{effect, stepped}

-- which parts of a channel an access may change
pub record Reached : Type 0 where
  pub settings : Bool
  pub receiver : Bool
  pub transmitter : Bool
  pub modem : Bool

-- a row of the table: settings, receiver, transmitter, modem
abbrev row : Bool → Bool → Bool → Bool → Reached
row s r t m = record { settings = s; receiver = r; transmitter = t; modem = m }

abbrev pub nothing : Reached
nothing = row false false false false

abbrev pub by_read : Register → Reached
by_read RbrThr = row false true false false
by_read Ier = nothing
by_read IirFcr = row false false true false
by_read Lcr = nothing
by_read Mcr = nothing
by_read Lsr = row false true false false
by_read Msr = row false false false true
by_read Scratch = nothing
by_read Dll = nothing
by_read Dlm = nothing

abbrev pub by_write : Register → Reached
by_write RbrThr = row false false true false
by_write Ier = row true false true false
by_write IirFcr = row true true true false
by_write Lcr = row true false false false
by_write Mcr = row true false false true
by_write Lsr = nothing
by_write Msr = nothing
by_write Scratch = row true false false false
by_write Dll = row true false false false
by_write Dlm = row true false false false

-- a register number is read with LCR bit 7
abbrev pub by_event : Channel → SeatEvent → Reached
by_event c (Read n) = by_read (register_at (divisor_shown c) n)
by_event c (Write n byte) = by_write (register_at (divisor_shown c) n)
by_event c (Arrival marks byte) = row false true false false
by_event c (Levels levels) = row false false false true
by_event c Time = row false true true false

-- the new channel's parts where they are touched, the old one's where they are not
abbrev pub mixed : Reached → Channel → Channel → Channel
mixed t new old =
    record {
      settings = pick t.settings new.settings old.settings;
      receiver = pick t.receiver new.receiver old.receiver;
      transmitter = pick t.transmitter new.transmitter old.transmitter;
      modem = pick t.modem new.modem old.modem;
    }

read_touches : (c : Channel) (register : Register) → after_read c register ≡ mixed (by_read register) (after_read c register) c
unfolding after_read iir_read lsr_read msr_read pick
read_touches c RbrThr = refl
read_touches c Ier = refl
read_touches c IirFcr = refl
read_touches c Lcr = refl
read_touches c Mcr = refl
read_touches c Lsr = refl
read_touches c Msr = refl
read_touches c Scratch = refl
read_touches c Dll = refl
read_touches c Dlm = refl

write_touches : (c : Channel) (register : Register) (byte : ℕ) → after_write c register byte ≡ mixed (by_write register) (after_write c register byte) c
unfolding after_write ier_written fcr_written mcr_written pick
write_touches c RbrThr byte = refl
write_touches c Ier byte = refl
write_touches c IirFcr byte = refl
write_touches c Lcr byte = refl
write_touches c Mcr byte = refl
write_touches c Lsr byte = refl
write_touches c Msr byte = refl
write_touches c Scratch byte = refl
write_touches c Dll byte = refl
write_touches c Dlm byte = refl

effect_touches : (c : Channel) (e : SeatEvent) → (effect c e).channel ≡ mixed (by_event c e) (effect c e).channel c
unfolding effect after_arrival after_levels after_time pick
effect_touches c (Read n) = read_touches c (register_at (divisor_shown c) n)
effect_touches c (Write n byte) = write_touches c (register_at (divisor_shown c) n) byte
effect_touches c (Arrival marks byte) = refl
effect_touches c (Levels levels) = refl
effect_touches c Time = refl

-- the channel after an event, refused or not, has no part of its own but the touched ones
pub touches : (c : Channel) (e : SeatEvent) → (stepped c e).channel ≡ mixed (by_event c e) (stepped c e).channel c
unfolding stepped
touches c e =
    pick_either (λ (s : Stepped). s.channel ≡ mixed (by_event c e) s.channel c) (eqb (refusal c.settings e) 0) _ _ (effect_touches c e)
    (λ i. record {
      settings = sym (pick_same (by_event c e).settings c.settings) i;
      receiver = sym (pick_same (by_event c e).receiver c.receiver) i;
      transmitter = sym (pick_same (by_event c e).transmitter c.transmitter) i;
      modem = sym (pick_same (by_event c e).modem c.modem) i;
    })

-- where nothing may be touched, the whole channel is as it was: every read but those of RBR, IIR, LSR and MSR, and every write to LSR or MSR
pub untouched : (c : Channel) (e : SeatEvent) → by_event c e ≡ nothing → (stepped c e).channel ≡ c
unfolding pick
untouched c e none = touches c e ∙ ap (λ (t : Reached). mixed t (stepped c e).channel c) none
