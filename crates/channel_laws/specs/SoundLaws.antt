-- What soundness of a channel says, part by part; power-up has it, and master reset keeps it.
use Rattle.std.specs.Prelude.{ℕ, ◌<◌, true, ◌≡◌, refl, ltb, eqb}
use Rattle.std.proofs.Common.{arith, lt-ltb, eq-eqb, ltb-true, eqb-true}
use Rattle.base.specs.Pick.{pick}
use Rattle.base.specs.PickLaws.{both_hold}
use Rattle.base.specs.Bits.{bit}
use Rattle.receiver.specs.declared.Receiver.{Receiver}
use Rattle.receiver.specs.Sound.{sound_receiver}
use Rattle.receiver.proofs.SoundLaws as heard
use Rattle.transmitter.specs.declared.Transmitter.{Transmitter}
use Rattle.transmitter.specs.Sound.{sound_transmitter}
use Rattle.transmitter.specs.SoundLaws as sending
use Rattle.channel.specs.declared.Channel.{Channel}
use Rattle.channel.specs.declared.Modem.{Modem}
use Rattle.channel.specs.Parts.{power_up, master_reset, with_settings, with_receiver, with_transmitter, with_modem, fifo}
use Rattle.registers.specs.Registers.{fcr_kept}
use Rattle.channel.specs.Sound.{sound_channel}

-- the parts of soundness, each as a fact
pub record Sound (c : Channel) : Type 0 where
  pub enables : c.settings.ier < 16
  pub modes : fcr_kept c.settings.fcr ≡ c.settings.fcr
  pub outputs : c.settings.mcr < 32
  pub levels : c.modem.levels < 16
  pub changes : c.modem.changes < 16
  pub receiver : sound_receiver (fifo c) c.receiver ≡ true
  pub transmitter : sound_transmitter (fifo c) c.transmitter ≡ true

pub parts : (c : Channel) → sound_channel c ≡ true → Sound c
unfolding sound_channel
parts c sound =
    let seven = both_hold _ (sound_transmitter (fifo c) c.transmitter) sound in
    let six = both_hold _ (sound_receiver (fifo c) c.receiver) seven.0 in
    let five = both_hold _ (ltb c.modem.changes 16) six.0 in
    let four = both_hold _ (ltb c.modem.levels 16) five.0 in
    let three = both_hold _ (ltb c.settings.mcr 32) four.0 in
    let two = both_hold (ltb c.settings.ier 16) (eqb (fcr_kept c.settings.fcr) c.settings.fcr) three.0 in
    record {
      enables = ltb-true _ _ two.0;
      modes = eqb-true _ _ two.1;
      outputs = ltb-true _ _ three.1;
      levels = ltb-true _ _ four.1;
      changes = ltb-true _ _ five.1;
      receiver = six.1;
      transmitter = seven.1;
    }

pub whole : (c : Channel) → Sound c → sound_channel c ≡ true
unfolding sound_channel
whole c s =
    rw (
      lt-ltb _ _ s.enables,
      eq-eqb _ _ s.modes,
      lt-ltb _ _ s.outputs,
      lt-ltb _ _ s.levels,
      lt-ltb _ _ s.changes,
      s.receiver,
      s.transmitter,
    )

-- ---- power-up and reset

pub power_up_sound : sound_channel power_up ≡ true
unfolding fcr_kept bit pick
power_up_sound =
    whole power_up
    (record {
      enables = omega arith;
      modes = refl;
      outputs = omega arith;
      levels = omega arith;
      changes = omega arith;
      receiver = heard.power_up_sound (fifo power_up);
      transmitter = sending.power_up_sound (fifo power_up);
    })

pub reset_sound : (c : Channel) → sound_channel c ≡ true → sound_channel (master_reset c) ≡ true
unfolding master_reset fcr_kept bit pick
reset_sound c sound =
    whole (master_reset c)
    (record {
      enables = omega arith;
      modes = refl;
      outputs = omega arith;
      levels = (parts c sound).levels;
      changes = omega arith;
      receiver = heard.restart_sound (fifo (master_reset c)) c.receiver;
      transmitter = sending.power_up_sound (fifo (master_reset c));
    })

-- ---- one part changed

pub with_receiver_lem : (c : Channel) (r : Receiver) → Sound c → sound_receiver (fifo c) r ≡ true → Sound (with_receiver c r)
with_receiver_lem c r s sound =
    record {
      enables = s.enables;
      modes = s.modes;
      outputs = s.outputs;
      levels = s.levels;
      changes = s.changes;
      receiver = sound;
      transmitter = s.transmitter;
    }

pub with_transmitter_lem : (c : Channel) (t : Transmitter) → Sound c → sound_transmitter (fifo c) t ≡ true → Sound (with_transmitter c t)
with_transmitter_lem c t s sound =
    record {
      enables = s.enables;
      modes = s.modes;
      outputs = s.outputs;
      levels = s.levels;
      changes = s.changes;
      receiver = s.receiver;
      transmitter = sound;
    }

pub with_modem_lem : (c : Channel) (m : Modem) → Sound c → m.levels < 16 → m.changes < 16 → Sound (with_modem c m)
with_modem_lem c m s small few =
    record {
      enables = s.enables;
      modes = s.modes;
      outputs = s.outputs;
      levels = small;
      changes = few;
      receiver = s.receiver;
      transmitter = s.transmitter;
    }

-- the registers whose bits are all free
pub with_settings_lem : (c : Channel) (lcr scratch dll dlm : ℕ) → Sound c
    → Sound (with_settings c (record { ier = c.settings.ier; fcr = c.settings.fcr; lcr = lcr; mcr = c.settings.mcr; scratch = scratch; dll = dll; dlm = dlm }))
with_settings_lem c lcr scratch dll dlm s =
    record {
      enables = s.enables;
      modes = s.modes;
      outputs = s.outputs;
      levels = s.levels;
      changes = s.changes;
      receiver = s.receiver;
      transmitter = s.transmitter;
    }
