-- Power-up, as reads show it; and master reset, which is power-up with divisor, scratch, modem levels and last byte read kept.
use Rattle.std.specs.Prelude.{ℕ, ◌+◌, ◌<◌, false, List, [], ◌∷◌, ◌≡◌}
use Rattle.std.proofs.Math.Path.{refl}
use Rattle.std.proofs.Common.{◌∙◌, pow_pos}
use Rattle.base.specs.Pick.{pick}
use Rattle.base.specs.Bits.{bit, digit, bits}
use Rattle.base.proofs.BitLaws.{bit_past}
use Rattle.base.specs.ListLaws.{listed}
use Rattle.base.specs.Answers.{value_of}
use Rattle.base.specs.Refusals.{first_of, refusal_by}
use Rattle.receiver.specs.Receiver.{restarted, none_queued, got, shown_marks, some_marked}
use Rattle.transmitter.specs.Transmitter.{none_waiting, all_sent}
use Rattle.registers.specs.Modem.{msr_of}
use Rattle.registers.specs.Loopback.{inputs_of}
use Rattle.registers.specs.Registers.{plain_register, register_at}
use Rattle.channel.specs.declared.Channel.{Channel}
use Rattle.registers.specs.declared.SeatEvent.TheVariants.{Write}
use Rattle.channel.specs.Parts.{power_up, master_reset}
use Rattle.status.specs.Status.{lsr_of, causes, first_cause, cause_of, iir_of, line_of}
use Rattle.channel.specs.Status.{lsr, msr, iir, line}
use Rattle.channel.specs.StatusLaws.{msr_changes, msr_levels}
use Rattle.channel.specs.Effects.{answer_at, after_write}
use Rattle.registers.specs.Refusals.{grounds, refusal}
use Rattle.channel.specs.Steps.{effect, stepped}
use Rattle.channel_laws.specs.Shown.{shown, after}

-- power-up with the things that a reset keeps
abbrev pub powered_with : (dll dlm scratch levels last : ℕ) → Channel
powered_with dll dlm scratch levels last =
    record {
      settings =
          record {
            ier = power_up.settings.ier;
            fcr = power_up.settings.fcr;
            lcr = power_up.settings.lcr;
            mcr = power_up.settings.mcr;
            scratch = scratch;
            dll = dll;
            dlm = dlm;
          };
      receiver =
          record {
            queue = power_up.receiver.queue;
            overrun = power_up.receiver.overrun;
            kept = power_up.receiver.kept;
            timeout = power_up.receiver.timeout;
            last = last;
          };
      transmitter = power_up.transmitter;
      modem = record { levels = levels; changes = power_up.modem.changes };
    }

-- nothing else of the channel before is left
pub reset_is_power_up : (c : Channel)
    → master_reset c ≡ powered_with c.settings.dll c.settings.dlm c.settings.scratch c.modem.levels c.receiver.last
unfolding master_reset restarted
reset_is_power_up c = refl

-- at power-up it changes nothing
pub reset_at_power_up : master_reset power_up ≡ power_up
unfolding master_reset restarted
reset_at_power_up = refl

no_loop : bit 4 0 ≡ false
unfolding bit
no_loop = refl

module _ (c : Channel) where
  -- after it LSR is 60 and IIR is 01, as at power-up, and the line is low
  pub reset_lsr : lsr (master_reset c) ≡ 0x60
  unfolding master_reset restarted lsr lsr_of bit bits digit pick none_queued shown_marks some_marked none_waiting all_sent
  reset_lsr = refl

  pub reset_iir : iir (master_reset c) ≡ 0x01
  unfolding master_reset iir iir_of cause_of causes first_cause bit pick
  reset_iir = refl

  pub reset_line : line (master_reset c) ≡ false
  unfolding master_reset line line_of cause_of causes first_cause bit pick
  reset_line = refl

  -- MSR bits 0 to 3 are 0. Ticket 7: "a master reset sets none", though it leaves loopback and the inputs may be others then
  pub reset_changes : (k : ℕ) → k < 4 → bit k (msr (master_reset c)) ≡ false
  unfolding master_reset
  reset_changes k less = msr_changes (master_reset c) k less ∙ bit_past k 0 (pow_pos k)

  -- and bits 4 to 7 are the levels last given, in loopback too, which it leaves
  pub reset_levels : (k : ℕ) → k < 4 → bit (4 + k) (msr (master_reset c)) ≡ bit k c.modem.levels
  unfolding master_reset
  reset_levels k less = msr_levels (master_reset c) no_loop k less

-- ---- as reads show it, register by register

-- "Power-up: all registers, divisor, scratch, modem inputs, flags, marks and counts 0, queues and shift register empty.": LSR shows the empty
-- queues, IIR that there is no cause
pub power_up_reads : listed 8 (shown power_up) ≡ 0x00 ∷ 0x00 ∷ 0x01 ∷ 0x00 ∷ 0x00 ∷ 0x60 ∷ 0x00 ∷ 0x00 ∷ []
unfolding stepped effect refusal grounds refusal_by first_of
    register_at plain_register pick bit digit bits value_of answer_at after_write got iir iir_of cause_of causes first_cause lsr lsr_of msr msr_of inputs_of
    none_queued shown_marks some_marked none_waiting all_sent
power_up_reads = refl

-- and what no read shows then is 0 too: the holding-empty flag, the shift register and its byte, kept marks and the time-out count
pub power_up_hidden : digit power_up.transmitter.flag ∷ digit power_up.transmitter.busy ∷ power_up.transmitter.shift ∷ power_up.receiver.kept
    ∷ power_up.receiver.timeout ∷ []
    ≡ 0 ∷ 0 ∷ 0 ∷ 0 ∷ 0 ∷ []
unfolding digit pick
power_up_hidden = refl

-- registers 0 and 1 with LCR bit 7 set: the divisor
abbrev pub divisor_reads : Channel → List ℕ
divisor_reads c = listed 2 (shown (after c (Write 3 0x80)))

pub power_up_divisor : divisor_reads power_up ≡ 0x00 ∷ 0x00 ∷ []
unfolding stepped effect refusal grounds refusal_by first_of
    register_at plain_register pick bit digit bits value_of answer_at after_write got iir iir_of cause_of causes first_cause lsr lsr_of msr msr_of inputs_of
    none_queued shown_marks some_marked none_waiting all_sent
power_up_divisor = refl

-- after a master reset RBR gives the last byte read; IER, LCR and MCR are 0; IIR is 01, LSR 60
pub reset_reads : (c : Channel)
    → (listed 6 (shown (master_reset c)) ≡ c.receiver.last ∷ 0x00 ∷ 0x01 ∷ 0x00 ∷ 0x00 ∷ 0x60 ∷ [])
    × (shown (master_reset c) 7 ≡ c.settings.scratch) × (divisor_reads (master_reset c) ≡ c.settings.dll ∷ c.settings.dlm ∷ [])
unfolding master_reset restarted stepped effect refusal grounds refusal_by first_of
    register_at plain_register pick bit digit bits value_of answer_at after_write got iir iir_of cause_of causes first_cause lsr lsr_of msr msr_of inputs_of
    none_queued shown_marks some_marked none_waiting all_sent
reset_reads c = (refl, refl, refl)
