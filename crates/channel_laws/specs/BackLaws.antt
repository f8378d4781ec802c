-- What a register keeps of a byte: written and read back, through the register numbers.
use Rattle.std.specs.Prelude.{ℕ, ◌%◌, ◌^◌, Bool, true, false, ◌≡◌, eqb}
use Rattle.std.proofs.Math.Path.{refl, ap}
use Rattle.std.proofs.Common.{◌∙◌}
use Rattle.base.specs.Pick.{pick}
use Rattle.base.specs.PickLaws.{pick_same}
use Rattle.base.specs.Bits.{bit}
use Rattle.base.specs.declared.Answer.{Answer}
use Rattle.base.specs.declared.Answer.TheVariants.{Byte, Done}
use Rattle.channel.specs.declared.Channel.{Channel}
use Rattle.registers.specs.declared.Settings.{Settings}
use Rattle.registers.specs.declared.Register.{Register}
use Rattle.registers.specs.declared.Register.TheVariants.{RbrThr, Ier, IirFcr, Lcr, Mcr, Lsr, Msr, Scratch, Dll, Dlm}
use Rattle.registers.specs.declared.SeatEvent.TheVariants.{Read, Write}
use Rattle.channel.specs.Parts.{with_settings, divisor_shown}
use Rattle.registers.specs.Registers.{plain_register, register_at, fcr_kept, with_dll, with_dlm}
use Rattle.channel.specs.Effects.{ier_written, fcr_written, mcr_written, answer_at, after_read, after_write}
use Rattle.channel.specs.Steps.{effect, stepped}
use Rattle.registers.proofs.RefusalLaws.{accepts}
use Rattle.channel_laws.specs.RefusalLaws.{done}
use Rattle.channel_laws.specs.ReadLaws.{read_at}

-- ---- the settings after a write: one register has a new byte, and each other keeps its own

-- the registers in document 01's order, for telling one from another
abbrev pub ordinal : Register → ℕ
ordinal RbrThr = 0
ordinal Ier = 1
ordinal IirFcr = 2
ordinal Lcr = 3
ordinal Mcr = 4
ordinal Lsr = 5
ordinal Msr = 6
ordinal Scratch = 7
ordinal Dll = 8
ordinal Dlm = 9

-- the settings where a write to the register has put the bytes that each would keep
abbrev rewritten : Settings → Register → ℕ → Settings
rewritten s r byte =
    record {
      ier = pick (eqb (ordinal r) 1) (byte % 2 ^ 4) s.ier;
      fcr = pick (eqb (ordinal r) 2) (fcr_kept byte) s.fcr;
      lcr = pick (eqb (ordinal r) 3) byte s.lcr;
      mcr = pick (eqb (ordinal r) 4) (byte % 2 ^ 5) s.mcr;
      scratch = pick (eqb (ordinal r) 7) byte s.scratch;
      dll = pick (eqb (ordinal r) 8) byte s.dll;
      dlm = pick (eqb (ordinal r) 9) byte s.dlm;
    }

pub settings_after : (c : Channel) (r : Register) (byte : ℕ) → (after_write c r byte).settings ≡ rewritten c.settings r byte
unfolding after_write ier_written fcr_written mcr_written pick
settings_after c RbrThr byte = refl
settings_after c Ier byte = refl
settings_after c IirFcr byte = refl
settings_after c Lcr byte = refl
settings_after c Mcr byte = refl
settings_after c Lsr byte = refl
settings_after c Msr byte = refl
settings_after c Scratch byte = refl
settings_after c Dll byte = refl
settings_after c Dlm byte = refl

-- ---- by number

module _ (c : Channel) (n byte : ℕ) (r : Register) (served : accepts c.settings (Write n byte) ≡ true) (at : register_at (divisor_shown c) n ≡ r) where
  -- a write is done, and it reaches the register that LCR bit 7 says
  pub write_at : stepped c (Write n byte) ≡ record { channel = after_write c r byte; answer = Done }
  unfolding effect
  write_at = done c (Write n byte) served ∙ ap (λ (q : Register). record { channel = after_write c q byte; answer = Done }) at

  back : register_at (divisor_shown (after_write c r byte)) n ≡ r
      → (stepped (stepped c (Write n byte)).channel (Read n)).answer ≡ answer_at (after_write c r byte) r
  back still =
      ap (λ s. (stepped s.channel (Read n)).answer) write_at
      ∙ ap (λ s. s.answer) (read_at (after_write c r byte) n r served still)

abbrev read_back : Channel → ℕ → ℕ → Answer
read_back c n byte = (stepped (stepped c (Write n byte)).channel (Read n)).answer

module _ (c : Channel) (byte : ℕ) where
  -- in either state of LCR bit 7
  pub lcr_back : read_back c 3 byte ≡ Byte byte
  unfolding register_at plain_register pick after_write answer_at
  lcr_back = back c 3 byte Lcr refl (pick_same (divisor_shown c) Lcr) (pick_same (bit 7 byte) Lcr)

  pub mcr_back : read_back c 4 byte ≡ Byte (byte % 2 ^ 5)
  unfolding register_at plain_register pick after_write mcr_written answer_at
  mcr_back = back c 4 byte Mcr refl (pick_same (divisor_shown c) Mcr) (pick_same (divisor_shown c) Mcr)

  pub scratch_back : read_back c 7 byte ≡ Byte byte
  unfolding register_at plain_register pick after_write answer_at
  scratch_back = back c 7 byte Scratch refl (pick_same (divisor_shown c) Scratch) (pick_same (divisor_shown c) Scratch)

  -- with LCR bit 7 clear, register 1 is the IER
  pub ier_back : bit 7 c.settings.lcr ≡ false → read_back c 1 byte ≡ Byte (byte % 2 ^ 4)
  unfolding register_at plain_register pick after_write ier_written answer_at
  ier_back clear = let at = ap (λ (s : Bool). register_at s 1) clear in back c 1 byte Ier refl at at

-- a register of the settings: a write changes it alone, it reads back whole, and a read changes nothing
abbrev Reached : Channel → ℕ → ℕ → Settings → Type 0
Reached c n byte after =
    ((stepped c (Write n byte)).channel ≡ with_settings c after) × (read_back c n byte ≡ Byte byte) × ((stepped c (Read n)).channel ≡ c)

-- "With LCR bit 7 set, 0 and 1 are DLL and DLM, for reads and writes.": neither RBR, THR nor IER is reached by them
pub divisor_back : (c : Channel) (byte : ℕ) → bit 7 c.settings.lcr ≡ true
    → Reached c 0 byte (with_dll c.settings byte) × Reached c 1 byte (with_dlm c.settings byte)
unfolding register_at plain_register pick after_read after_write answer_at
divisor_back c byte set =
    let dll = ap (λ (s : Bool). register_at s 0) set in
    let dlm = ap (λ (s : Bool). register_at s 1) set in (
      (ap (λ s. s.channel) (write_at c 0 byte Dll refl dll), back c 0 byte Dll refl dll dll, ap (λ s. s.channel) (read_at c 0 Dll refl dll)),
      (ap (λ s. s.channel) (write_at c 1 byte Dlm refl dlm), back c 1 byte Dlm refl dlm dlm, ap (λ s. s.channel) (read_at c 1 Dlm refl dlm)),
    )
