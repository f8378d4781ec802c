-- New modem levels and MCR writes, as two MSR reads show them: one that would come before, and one after.
use Rattle.std.specs.Prelude.{ℕ, ◌+◌, ◌<◌, Bool, true, false, not, ◌&&◌, ◌||◌, ◌≡◌, eqb}
use Rattle.std.proofs.Math.Bool.{xor}
use Rattle.std.proofs.Math.Path.{refl, ap}
use Rattle.std.proofs.Common.{ap₂, sym, ◌∙◌, ⊎_elim, arith, lt-ltb, ltb-true}
use Rattle.base.specs.Pick.{pick}
use Rattle.base.specs.PickLaws.{pick_same, pick_either, either_way, never}
use Rattle.base.specs.EveryLaws.{every_each}
use Rattle.base.specs.Bits.{bit}
use Rattle.base.proofs.BitLaws.{bit_cut}
use Rattle.registers.specs.declared.Register.{Register}
use Rattle.registers.specs.declared.Register.TheVariants.{RbrThr, Ier, IirFcr, Lcr, Mcr, Lsr, Msr, Scratch, Dll, Dlm}
use Rattle.registers.specs.Registers.{plain_register, register_at}
use Rattle.registers.specs.Modem.{changes_after}
use Rattle.registers.proofs.ModemLaws.{changed, rung}
use Rattle.channel.specs.declared.Modem.{Modem}
use Rattle.channel.specs.declared.Channel.{Channel}
use Rattle.channel.specs.declared.Stepped.{Stepped}
use Rattle.registers.specs.declared.SeatEvent.{SeatEvent}
use Rattle.registers.specs.declared.SeatEvent.TheVariants.{Read, Write, Arrival, Levels, Time}
use Rattle.registers.specs.Refusals.{refusal}
use Rattle.registers.proofs.RefusalLaws.{accepts}
use Rattle.channel.specs.Parts.{divisor_shown, in_loopback}
use Rattle.channel.specs.Status.{msr, inputs}
use Rattle.channel.specs.StatusLaws.{ShowsOutputs, msr_changes, msr_inputs, msr_levels, msr_looped}
use Rattle.channel.specs.Effects.{iir_read, lsr_read, msr_read, after_read, ier_written, fcr_written, noticed, mcr_written, after_write, after_arrival, after_time}
use Rattle.channel.specs.Steps.{effect, stepped}
use Rattle.channel_laws.specs.RefusalLaws.{refused}
use Rattle.channel_laws.specs.WireLaws.{levels_taken}
use Rattle.channel_laws.specs.AccessLaws.{by_read, by_write, by_event, touches}
use Rattle.channel_laws.specs.FlagLaws.{alike}
use Rattle.channel_laws.specs.BackLaws.{write_at}
use Rattle.channel_laws.specs.AgainLaws.{shows_msr}
use Rattle.channel_laws.specs.Shown.{shown, after}

-- two bytes of MSR, one before and one after
pub record Noticed (before now : ℕ) : Type 0 where
  -- "bits 0, 1, 3 set when CTS, DSR, DCD change", which bits 4, 5 and 7 show; one that stood stands
  pub change_shows : (k : ℕ) → k < 4 → eqb k 2 ≡ false → bit k now ≡ (bit k before || xor (bit (4 + k) before) (bit (4 + k) now))
  -- "bit 2 when RI goes from active to inactive", which bit 6 shows; one that stood stands
  pub ring_shows : bit 2 now ≡ (bit 2 before || (bit 6 before && not (bit 6 now)))

shows_change : (c : Channel) (k : ℕ) → k < 4 → bit k (shown c 6) ≡ bit k c.modem.changes
shows_change c k less = ap (bit k) (shows_msr c) ∙ msr_changes c k less

shows_input : (c : Channel) (k : ℕ) → k < 4 → bit (4 + k) (shown c 6) ≡ bit k (inputs c)
shows_input c k less = ap (bit (4 + k)) (shows_msr c) ∙ msr_inputs c k less

notices : (c d : Channel) → d.modem.changes ≡ changes_after c.modem.changes (inputs c) (inputs d) → Noticed (shown c 6) (shown d 6)
notices c d moves =
    record {
      change_shows = λ k less line.
          shows_change d k less ∙ ap (bit k) moves ∙ changed c.modem.changes (inputs c) (inputs d) k less line
          ∙ ap₂ ◌||◌ (sym (shows_change c k less)) (ap₂ xor (sym (shows_input c k less)) (sym (shows_input d k less)));
      ring_shows =
          shows_change d 2 (omega arith) ∙ ap (bit 2) moves ∙ rung c.modem.changes (inputs c) (inputs d)
          ∙ ap₂ (λ (x y : Bool). x || y) (sym (shows_change c 2 (omega arith)))
          (ap₂ (λ (x y : Bool). x && not y) (sym (shows_input c 2 (omega arith))) (sym (shows_input d 2 (omega arith))));
    }

-- ---- new levels

module _ (c : Channel) (levels : ℕ) (small : levels < 16) where
  abbrev given : Channel
  given = after c (Levels levels)

  -- in loopback and outside it
  pub levels_noticed : Noticed (shown c 6) (shown given 6)
  levels_noticed =
      let did = levels_taken c levels small in
      notices c given
      (ap (λ (s : Stepped). s.channel.modem.changes) did
      ∙ ap (λ (s : Stepped). changes_after c.modem.changes (inputs c) (inputs s.channel)) (sym did))

  -- outside it, "bits 4-7 CTS, DSR, RI, DCD": "levels (1 CTS, 2 DSR, 4 RI, 8 DCD; set = active)"
  pub levels_show : in_loopback c ≡ false → (k : ℕ) → k < 4 → bit (4 + k) (shown given 6) ≡ bit k levels
  levels_show outside k less =
      let did = levels_taken c levels small in
      ap (bit (4 + k)) (shows_msr given)
      ∙ msr_levels given (ap (λ (s : Stepped). in_loopback s.channel) did ∙ outside) k less
      ∙ ap (λ (s : Stepped). bit k s.channel.modem.levels) did

-- ---- MCR writes

module _ (c : Channel) (byte : ℕ) where
  abbrev rewired : Channel
  rewired = after c (Write 4 byte)

  -- MCR is register 4 in either state of LCR bit 7
  wired : rewired ≡ mcr_written c byte
  unfolding register_at plain_register pick after_write
  wired = ap (λ (s : Stepped). s.channel) (write_at c 4 byte Mcr refl (pick_same (divisor_shown c) Mcr))

  looped_by : in_loopback rewired ≡ bit 4 byte
  unfolding mcr_written
  looped_by = ap (λ (d : Channel). in_loopback d) wired ∙ bit_cut 4 5 byte

  -- ticket 7: "change bits as for real inputs, also where a write of MCR enters or leaves": any write of it
  pub mcr_noticed : Noticed (shown c 6) (shown rewired 6)
  unfolding mcr_written noticed
  mcr_noticed =
      notices c rewired
      (ap (λ (d : Channel). d.modem.changes) wired
      ∙ ap (λ (d : Channel). changes_after c.modem.changes (inputs c) (inputs d)) (sym wired))

  -- and it leaves the levels last given, which MSR bits 4 to 7 show where the byte has bit 4 clear
  pub mcr_levels : bit 4 byte ≡ false → (k : ℕ) → k < 4 → bit (4 + k) (shown rewired 6) ≡ bit k c.modem.levels
  unfolding mcr_written noticed
  mcr_levels clear k less =
      ap (bit (4 + k)) (shows_msr rewired) ∙ msr_levels rewired (looped_by ∙ clear) k less ∙ ap (λ (d : Channel). bit k d.modem.levels) wired

  -- ticket 7: "DTR, RTS, OUT1 and OUT2 feed DSR, CTS, RI and DCD": where it has bit 4 set, MSR shows the byte's own bits
  pub mcr_feeds : bit 4 byte ≡ true → ShowsOutputs byte (shown rewired 6)
  unfolding mcr_written
  mcr_feeds set =
      let fed = msr_looped rewired (looped_by ∙ set) in
      let shows : (k : ℕ) → bit k (shown rewired 6) ≡ bit k (msr rewired) = λ k. ap (bit k) (shows_msr rewired) in
      let keeps : (k : ℕ) → k < 5 → bit k rewired.settings.mcr ≡ bit k byte
      = λ k less. ap (λ (d : Channel). bit k d.settings.mcr) wired ∙ bit_cut k 5 byte ∙ ap (λ (b : Bool). b && bit k byte) (lt-ltb k 5 less) in
      record {
        bit_4_is_rts = shows 4 ∙ fed.bit_4_is_rts ∙ keeps 1 (omega arith);
        bit_5_is_dtr = shows 5 ∙ fed.bit_5_is_dtr ∙ keeps 0 (omega arith);
        bit_6_is_out1 = shows 6 ∙ fed.bit_6_is_out1 ∙ keeps 2 (omega arith);
        bit_7_is_out2 = shows 7 ∙ fed.bit_7_is_out2 ∙ keeps 3 (omega arith);
      }

-- ---- and nowhere else

-- what may reach changes and levels: modem inputs, a read of MSR, register 6, and a write of MCR, register 4
abbrev pub moves_modem : SeatEvent → Bool
moves_modem (Read n) = eqb n 6
moves_modem (Write n byte) = eqb n 4
moves_modem (Arrival marks byte) = false
moves_modem (Levels levels) = true
moves_modem Time = false

-- the two registers have these numbers in either state of LCR bit 7
read_reaches : (s : Bool) (n : ℕ) → n < 8 → (by_read (register_at s n)).modem ≡ eqb n 6
unfolding register_at plain_register pick xor
read_reaches true n less = alike _ _ (every_each 8 (λ (m : ℕ). not (xor (by_read (register_at true m)).modem (eqb m 6))) refl n less)
read_reaches false n less = alike _ _ (every_each 8 (λ (m : ℕ). not (xor (by_read (register_at false m)).modem (eqb m 6))) refl n less)

write_reaches : (s : Bool) (n : ℕ) → n < 8 → (by_write (register_at s n)).modem ≡ eqb n 4
unfolding register_at plain_register pick xor
write_reaches true n less = alike _ _ (every_each 8 (λ (m : ℕ). not (xor (by_write (register_at true m)).modem (eqb m 4))) refl n less)
write_reaches false n less = alike _ _ (every_each 8 (λ (m : ℕ). not (xor (by_write (register_at false m)).modem (eqb m 4))) refl n less)

not_reached : (c : Channel) (e : SeatEvent) → accepts c.settings e ≡ true → moves_modem e ≡ false → (by_event c e).modem ≡ false
not_reached c (Read n) served none = read_reaches (divisor_shown c) n (ltb-true n 8 served) ∙ none
not_reached c (Write n byte) served none = write_reaches (divisor_shown c) n (ltb-true n 8 served) ∙ none
not_reached c (Arrival marks byte) served none = refl
not_reached c (Levels levels) served none = absurd (never (sym none))
not_reached c Time served none = refl

-- anything else, refused or not, leaves both
pub modem_stays : (c : Channel) (e : SeatEvent) → moves_modem e ≡ false → (after c e).modem ≡ c.modem
unfolding pick
modem_stays c e none =
    ⊎_elim
    (λ (served : accepts c.settings e ≡ true).
    ap (λ (d : Channel). d.modem) (touches c e) ∙ ap (λ (b : Bool). pick b (after c e).modem c.modem) (not_reached c e served none))
    (λ (wrong : accepts c.settings e ≡ false). ap (λ (s : Stepped). s.channel.modem) (refused c e wrong))
    (either_way (accepts c.settings e))

-- so after it MSR shows the changes that stood
pub changes_stay : (c : Channel) (e : SeatEvent) → moves_modem e ≡ false → (k : ℕ) → k < 4 → bit k (shown (after c e) 6) ≡ bit k (shown c 6)
changes_stay c e none k less =
    shows_change (after c e) k less ∙ ap (λ (m : Modem). bit k m.changes) (modem_stays c e none) ∙ sym (shows_change c k less)

-- ---- the levels last given

-- "modem inputs"
abbrev pub gives_levels : SeatEvent → Bool
gives_levels (Read n) = false
gives_levels (Write n byte) = false
gives_levels (Arrival marks byte) = false
gives_levels (Levels levels) = true
gives_levels Time = false

abbrev Remembers : Channel → Channel → Type 0
Remembers c d = d.modem.levels ≡ c.modem.levels

read_remembers : (c : Channel) (r : Register) → Remembers c (after_read c r)
unfolding after_read iir_read lsr_read msr_read
read_remembers c RbrThr = refl
read_remembers c Ier = refl
read_remembers c IirFcr = refl
read_remembers c Lcr = refl
read_remembers c Mcr = refl
read_remembers c Lsr = refl
read_remembers c Msr = refl
read_remembers c Scratch = refl
read_remembers c Dll = refl
read_remembers c Dlm = refl

write_remembers : (c : Channel) (r : Register) (byte : ℕ) → Remembers c (after_write c r byte)
unfolding after_write ier_written fcr_written mcr_written noticed
write_remembers c RbrThr byte = refl
write_remembers c Ier byte = refl
write_remembers c IirFcr byte = refl
write_remembers c Lcr byte = refl
write_remembers c Mcr byte = refl
write_remembers c Lsr byte = refl
write_remembers c Msr byte = refl
write_remembers c Scratch byte = refl
write_remembers c Dll byte = refl
write_remembers c Dlm byte = refl

effect_remembers : (c : Channel) (e : SeatEvent) → gives_levels e ≡ false → Remembers c (effect c e).channel
unfolding effect after_arrival after_time
effect_remembers c (Read n) none = read_remembers c (register_at (divisor_shown c) n)
effect_remembers c (Write n byte) none = write_remembers c (register_at (divisor_shown c) n) byte
effect_remembers c (Arrival marks byte) none = refl
effect_remembers c (Levels levels) none = absurd (never (sym none))
effect_remembers c Time none = refl

-- whatever is read, written, arrives or is sent, in loopback or not: no other event than new levels moves them
pub levels_stay : (c : Channel) (e : SeatEvent) → gives_levels e ≡ false → (after c e).modem.levels ≡ c.modem.levels
unfolding stepped
levels_stay c e none =
    pick_either (λ (s : Stepped). Remembers c s.channel) (eqb (refusal c.settings e) 0) _ _ (effect_remembers c e none) refl
