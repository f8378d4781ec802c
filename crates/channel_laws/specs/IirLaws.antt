-- What a read of the IIR clears: the holding-empty flag, and only where it was named.
use Rattle.std.specs.Prelude.{ℕ, Bool, true, false, not, ◌&&◌, ◌≡◌, refl, eqb}
use Rattle.std.proofs.Common.{ap, ◌∙◌}
use Rattle.base.specs.Pick.{pick}
use Rattle.base.specs.PickLaws.{pick_false}
use Rattle.base.specs.Bits.{bit}
use Rattle.transmitter.specs.Transmitter.{none_waiting, all_sent}
use Rattle.transmitter.specs.RegisterLaws.{iir_clears_flag}
use Rattle.channel.specs.declared.Channel.{Channel}
use Rattle.channel.specs.Parts.{with_transmitter}
use Rattle.registers.specs.Modem.{some_change}
use Rattle.status.specs.Status.{lsr_of, line_trouble, causes, first_cause, cause_of}
use Rattle.channel.specs.Status.{lsr, msr, cause}
use Rattle.channel.specs.Effects.{iir_read}
use Rattle.channel_laws.specs.CauseLaws.{moved}

-- the channel with another holding-empty flag
abbrev pub flagged : Channel → Bool → Channel
flagged c flag =
    with_transmitter c
    (record { queue = c.transmitter.queue; busy = c.transmitter.busy; shift = c.transmitter.shift; flag = flag })

-- an IIR read changes nothing but the flag, and that only if 02 was named
pub iir_clears : (c : Channel) → iir_read c ≡ flagged c (c.transmitter.flag && not (eqb (cause c) 0x02))
unfolding iir_read
iir_clears c = ap (with_transmitter c) (iir_clears_flag (eqb (cause c) 0x02) c.transmitter)

-- any other code leaves the whole channel as it is
pub iir_leaves : (c : Channel) → eqb (cause c) 0x02 ≡ false → iir_read c ≡ c
unfolding iir_read
iir_leaves c other = ap (with_transmitter c) (pick_false _ _ _ other)

-- the five tests with the flag cleared where it was named
abbrev code : Bool → Bool → Bool → Bool → Bool → ℕ
code a b c d e = pick a 0x06 (pick b 0x04 (pick c 0x0C (pick d 0x02 (pick e 0x00 0x01))))

then : (a b c i f e : Bool)
    → code a b c (i && (f && not (eqb (code a b c (i && f) e) 0x02))) e ≡ pick (eqb (code a b c (i && f) e) 0x02) (pick e 0x00 0x01) (code a b c (i && f) e)
unfolding pick
then true b c i f e = refl
then false true c i f e = refl
then false false true i f e = refl
then false false false true true e = refl
then false false false true false true = refl
then false false false true false false = refl
then false false false false f true = refl
then false false false false f false = refl

-- a second IIR read names what the first did; but after 02, the modem or nothing
pub iir_again : (c : Channel) → cause (iir_read c) ≡ pick (eqb (cause c) 0x02) (pick (moved c) 0x00 0x01) (cause c)
unfolding cause cause_of causes first_cause line_trouble some_change lsr lsr_of msr none_waiting all_sent
iir_again c = ap cause (iir_clears c) ∙ then _ _ _ (bit 1 c.settings.ier) c.transmitter.flag (moved c)
