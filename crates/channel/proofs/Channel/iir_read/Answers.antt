use Prim.Native.Nat.{ℕ, ◌%◌}
use mathlib.Core.Path.{◌≡◌, ap, ◌∙◌}
use lib.Dec.{eqb}
use Rattle.transmitter.specs.Transmitter.{iir_seen}
use Rattle.status.specs.StatusLaws.{iir_by_changes}
use Rattle.channel.specs.Parts.{with_transmitter}
use Rattle.channel.specs.Status.{msr, iir}
use Rattle.channel.specs.StatusLaws.{iir_cause}
use Rattle.channel.specs.Effects.{iir_read, answer_at, after_read}
use Rattle.channel.proofs.Told.{told}
use Rattle.channel.proofs.Channel.iir_read.Goals as goal

pub returns : goal.returns
unfolding after_read answer_at iir_read iir msr
returns c = let self = c.args.self in
    let byte : c.iir-byte.result ≡ iir self = c.iir-byte.ensures ∙ iir_by_changes _ _ _ _ _ in
    c.answered.ensures ∙ ap (λ t. told (with_transmitter self t) c.iir-byte.result) c.iir_read-self.ensures
    ∙ ap (λ (n : ℕ). told (with_transmitter self (iir_seen (eqb (n % 16) 0x02) self.transmitter)) n) byte
    ∙ ap (λ (n : ℕ). told (with_transmitter self (iir_seen (eqb n 0x02) self.transmitter)) (iir self)) (iir_cause self)
