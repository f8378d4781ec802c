use Rattle.std.specs.Prelude.{ℕ, ◌-◌, ◌^◌, ◌≡◌}
use Rattle.std.proofs.Common.{ap, ◌∙◌, arith}
use Rattle.std.proofs.lemmas.Nat.{and_mask}
use Rattle.std.specs.Int.Bits.{bit_and}
use Rattle.registers.specs.Words.{cut, word_bits}
use Rattle.registers.proofs.Settings.cut.Goals as goal

-- a mask that is one below a power of two keeps what division by the power leaves
pub returns : goal.returns
unfolding cut
returns c =
    let byte = c.args.byte in
    let bits = word_bits c.args.self.lcr in
    let mask : c.widest.result ≡ 2 ^ bits - 1 = omega (arith, c.widest.ensures) in
    ap (λ (m : ℕ). bit_and byte m) mask ∙ and_mask byte bits
