-- What IER and MCR keep of a byte, bit by bit.
use Rattle.std.specs.Prelude.{ℕ, ◌&&◌, ◌≡◌, ltb}
use Rattle.base.specs.Bits.{bit}
use Rattle.base.proofs.BitLaws.{bit_cut}
use Rattle.registers.specs.declared.Settings.{Settings}
use Rattle.registers.specs.declared.Register.TheVariants.{Ier, Mcr}
use Rattle.registers.specs.Registers.{kept}

-- "IER keeps its low 4 bits, MCR its low 5; the rest reads 0."
pub low_bits : (s : Settings) (byte k : ℕ)
    → (bit k (kept s Ier byte).ier ≡ (ltb k 4 && bit k byte)) × (bit k (kept s Mcr byte).mcr ≡ (ltb k 5 && bit k byte))
low_bits s byte k = (bit_cut k 4 byte, bit_cut k 5 byte)
