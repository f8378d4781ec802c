-- Closed outputs: what they are is false under the slip of must-fail/.
use mathlib.Core.Path.{◌≡◌, refl}
use Rattle.base.specs.Pick.{pick}
use Rattle.base.specs.Bits.{bit, digit, bits}
use Rattle.c_bench.specs.Outputs.{outputs}

-- `output_bits`: OUT1 alone
outputs_of_out1 : outputs 0x04 ≡ 0x04
unfolding outputs bits bit digit pick
outputs_of_out1 = refl

-- `outputs_low`: RTS and OUT2
outputs_of_0_a : outputs 0x0A ≡ 0x0A
unfolding outputs bits bit digit pick
outputs_of_0_a = refl

-- `outputs_looped`: the same two, and loopback
outputs_of_1_a : outputs 0x1A ≡ 0x00
unfolding outputs bits bit digit pick
outputs_of_1_a = refl
