-- A byte cut to the word length, bit by bit; and the bytes that fit it.
use Rattle.std.specs.Prelude.{ℕ, ◌+◌, ◌%◌, ◌^◌, ◌<◌, ◌≤◌, true, false, not, ◌&&◌, ◌≡◌, ltb, leb, eqb}
use Rattle.std.proofs.Common.{ap, sym, ◌∙◌, ⊎_elim, mod-lt, mod-eq_of_lt, arith, pow_pos, leb-true, leb-false, eq-eqb, ne_eqb}
use Rattle.base.specs.PickLaws.{either_way}
use Rattle.base.specs.Bits.{bit}
use Rattle.base.proofs.BitLaws.{bit_cut}
use Rattle.registers.specs.Words.{word_bits, cut, beyond_word}

-- "cut to the word length", of 5 to 8 bits: the lower bits are the byte's, the others clear
pub cut_bit : (lcr byte k : ℕ) → bit k (cut lcr byte) ≡ (ltb k (5 + lcr % 4) && bit k byte)
unfolding cut
cut_bit lcr byte k = bit_cut k (5 + lcr % 4) byte

-- ticket 4: "data beyond the word length": what a cut to it would change
pub beyond_cut : (lcr byte : ℕ) → beyond_word lcr byte ≡ not (eqb (cut lcr byte) byte)
unfolding cut
beyond_cut lcr byte =
    let most = 2 ^ word_bits lcr in
    ⊎_elim
    (λ (e : leb most byte ≡ true).
    let past : most ≤ byte = leb-true most byte e in
    let less : byte % most < most = mod-lt byte (pow_pos (word_bits lcr)) in
    e ∙ sym (ap not (ne_eqb (byte % most) byte (λ (same : byte % most ≡ byte). omega arith))))
    (λ (e : leb most byte ≡ false). e ∙ sym (ap not (eq-eqb (byte % most) byte (mod-eq_of_lt (leb-false most byte e)))))
    (either_way (leb most byte))
