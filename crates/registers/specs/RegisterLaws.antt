-- Which register each number names, written out; and what it is to have no divisor.
use Rattle.std.specs.Prelude.{ℕ, zero, suc, ◌+◌, ◌*◌, Bool, true, false, ◌&&◌, [], ◌∷◌, ◌≡◌, refl, eqb}
use Rattle.std.proofs.Common.{ap, sym, ◌∙◌, arith, ne_eqb}
use Rattle.base.specs.Pick.{pick}
use Rattle.base.specs.ListLaws.{listed}
use Rattle.registers.specs.declared.Settings.{Settings}
use Rattle.registers.specs.declared.Register.TheVariants.{RbrThr, Ier, IirFcr, Lcr, Mcr, Lsr, Msr, Scratch, Dll, Dlm}
use Rattle.registers.specs.Registers.{plain_register, register_at, divisor}

-- "0 RBR/THR, 1 IER, 2 IIR read and FCR write, 3 LCR, 4 MCR, 5 LSR, 6 MSR, 7 scratch"
pub plain_registers : listed 8 (register_at false) ≡ RbrThr ∷ Ier ∷ IirFcr ∷ Lcr ∷ Mcr ∷ Lsr ∷ Msr ∷ Scratch ∷ []
unfolding register_at plain_register pick
plain_registers = refl

-- "With LCR bit 7 set, 0 and 1 are DLL and DLM", and the others stay
pub divisor_registers : listed 8 (register_at true) ≡ Dll ∷ Dlm ∷ IirFcr ∷ Lcr ∷ Mcr ∷ Lsr ∷ Msr ∷ Scratch ∷ []
unfolding register_at plain_register pick
divisor_registers = refl

none_of_both : (a b : ℕ) → eqb (a + 256 * b) 0 ≡ (eqb a 0 && eqb b 0)
none_of_both zero zero = refl
none_of_both zero (suc b) =
    ne_eqb _ _ (λ (e : 0 + 256 * suc b ≡ 0). omega arith) ∙ sym (ne_eqb (suc b) 0 (λ (e : suc b ≡ 0). omega arith))
none_of_both (suc a) b =
    ne_eqb _ _ (λ (e : suc a + 256 * b ≡ 0). omega arith)
    ∙ sym (ap (λ (none : Bool). none && eqb b 0) (ne_eqb (suc a) 0 (λ (e : suc a ≡ 0). omega arith)))

-- "while the divisor is 0": neither DLL nor DLM holds anything
pub divisor_none : (s : Settings) → eqb (divisor s) 0 ≡ (eqb s.dll 0 && eqb s.dlm 0)
divisor_none s = none_of_both s.dll s.dlm
