-- What a read or a write is to the receive side, by the register's number: what holds of the few things that it can be holds of it.
use Rattle.std.specs.Prelude.{ℕ, Bool, true, false, not, ◌&&◌, ◌||◌, List, [], ◌∷◌, ◌≡◌, refl, eqb}
use Rattle.std.proofs.Math.Bool.{or-false}
use Rattle.std.proofs.Common.{ap, sym, subst, ◌∙◌, ⊎_elim, eqb-true}
use Rattle.std.proofs.lemmas.Bool.{not-true}
use Rattle.base.specs.Pick.{pick}
use Rattle.base.specs.PickLaws.{pick_true, pick_false, pick_same, pick_either, never, both_hold, neither, either_way}
use Rattle.base.specs.Bits.{bit}
use Rattle.receiver.specs.Ledger.{Moment, rbr, lsr, empties, changes}
use Rattle.registers.specs.declared.SeatEvent.TheVariants.{Read, Write}
use Rattle.registers.specs.declared.Register.{Register}
use Rattle.registers.specs.declared.Register.TheVariants.{IirFcr}
use Rattle.registers.specs.Registers.{plain_register, register_at}
use Rattle.channel.specs.declared.Channel.{Channel}
use Rattle.channel.specs.Parts.{divisor_shown}
use Rattle.channel.specs.Effects.{mode_changed}
use Rattle.channel.specs.Moments.{read_moments, fcr_moments, write_moments, accepted_moments}

-- ---- reads

-- register 0 with LCR bit 7 clear is RBR
pub rbr_read_lem : (c : Channel) (n : ℕ) → (eqb n 0 && not (divisor_shown c)) ≡ true → accepted_moments c (Read n) ≡ rbr ∷ []
unfolding accepted_moments read_moments register_at plain_register
rbr_read_lem c n at =
    let two = both_hold (eqb n 0) (not (divisor_shown c)) at in
    ap read_moments (pick_false _ _ _ (not-true _ two.1) ∙ pick_true _ _ _ two.0)

-- every other read is none of the receive side's, or one of LSR
pub other_read : (c : Channel) (n : ℕ) (P : List Moment → Type 0) → (eqb n 0 && not (divisor_shown c)) ≡ false → P [] → P (lsr ∷ []) → P (accepted_moments c (Read n))
unfolding accepted_moments read_moments register_at plain_register
other_read c n P other none seen =
    let fine : Register → Type 0 = λ (r : Register). P (read_moments r) in
    ⊎_elim
    (λ (at : eqb n 0 ≡ true).
    let shown : divisor_shown c ≡ true = not_false (divisor_shown c) (ap (λ (b : Bool). b && not (divisor_shown c)) (sym at) ∙ other) in
    subst fine (sym (pick_true _ _ _ shown ∙ pick_true _ _ _ at)) none)
    (λ (past : eqb n 0 ≡ false).
    let plain : fine (plain_register n)
    = subst fine (sym (pick_false _ _ _ past))
    (pick_either fine (eqb n 1) _ _ none (pick_either fine (eqb n 2) _ _ none (pick_either fine (eqb n 3) _ _ none
    (pick_either fine (eqb n 4) _ _ none (pick_either fine (eqb n 5) _ _ seen (pick_either fine (eqb n 6) _ _ none none)))))) in
    pick_either fine (divisor_shown c) _ _ (pick_either fine (eqb n 0) _ _ none (pick_either fine (eqb n 1) _ _ none plain)) plain)
    (either_way (eqb n 0))
  where
    not_false : (b : Bool) → not b ≡ false → b ≡ true
    not_false true e = refl
    not_false false e = absurd (never (sym e))

-- ---- writes

-- register 2 is the FCR in either state of LCR bit 7
fcr_at : (c : Channel) (n byte : ℕ) → eqb n 2 ≡ true → accepted_moments c (Write n byte) ≡ fcr_moments c byte
unfolding accepted_moments write_moments register_at plain_register pick
fcr_at c n byte at =
    ap (λ (k : ℕ). write_moments c (register_at (divisor_shown c) k) byte) (eqb-true n 2 at)
    ∙ ap (λ (r : Register). write_moments c r byte) (pick_same (divisor_shown c) IirFcr)

-- one that empties the queue changes the mode, or has bits 0 and 1 set
pub fcr_write : (c : Channel) (n byte : ℕ) (P : List Moment → Type 0) → (eqb n 2 && ((bit 0 byte && bit 1 byte) || mode_changed c byte)) ≡ true
    → P (changes ∷ []) → P (empties ∷ []) → P (accepted_moments c (Write n byte))
unfolding fcr_moments
fcr_write c n byte P asks changed emptied =
    let two = both_hold (eqb n 2) ((bit 0 byte && bit 1 byte) || mode_changed c byte) asks in
    subst P (sym (fcr_at c n byte two.0))
    (⊎_elim
    (λ (other : mode_changed c byte ≡ true). subst P (sym (pick_true _ _ _ other)) changed)
    (λ (same : mode_changed c byte ≡ false).
    let set : (bit 0 byte && bit 1 byte) ≡ true = sym (or-false _) ∙ ap (λ (b : Bool). (bit 0 byte && bit 1 byte) || b) (sym same) ∙ two.1 in
    subst P (sym (pick_false _ _ _ same ∙ pick_true _ _ _ set)) emptied)
    (either_way (mode_changed c byte)))

-- every other write is none of the receive side's
pub other_write : (c : Channel) (n byte : ℕ) (P : List Moment → Type 0) → (eqb n 2 && ((bit 0 byte && bit 1 byte) || mode_changed c byte)) ≡ false
    → P [] → P (accepted_moments c (Write n byte))
unfolding fcr_moments accepted_moments write_moments register_at plain_register
other_write c n byte P other none =
    let fine : Register → Type 0 = λ (r : Register). P (write_moments c r byte) in
    ⊎_elim
    (λ (at : eqb n 2 ≡ true).
    let two = neither (bit 0 byte && bit 1 byte) (mode_changed c byte) (ap (λ (b : Bool). b && ((bit 0 byte && bit 1 byte) || mode_changed c byte)) (sym at) ∙ other) in
    subst P (sym (fcr_at c n byte at ∙ pick_false _ _ _ two.1 ∙ pick_false _ _ _ two.0)) none)
    (λ (past : eqb n 2 ≡ false).
    let plain : fine (plain_register n)
    = pick_either fine (eqb n 0) _ _ none (pick_either fine (eqb n 1) _ _ none (subst fine (sym (pick_false _ _ _ past))
    (pick_either fine (eqb n 3) _ _ none (pick_either fine (eqb n 4) _ _ none (pick_either fine (eqb n 5) _ _ none (pick_either fine (eqb n 6) _ _ none none)))))) in
    pick_either fine (divisor_shown c) _ _ (pick_either fine (eqb n 0) _ _ none (pick_either fine (eqb n 1) _ _ none plain)) plain)
    (either_way (eqb n 2))
