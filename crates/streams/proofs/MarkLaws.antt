-- What the contracts of the digest require: a mark tells all that it is made of, and no number is added unseen.
use Rattle.std.proofs.Common.{◌≡◌, ℕ, ◌+◌, ◌-◌, ◌*◌, ◌/◌, ◌%◌, ◌<◌, Bool, false, ◌∙◌, arith}
use Rattle.base.specs.Bits.{digit}
use Rattle.base.proofs.BitLaws.{digit_le}
use Rattle.base.specs.Pick.{pick}
use Rattle.base.specs.PickLaws.{pick_false}
use Rattle.base.specs.Answers.{refusal_of, value_of, figures_of, is_letter}
use Rattle.base.specs.declared.Answer.{Answer}
use Rattle.base.specs.declared.Answer.TheVariants.{Letter}
use Rattle.base.specs.declared.Figures.{Figures}
use Rattle.streams.proofs.digest.add.Reads as added
use Rattle.streams.proofs.digest.letter_mark.Reads as letter
use Rattle.streams.proofs.digest.outcome_mark.Reads as outcome
use Rattle.streams.proofs.digest.place_mark.Reads as place

-- refusal, answer and output are read back from the mark of an outcome
pub outcome_told : (κ e : _) (answer : Answer) (output : Bool) (r : ℕ) → outcome.Post κ (answer, (output, tt)) r e → value_of answer < 4096
    → (r / 8192 ≡ refusal_of answer) × (r / 2 % 4096 ≡ value_of answer) × (r % 2 ≡ digit output)
outcome_told κ e answer output r p small =
    let is : r ≡ refusal_of answer * 8192 + value_of answer * 2 + digit output = p in
    (omega (arith, digit_le output), omega (arith, digit_le output), omega (arith, digit_le output))

-- and refusal and answer from that of a place
pub place_told : (κ e : _) (answer : Answer) (r : ℕ) → place.Post κ (answer, tt) r e → value_of answer < 4096
    → (r / 4096 ≡ refusal_of answer) × (r % 4096 ≡ value_of answer)
place_told κ e answer r p small = let is : r ≡ refusal_of answer * 4096 + value_of answer = p in (omega arith, omega arith)

-- its marks and how many remain behind it from that of a letter, which is not 0
pub letter_told : (κ e : _) (byte : ℕ) (figures : Figures) (r : ℕ) → letter.Post κ (Letter byte figures, tt) r e → figures.behind < 256
    → (0 < r) × ((r - 1) / 256 ≡ figures.marks) × ((r - 1) % 256 ≡ figures.behind)
unfolding is_letter figures_of pick
letter_told κ e byte figures r p small = let is : r ≡ 1 + 256 * figures.marks + figures.behind = p in (omega arith, omega arith, omega arith)

-- and it is 0 of every answer that is no letter
pub no_letter_told : (κ e : _) (answer : Answer) (r : ℕ) → letter.Post κ (answer, tt) r e → is_letter answer ≡ false → r ≡ 0
no_letter_told κ e answer r p other = p ∙ pick_false _ _ _ other

-- two numbers that bring a digest to the same one are the same
pub added_told : (κ κ' e e' : _) (digest v v' r : ℕ) → added.Post κ (digest, (v, tt)) r e → added.Post κ' (digest, (v', tt)) r e'
    → v < 2147483647 → v' < 2147483647 → v ≡ v'
added_told κ κ' e e' digest v v' r p p' small small' =
    let is : r ≡ (digest * 1000003 + v + 1) % 2147483647 = p in
    let is' : r ≡ (digest * 1000003 + v' + 1) % 2147483647 = p' in
    omega arith

-- what is left over by the modulus is one number
left_over : (d d' x y : ℕ) → d + 2147483647 * x ≡ d' + 2147483647 * y → d < 2147483647 → d' < 2147483647 → d ≡ d'
left_over d d' x y same small small' = omega arith

-- and two digests that the same number brings to one are the same: nothing that was added before is forgotten. 1523789695 times 1000003
-- is 1 above 709572 times the modulus.
pub before_told : (κ κ' e e' : _) (digest digest' v r : ℕ) → added.Post κ (digest, (v, tt)) r e → added.Post κ' (digest', (v, tt)) r e'
    → digest < 2147483647 → digest' < 2147483647 → digest ≡ digest'
before_told κ κ' e e' digest digest' v r p p' small small' =
    let is : r ≡ (digest * 1000003 + v + 1) % 2147483647 = p in
    let is' : r ≡ (digest' * 1000003 + v + 1) % 2147483647 = p' in
    let q : ℕ = (digest * 1000003 + v + 1) / 2147483647 in
    let q' : ℕ = (digest' * 1000003 + v + 1) / 2147483647 in
    left_over digest digest' (709572 * digest + 1523789695 * q') (709572 * digest' + 1523789695 * q) (omega arith) small small'
