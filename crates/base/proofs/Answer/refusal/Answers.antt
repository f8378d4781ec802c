use mathlib.Core.List.{[], ◌∷◌}
use Prim.Native.Nat.{ℕ}
use mathlib.Core.Path.{◌≡◌, refl}
use borrow.Author.Rules.{rules}
use types.Run.{OneOf, miss}
use denote.Enum.Declared.{tag_of}
use Rattle.base.specs.Answers.{refusal_of}
use Rattle.base.specs.declared.Answer.{Answer}
use Rattle.base.specs.declared.Answer.TheVariants.{Byte, Letter, Done, Sent, Idle, Break, Vector, Spurious, Place, Divisor, Refused}
use Rattle.base.specs.contracts.Answer.{the_type}
use Rattle.base.proofs.Answer.refusal.Goals as goal

-- an answer of any other case has the number 0
accepted : (a : Answer) → ((n : ℕ) → a ≡ Refused n → ⊥) → 0 ≡ refusal_of a
unfolding refusal_of
accepted (Byte b) k = refl
accepted (Letter b f) k = refl
accepted Done k = refl
accepted (Sent b) k = refl
accepted Idle k = refl
accepted Break k = refl
accepted (Vector v) k = refl
accepted (Spurious v) k = refl
accepted (Place p) k = refl
accepted (Divisor d) k = refl
accepted (Refused n) k = absurd (k n refl)

pub returns-in_default : goal.returns-in_default
returns-in_default c = accepted c.args.self c.in_default.not-Refused

pub returns : goal.returns
unfolding refusal_of
returns c = simp c.in-Refused.is
