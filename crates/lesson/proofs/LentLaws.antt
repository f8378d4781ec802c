-- What the contract of the reader requires of what it is lent: the bytes written in the text are in the buffer.
use Prim.Native.Nat.{ℕ, ◌≤◌}
use mathlib.Core.Bool.{Bool}
use mathlib.Core.List.{List}
use mathlib.Core.Path.{◌≡◌, subst}
use seplogic.Ra.Ura.{Ura}
use base.Logic.{SProp, ent, id⊢}
use prog.Memory.{Memory}
use prog.Routine.{Routine}
use types.Logic.{Logic}
use contract.Monad.{Fun, fact, fact_use, fact_i}
use contract.Lifetimes.{Lfts}
use denote.Triple.Entry.{Args, Res}
use denote.Triple.Clauses.{Lasts, at_exit}
use lib.ListN.{length}
use lib.Seq.{sets}
use Rattle.lesson.specs.Lesson.{longest, Reads}
use Rattle.lesson.specs.LessonLaws.{reads_back}
use Rattle.lesson.specs.Plain.{plain}
use Rattle.lesson.specs.Plain as Plain-Form
use Rattle.lesson.specs.declared.Lesson.TheVariants.{Bytes}
use Rattle.lesson.specs.contracts.read as read

module _ {M : Type 1} {𝓤 : Ura M} (𝓛 : Logic 𝓤) (mem : Memory → SProp 𝓤) (run : Routine → Fun 𝓤)
    (κ : Lfts (read.ended).signature.lifetimes) (a : Args (read.ended).signature κ) (g : (read.clauses 𝓛 mem run κ a).ghost)
    (r : Res (read.ended).signature κ) (v : Lasts read.ended κ a) where
  abbrev Ended : SProp 𝓤
  Ended = (read.clauses 𝓛 mem run κ a).ensures g r (at_exit read.ended κ a v)

  abbrev Back : Bool → List ℕ → Type 0
  Back small bs = (r ≡ Bytes (length bs)) × (v.1.0 ≡ sets a.1.0.now 0 bs)

  -- the text that is lent is what is read, and the buffer that is lent is where its bytes come to stand
  pub read_lent : (small : Bool) (bs : List ℕ) → a.0.now ≡ plain small bs → Plain-Form.Bytes bs → length bs ≤ length a.1.0.now
      → length (plain small bs) ≤ longest → ent 𝓤 Ended (fact 𝓤 (Back small bs))
  read_lent small bs text all room limit =
      fact_use 𝓤 (Reads a.0.now a.1.0.now v.1.0 r) (id⊢ 𝓤 Ended) (λ p.
      fact_i 𝓤 (Back small bs) Ended
      (reads_back small bs a.1.0.now v.1.0 r all room limit (subst (λ (t : List ℕ). Reads t a.1.0.now v.1.0 r) text p)))
