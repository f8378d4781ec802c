-- No second outcome: what it means for a contract, as the toolchain reads it from the source. OnceCalls.antt has a line for every public call.
use Rattle.std.specs.Prelude.{◌≡◌}
use seplogic.Ra.Ura.{Ura}
use base.Logic.{SProp, ent, emp}
use prog.Memory.{Memory}
use prog.Routine.{Routine}
use types.Logic.{Logic}
use contract.Monad.{Fun, fact, conj}
use contract.Lifetimes.{Lfts}
use denote.Exit.{yes}
use denote.Triple.Entry.{Args, Res}
use denote.Triple.End.{all}
use denote.Triple.Spec.{Spec}
use denote.Triple.Clauses.{Ended, Clauses, Lasts, at_exit, closing}

-- The clauses of a contract, `requires` and `ensures`, in every model of the toolchain's logic. T has the types of the call.
abbrev pub Written : Type 1 → Ended → Type 2
Written M T = (𝓤 : Ura M) (𝓛 : Logic 𝓤) (mem : Memory → SProp 𝓤) (run : Routine → Fun 𝓤) → Clauses 𝓤 T

-- The contract that the function is proved to meet.
abbrev pub Proved : Type 1 → Ended → Type 2
Proved M T = (𝓤 : Ura M) (𝓛 : Logic 𝓤) (mem : Memory → SProp 𝓤) (run : Routine → Fun 𝓤) → Spec 𝓤 T.signature

module _ {M : Type 1} (𝓤 : Ura M) (T : Ended) (clauses : Clauses 𝓤 T) where
  -- What is asked of the caller holds of nothing at all, whatever the arguments a are.
  abbrev pub AsksNothing : Type 1
  AsksNothing =
      (κ : Lfts T.signature.lifetimes) (a : Args T.signature κ)
      → (clauses κ a).ghost × ((g : (clauses κ a).ghost) → ent 𝓤 (emp 𝓤) ((clauses κ a).requires g))

  -- Two outcomes of one call, a result and what stands in the lent memory at the end: where both meet the contract, they are equal.
  abbrev pub OneOutcome : Type 1
  OneOutcome =
      (κ : Lfts T.signature.lifetimes) (a : Args T.signature κ) (g h : (clauses κ a).ghost)
      (r s : Res T.signature κ) (v w : Lasts T κ a)
      → ent 𝓤 (conj 𝓤 ((clauses κ a).ensures g r (at_exit T κ a v)) ((clauses κ a).ensures h s (at_exit T κ a w)))
      (fact 𝓤 ((r ≡ s) × (v ≡ w)))

-- Any caller may call it: there is no `requires`.
pub record Free (M : Type 1) (T : Ended) (written : Written M T) (proved : Proved M T) : Type 2 where
  -- the contract of the function's theorem is these clauses and nothing else
  pub theirs : proved ≡ (λ 𝓤 𝓛 mem run. closing 𝓛 T (written 𝓤 𝓛 mem run))
  pub free : (𝓤 : Ura M) (𝓛 : Logic 𝓤) (mem : Memory → SProp 𝓤) (run : Routine → Fun 𝓤)
      → AsksNothing 𝓤 T (written 𝓤 𝓛 mem run)

-- "Show that no second outcome satisfies it": for all arguments the result is determined, and what stands in any lent memory.
pub record Once (M : Type 1) (T : Ended) (written : Written M T) (proved : Proved M T) : Type 2 where
  pub asked : Free M T written proved
  -- all memory that is lent comes back at the end of the call, so that none is left out of what stands there then
  pub lent : T.kept ≡ all yes T.signature.params
  pub once : (𝓤 : Ura M) (𝓛 : Logic 𝓤) (mem : Memory → SProp 𝓤) (run : Routine → Fun 𝓤)
      → OneOutcome 𝓤 T (written 𝓤 𝓛 mem run)
