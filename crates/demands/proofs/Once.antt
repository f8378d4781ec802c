-- No second outcome: the laws by which each public call has its line. What equals one value is one.
use mathlib.Core.Path.{◌≡◌, refl, sym, ◌∙◌}
use seplogic.Ra.Ura.{Ura}
use base.Logic.{SProp, emp, id⊢}
use prog.Memory.{Memory}
use prog.Routine.{Routine}
use types.Logic.{Logic}
use contract.Monad.{Fun, fact, fact_use, fact_i, conj, conj_l, conj_r}
use contract.Lifetimes.{Lfts}
use denote.Exit.{yes}
use denote.Triple.Entry.{Args, Res}
use denote.Triple.End.{all}
use denote.Triple.Clauses.{Ended, Lasts, AtExit, at_exit, closing}
use Rattle.demands.specs.Once.{Free, Once, Proved, Written}

-- what clauses say in each model
abbrev pub Ensured : Type 1 → Ended → Type 2
Ensured M T =
    (𝓤 : Ura M) (𝓛 : Logic 𝓤) (mem : Memory → SProp 𝓤) (run : Routine → Fun 𝓤) (κ : Lfts T.signature.lifetimes)
    → Args T.signature κ → Res T.signature κ → AtExit T κ → SProp 𝓤

abbrev pub clauses : {M : Type 1} (T : Ended) → Ensured M T → Written M T
clauses T says 𝓤 𝓛 mem run κ a = record { ghost = Unit {0}; requires = λ g. emp 𝓤; ensures = λ g r e. says 𝓤 𝓛 mem run κ a r e }

abbrev pub closed : {M : Type 1} (T : Ended) → Ensured M T → Proved M T
closed T says 𝓤 𝓛 mem run = closing 𝓛 T (clauses T says 𝓤 𝓛 mem run)

-- a contract without `requires`, whatever it says
pub unasked : {M : Type 1} {T : Ended} (says : Ensured M T) → Free M T (clauses T says) (closed T says)
unasked says = record { theirs = refl; free = λ 𝓤 𝓛 mem run κ a. (tt, λ g. id⊢ 𝓤 (emp 𝓤)) }

-- one that says a plain fact of the result and of the memory lent
abbrev pub Fact : Ended → Type 1
Fact T = (κ : Lfts T.signature.lifetimes) → Args T.signature κ → Res T.signature κ → AtExit T κ → Type 0

abbrev pub plainly : {M : Type 1} (T : Ended) → Fact T → Ensured M T
plainly T φ 𝓤 𝓛 mem run κ a r e = fact 𝓤 (φ κ a r e)

pub told : {M : Type 1} {T : Ended} (φ : Fact T) → T.kept ≡ all yes T.signature.params
    → ((κ : Lfts T.signature.lifetimes) (a : Args T.signature κ) (r s : Res T.signature κ) (v w : Lasts T κ a)
    → φ κ a r (at_exit T κ a v) → φ κ a s (at_exit T κ a w) → (r ≡ s) × (v ≡ w))
    → Once M T (clauses T (plainly T φ)) (closed T (plainly T φ))
told {T = T} φ lent one =
    record {
      asked = unasked (plainly T φ);
      lent = lent;
      once = λ 𝓤 𝓛 mem run κ a g h r s v w.
          let P : SProp 𝓤 = fact 𝓤 (φ κ a r (at_exit T κ a v)) in
          let Q : SProp 𝓤 = fact 𝓤 (φ κ a s (at_exit T κ a w)) in
          fact_use 𝓤 (φ κ a r (at_exit T κ a v)) (conj_l 𝓤 P Q) (λ p.
          fact_use 𝓤 (φ κ a s (at_exit T κ a w)) (conj_r 𝓤 P Q) (λ q.
          fact_i 𝓤 ((r ≡ s) × (v ≡ w)) (conj 𝓤 P Q) (one κ a r s v w p q)));
    }

-- one that says which value the result is, where no memory is lent
pub value : {M : Type 1} {T : Ended} (d : (κ : Lfts T.signature.lifetimes) → Args T.signature κ → Res T.signature κ)
    → T.kept ≡ all yes T.signature.params → ((κ : Lfts T.signature.lifetimes) (a : Args T.signature κ) (v w : Lasts T κ a) → v ≡ w)
    → Once M T (clauses T (plainly T (λ κ a r e. r ≡ d κ a))) (closed T (plainly T (λ κ a r e. r ≡ d κ a)))
value d lent none = told (λ κ a r e. r ≡ d κ a) lent (λ κ a r s v w p q. (p ∙ sym q, none κ a v w))
