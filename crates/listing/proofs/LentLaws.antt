-- What the contract of a run requires of what it is lent: no argument is passed over.
use mathlib.Core.Path.{◌≡◌}
use seplogic.Ra.Ura.{Ura}
use base.Logic.{SProp, ent, id⊢}
use prog.Memory.{Memory}
use prog.Routine.{Routine}
use types.Logic.{Logic}
use contract.Monad.{Fun, fact, fact_use, fact_i}
use contract.Lifetimes.{Lfts}
use denote.Triple.Entry.{Args, Res}
use denote.Triple.Clauses.{Lasts, at_exit}
use lib.ListN.{take, drop}
use Rattle.listing.specs.Run.{records_of, listing, Runs}
use Rattle.listing.proofs.RoomLaws.{rest_left}
use Rattle.listing.proofs.OnwardLaws.{run_shown}
use Rattle.listing.specs.contracts.runs.run as runs

module _ {M : Type 1} {𝓤 : Ura M} (𝓛 : Logic 𝓤) (mem : Memory → SProp 𝓤) (routine : Routine → Fun 𝓤) where
  -- of the input that is lent, ended or not, the lines of the records told are in the buffer, and the bytes that are not used are the others'
  module _ (κ : Lfts (runs.ended).signature.lifetimes) (a : Args (runs.ended).signature κ) (g : (runs.clauses 𝓛 mem routine κ a).ghost)
      (r : Res (runs.ended).signature κ) (v : Lasts runs.ended κ a) where
    abbrev Ran : SProp 𝓤
    Ran = (runs.clauses 𝓛 mem routine κ a).ensures g r (at_exit runs.ended κ a v)

    abbrev Listed : Type 0
    Listed =
        let input = a.1.1.0.now in
        let last = a.1.1.1.0 in
        (take r.written v.1.1.1.1.0 ≡ listing a.0 a.1.0 (take r.records (records_of last input)))
        × (records_of last (drop r.used input) ≡ drop r.records (records_of last input))

    pub run_lent : ent 𝓤 Ran (fact 𝓤 Listed)
    run_lent =
        fact_use 𝓤 (Runs a.0 a.1.0 a.1.1.0.now a.1.1.1.0 a.1.1.1.1.0.now v.1.1.1.1.0 r) (id⊢ 𝓤 Ran) (λ p.
        fact_i 𝓤 Listed Ran (
          (run_shown a.0 a.1.0 a.1.1.0.now a.1.1.1.0 a.1.1.1.1.0.now v.1.1.1.1.0 r p).0,
          (rest_left a.0 a.1.0 a.1.1.0.now a.1.1.1.0 a.1.1.1.1.0.now v.1.1.1.1.0 r p).1,
        ))
