-- What the contracts of a save and a restore for C require, told by what C sees of them: what was saved is restored, over whatever bench; a refused
-- restore leaves the bench, and a refused save the buffer; and a save touches nothing outside its 704 bytes.
use Prim.Native.Nat.{ℕ, ◌+◌, ◌<◌}
use mathlib.Core.Bool.{true}
use mathlib.Core.List.{List}
use mathlib.Core.Path.{◌≡◌, ap, sym, ◌∙◌}
use lib.ListN.{length, take, drop}
use seplogic.Ra.Ura.{Ura}
use base.Logic.{SProp, ent, id⊢}
use prog.Memory.{Memory}
use prog.Routine.{Routine}
use types.Logic.{Logic}
use contract.Monad.{Fun, fact, fact_use, fact_i, conj, conj_l, conj_r}
use contract.Lifetimes.{Lfts}
use denote.Triple.Entry.{Args, Res}
use denote.Triple.Clauses.{Lasts, at_exit}
use Rattle.base.specs.Answers.{refusal_of, value_of}
use Rattle.base.specs.declared.Answer.{Answer}
use Rattle.base.specs.declared.Answer.TheVariants.{Done, Refused}
use Rattle.c_word.specs.Word.{answer_in, refusal_in, output_in}
use Rattle.controller.specs.Turns.{output_of}
use Rattle.bench.specs.declared.Bench.{Bench}
use Rattle.bench.specs.declared.Outcome.{Outcome}
use Rattle.bench.specs.Steps.{shown}
use Rattle.bench.specs.Valid.{valid}
use Rattle.image.specs.declared.Restored.{Restored}
use Rattle.image.specs.Items.{restores, item_outcome}
use Rattle.image.specs.Refusals.{refusal, restored}
use Rattle.image.specs.ThereAndBack.{Outside}
use Rattle.image.proofs.Statements.{statements}
use Rattle.c_bench.specs.Told.{Told}
use Rattle.c_bench.specs.Told.{SavesTold}
use Rattle.embed.specs.contracts.hailstoat_save as save
use Rattle.embed.specs.contracts.hailstoat_restore as restore

-- a restore that comes to this
came : (b : Bench) (l : List ℕ) (at : ℕ) (c : Bench) (a : Answer) → restored b (drop at l) ≡ record { bench = c; answer = a } → item_outcome b (restores l at) ≡ shown c a
came b l at c a is = ap (λ (r : Restored). shown r.bench r.answer) is

module _ {M : Type 1} {𝓤 : Ura M} (𝓛 : Logic 𝓤) (mem : Memory → SProp 𝓤) (run : Routine → Fun 𝓤) where
  -- ---- a restore

  module _ (κ : Lfts (restore.ended).signature.lifetimes) (a : Args (restore.ended).signature κ) (g : (restore.clauses 𝓛 mem run κ a).ghost)
      (r : Res (restore.ended).signature κ) (v : Lasts restore.ended κ a) where
    abbrev Restores : SProp 𝓤
    Restores = (restore.clauses 𝓛 mem run κ a).ensures g r (at_exit restore.ended κ a v)

    -- the bytes from the place on
    abbrev image : List ℕ
    image = drop a.1.1.0 a.1.0.now

    abbrev wanted : Outcome
    wanted = item_outcome a.0.now (restores a.1.0.now a.1.1.0)

    abbrev Comes : Type 0
    Comes = (v.0 ≡ wanted.bench) × Told r wanted

    -- the bench that is left, what is told, and the output of that bench, as after an event
    abbrev Leaves : Bench → Answer → Type 0
    Leaves c told = (v.0 ≡ c) × (refusal_in r ≡ refusal_of told) × (answer_in r ≡ value_of told) × (output_in r ≡ output_of c.controller)

    leaves : (c : Bench) (told : Answer) → wanted ≡ shown c told → Comes → Leaves c told
    leaves c told is p = (
      p.0 ∙ ap (λ (o : Outcome). o.bench) is,
      p.1.1.refusal ∙ ap (λ (o : Outcome). refusal_of o.answer) is,
      p.1.1.answer ∙ ap (λ (o : Outcome). value_of o.answer) is,
      p.1.1.output ∙ ap (λ (o : Outcome). o.output) is,
    )

    -- ticket 2: "each leaves buffer and bench untouched"
    pub restore_lent_refused : (refusal image ≡ 0 → ⊥) → ent 𝓤 Restores (fact 𝓤 (Leaves a.0.now (Refused (refusal image))))
    restore_lent_refused some =
        fact_use 𝓤 Comes (id⊢ 𝓤 Restores) (λ p.
        fact_i 𝓤 (Leaves a.0.now (Refused (refusal image))) Restores
        (leaves a.0.now (Refused (refusal image)) (came a.0.now a.1.0.now a.1.1.0 a.0.now (Refused (refusal image)) (statements.untouched.bench a.0.now image some)) p))

  -- ---- a save

  module _ (κ : Lfts (save.ended).signature.lifetimes) (a : Args (save.ended).signature κ) (g : (save.clauses 𝓛 mem run κ a).ghost)
      (r : Res (save.ended).signature κ) (v : Lasts save.ended κ a) where
    abbrev Saved : SProp 𝓤
    Saved = (save.clauses 𝓛 mem run κ a).ensures g r (at_exit save.ended κ a v)

    -- the buffer before and after it, and the place
    abbrev before : List ℕ
    before = a.1.0.now

    abbrev after : List ℕ
    after = v.1.0

    abbrev place : ℕ
    place = a.1.1.0

    abbrev Says : Type 0
    Says = SavesTold a.0.now place before after r

    -- ticket 2: "12 no room": and then nothing is written
    pub save_lent_refused : length before < place + 704 → ent 𝓤 Saved (fact 𝓤 ((after ≡ before) × (refusal_in r ≡ 12) × (answer_in r ≡ 0xFFF)))
    unfolding refusal_of value_of
    save_lent_refused short =
        fact_use 𝓤 Says (id⊢ 𝓤 Saved) (λ p.
        let is : p.answer ≡ Refused 12 = statements.save_numbers.refused a.0.now place before after p.answer p.saves short in
        fact_i 𝓤 ((after ≡ before) × (refusal_in r ≡ 12) × (answer_in r ≡ 0xFFF)) Saved (
          (statements.stays a.0.now place before after p.answer p.saves).refused (ap refusal_of is),
          p.told.1.refusal ∙ ap refusal_of is,
          p.told.1.answer ∙ ap value_of is,
        ))

    -- ticket 2: "bytes outside the image stay"
    pub save_lent_outside : ent 𝓤 Saved (fact 𝓤 ((take place after ≡ take place before) × (drop (place + 704) after ≡ drop (place + 704) before)))
    save_lent_outside =
        fact_use 𝓤 Says (id⊢ 𝓤 Saved) (λ p.
        let outside : Outside a.0.now place before after p.answer = statements.stays a.0.now place before after p.answer p.saves in
        fact_i 𝓤 ((take place after ≡ take place before) × (drop (place + 704) after ≡ drop (place + 704) before)) Saved (outside.before, outside.behind))

    -- ticket 2: "read it back next week": a bench that events can make, saved and restored from the buffer that the save left, at the same place and over
    -- whatever bench, is the bench that was saved, and the word has its output
    pub saved_restored_lent : (κ' : Lfts (restore.ended).signature.lifetimes) (a' : Args (restore.ended).signature κ') (g' : (restore.clauses 𝓛 mem run κ' a').ghost)
        (r' : Res (restore.ended).signature κ') (v' : Lasts restore.ended κ' a')
        → valid a.0.now ≡ true → refusal_in r ≡ 0 → a'.1.0.now ≡ after → a'.1.1.0 ≡ place
        → ent 𝓤 (conj 𝓤 Saved (Restores κ' a' g' r' v')) (fact 𝓤 (Leaves κ' a' g' r' v' a.0.now Done))
    saved_restored_lent κ' a' g' r' v' sound taken lent here =
        let Q : SProp 𝓤 = Restores κ' a' g' r' v' in
        fact_use 𝓤 Says (conj_l 𝓤 Saved Q) (λ p.
        fact_use 𝓤 (Comes κ' a' g' r' v') (conj_r 𝓤 Saved Q) (λ c.
        let back : restored a'.0.now (drop place after) ≡ record { bench = a.0.now; answer = Done } =
        statements.read_back a.0.now a'.0.now place before after p.answer sound p.saves (sym p.told.1.refusal ∙ taken) in
        let is : wanted κ' a' g' r' v' ≡ shown a.0.now Done =
        ap (λ (l : List ℕ). item_outcome a'.0.now (restores l a'.1.1.0)) lent ∙ ap (λ (n : ℕ). item_outcome a'.0.now (restores after n)) here
        ∙ came a'.0.now after place a.0.now Done back in
        fact_i 𝓤 (Leaves κ' a' g' r' v' a.0.now Done) (conj 𝓤 Saved Q) (leaves κ' a' g' r' v' a.0.now Done is c)))
