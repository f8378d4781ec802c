-- What C does to a bench comes to one thing.
use Rattle.std.specs.Prelude.{ℕ, false, List, ◌≡◌}
use Rattle.std.proofs.Common.{ap, sym, ◌∙◌}
use Rattle.records.specs.declared.Touched.{Touched}
use Rattle.base.specs.declared.Answer.{Answer}
use Rattle.bench.specs.declared.Bench.{Bench}
use Rattle.bench.specs.declared.Outcome.{Outcome}
use Rattle.c_word.specs.Word.{word_of}
use Rattle.c_bench.specs.Told.{Plays, SavesTold}
use Rattle.c_bench.specs.Parts.{Parted}
use Rattle.c_bench.specs.declared.Played.{Played}
use Rattle.c_bench.specs.declared.PartsPlayed.{PartsPlayed}

pub plays_one : (o : Outcome) (r s : Played) → Plays r o → Plays s o → r ≡ s
plays_one o r s p q = λ i. record { bench = (p.0 ∙ sym q.0) i; word = (p.1.0 ∙ sym q.1.0) i }

pub parted_one : (t : Touched) (r s : PartsPlayed) → Parted r t → Parted s t → r ≡ s
parted_one t r s p q = λ i. record { seat = (p.seat ∙ sym q.seat) i; controller = (p.controller ∙ sym q.controller) i; word = (p.told.0 ∙ sym q.told.0) i }

pub saved_one : (b : Bench) (at : ℕ) (l l' l'' : List ℕ) (w u : ℕ) → SavesTold b at l l' w → SavesTold b at l l'' u → (w ≡ u) × (l' ≡ l'')
saved_one b at l l' l'' w u p q = (
  p.told.0 ∙ ap (λ (a : Answer). word_of a false) (p.saves.answer ∙ sym q.saves.answer) ∙ sym q.told.0,
  p.saves.bytes ∙ sym q.saves.bytes,
)
