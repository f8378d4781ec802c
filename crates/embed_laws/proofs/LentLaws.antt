-- What the contracts of the calls over a lent bench require, told by what C sees of them: zeros after power-up, two events as a run of two records,
-- the character that a read of RBR takes, the output that the event before it told, a line's place, a seat's modem outputs and tallies, and refusals of
-- numbers however large.
use Prim.Native.Nat.{ℕ, ◌+◌, ◌≤◌, ◌<◌}
use mathlib.Core.Bool.{Bool, true, false}
use mathlib.Core.List.{[], ◌∷◌}
use mathlib.Core.Path.{◌≡◌, refl, ap, subst, sym, ◌∙◌}
use mathlib.Core.Logic.{⊎_elim}
use native.Mathlib.Omega.{arith}
use seplogic.Ra.Ura.{Ura}
use base.Logic.{SProp, ent, id⊢}
use prog.Memory.{Memory}
use prog.Routine.{Routine}
use types.Logic.{Logic}
use contract.Monad.{Fun, fact, fact_use, fact_i, conj, conj_l, conj_r}
use contract.Lifetimes.{Lfts}
use denote.Triple.Entry.{Args, Res}
use denote.Triple.Clauses.{Lasts, at_exit}
use lib.Dec.{eqb, ltb}
use borrow.Author.Tests.{ltb-true, ltb-false}
use Rattle.base.specs.Pick.{pick}
use Rattle.base.specs.PickLaws.{pick_true, either_way}
use Rattle.base.specs.Bits.{bit, digit}
use Rattle.base.specs.Refusals.{first_of, refusal_by}
use Rattle.base.specs.Answers.{refusal_of, value_of}
use Rattle.base.specs.declared.Answer.{Answer}
use Rattle.base.specs.declared.Answer.TheVariants.{Done, Letter, Refused}
use Rattle.registers.specs.declared.SeatEvent.TheVariants.{Read}
use Rattle.registers.specs.Refusals as registers
use Rattle.registers.specs.Registers.{register_at, plain_register}
use Rattle.receiver.specs.declared.Got.{Got}
use Rattle.receiver.specs.Receiver.{got}
use Rattle.channel.specs.Effects.{answer_at}
use Rattle.channel.specs.Steps as channel
use Rattle.seat.specs.declared.Seat.{Seat}
use Rattle.seat.specs.declared.Replied.{Replied}
use Rattle.seat.specs.declared.Five.{Five}
use Rattle.seat.specs.Seats.{five}
use Rattle.seat.proofs.SoundLaws.{sound_parts}
use Rattle.seat.specs.TallyLaws.{sum}
use Rattle.seat.specs.Steps as step
use Rattle.seat.specs.StepLaws.{step_taken}
use Rattle.seat.specs.CountLaws.{read_own}
use Rattle.rank.specs.Rank.{before, order}
use Rattle.rank.specs.Sets.{line}
use Rattle.controller.specs.Turns.{output_of}
use Rattle.controller.specs.Steps.{placed}
use Rattle.controller.specs.LineLaws.{place_told, place_refused}
use Rattle.records.specs.Events.{Record, whole, decoded, event_of, seat_count}
use Rattle.records.specs.EarlyLaws.{taken_seat}
use Rattle.bench.specs.declared.Bench.{Bench}
use Rattle.bench.specs.declared.Outcome.{Outcome}
use Rattle.bench.specs.Refusals.{refusal}
use Rattle.bench.specs.EdgeLaws.{kind_refused, seat_refused}
use Rattle.bench.specs.Runs.{after_all}
use Rattle.bench.specs.Seats.{power_up, seat}
use Rattle.bench.specs.Tallies.{Tallied, tallies_of, no_five}
use Rattle.bench.specs.TalliedLaws.{tallied_told, tallied_refused}
use Rattle.bench.specs.Valid.{valid}
use Rattle.bench.proofs.ValidLaws.{parts, at_seat_lem}
use Rattle.bench.specs.DoneLaws.{seat_answer}
use Rattle.bench.specs.MeetLaws.{outcome_dealt}
use Rattle.bench.specs.Steps.{shown, dealt, outcome}
use Rattle.bench.specs.OutcomeLaws.{outcome_output, outcome_refused}
use Rattle.c_word.specs.Word.{answer_in, refusal_in, output_in, marks_in, behind_in, Tells}
use Rattle.c_bench.specs.Told.{Told}
use Rattle.c_word.proofs.WordLaws.{letter_back}
use Rattle.c_bench.specs.Outputs.{outputs, outputs_at}
use Rattle.c_bench.specs.OutputsLaws.{outputs_told, outputs_refused}
use Rattle.embed_laws.specs.Zeroed.{zeroed}
use Rattle.embed_laws.specs.ZeroedLaws.{power_up_zeroed}
use Rattle.embed.specs.contracts.hailstoat_power_up as power_up_lem
use Rattle.embed.specs.contracts.hailstoat_event as event
use Rattle.embed.specs.contracts.hailstoat_place as place
use Rattle.embed.specs.contracts.hailstoat_output as output
use Rattle.embed.specs.contracts.hailstoat_modem_outputs as modem
use Rattle.embed.specs.contracts.hailstoat_tallies as tallies

-- a read of RBR, that is of register 0 with LCR bit 7 clear, is answered with the character that is taken
rbr_answered : (b : Bench) (k s n v : ℕ) → k ≡ 0 → s < seat_count → n ≡ 0 → bit 7 (seat b s).channel.settings.lcr ≡ false
    → (let taken = got (seat b s).channel.receiver in (outcome b (whole k s n v)).answer ≡ Letter taken.byte taken.figures)
unfolding decoded dealt event_of pick step.effect channel.effect registers.refusal registers.grounds refusal_by first_of answer_at register_at plain_register
rbr_answered b k s n v read there register clear =
    ap (λ (j : ℕ). (outcome b (whole j s n v)).answer) read ∙ ap (λ (m : ℕ). (outcome b (whole 0 s m v)).answer) register
    ∙ ap (λ (o : Outcome). o.answer) (outcome_dealt b (whole 0 s 0 v) ∙ ap (dealt b) (pick_true _ _ _ (ap (λ (x : ℕ). eqb x 0) (taken_seat 0 s 0 v (omega arith) there))))
    ∙ seat_answer b s (Read 0)
    ∙ ap (λ (t : Replied). t.answer) (step_taken (seat b s) (Read 0) (ap (λ (x : ℕ). eqb x 0) (read_own (seat b s) 0)))
    ∙ ap (λ (shown : Bool). answer_at (seat b s).channel (register_at shown 0)) clear

-- each of the five that C is handed is the tally of its name, ticket 8: "arrived, read, lost by overrun, dropped by emptying, still queued"
pub record Figures (z : Five) (s : Seat) : Type 0 where
  pub arrived_is : z.arrived ≡ s.tallies.arrived
  pub read_is : z.read ≡ s.tallies.read
  pub lost_is : z.lost ≡ s.tallies.lost
  pub dropped_is : z.dropped ≡ s.tallies.dropped
  pub queued_is : z.queued ≡ s.channel.receiver.queue.count

-- ticket 8: "the other four add up to it"
abbrev pub AddsUp : Five → Type 0
AddsUp z = z.read + z.lost + z.dropped + z.queued ≡ z.arrived

module _ (b : Bench) (n : ℕ) where
  all_of_five : n < seat_count → tallies_of b n ≡ record { answer = Done; five = five (seat b n) }
  unfolding tallies_of
  all_of_five small = tallied_told (seat b n) n small

  none_of_five : seat_count ≤ n → tallies_of b n ≡ record { answer = Refused 1; five = no_five }
  unfolding tallies_of
  none_of_five large = tallied_refused (seat b n) n large

  told_five : n < seat_count → Figures (tallies_of b n).five (seat b n)
  told_five small =
      subst (λ (t : Tallied). Figures t.five (seat b n)) (sym (all_of_five small))
      (record { arrived_is = refl; read_is = refl; lost_is = refl; dropped_is = refl; queued_is = refl })

  five_add_up : valid b ≡ true → AddsUp (tallies_of b n).five
  five_add_up is =
      ⊎_elim
      (λ (small : ltb n seat_count ≡ true).
      subst (λ (t : Tallied). AddsUp t.five) (sym (all_of_five (ltb-true _ _ small)))
      (sum (seat b n).tallies _ (sound_parts (seat b n) (at_seat_lem b (parts b is) n)).1).total)
      (λ (large : ltb n seat_count ≡ false). subst (λ (t : Tallied). AddsUp t.five) (sym (none_of_five (ltb-false _ _ large))) refl)
      (either_way (ltb n seat_count))

module _ {M : Type 1} {𝓤 : Ura M} (𝓛 : Logic 𝓤) (mem : Memory → SProp 𝓤) (run : Routine → Fun 𝓤) where
  -- power-up leaves no number of the caller's bench as it was: each is 0, and each yes or no is no
  pub zeros_lent : (κ : Lfts (power_up_lem.ended).signature.lifetimes) (a : Args (power_up_lem.ended).signature κ)
      (g : (power_up_lem.clauses 𝓛 mem run κ a).ghost) (r : Res (power_up_lem.ended).signature κ) (v : Lasts power_up_lem.ended κ a)
      → ent 𝓤 ((power_up_lem.clauses 𝓛 mem run κ a).ensures g r (at_exit power_up_lem.ended κ a v)) (fact 𝓤 (zeroed v.0 ≡ true))
  zeros_lent κ a g r v =
      fact_use 𝓤 (v.0 ≡ power_up) (id⊢ 𝓤 _) (λ p. fact_i 𝓤 (zeroed v.0 ≡ true) _ (ap (λ (b : Bench). zeroed b) p ∙ power_up_zeroed))

  -- the record of a call, and the bench that it is lent
  abbrev asked : (κ : Lfts (event.ended).signature.lifetimes) → Args (event.ended).signature κ → Record
  asked κ (bench, (kind, (seat, (number, (value, _))))) = whole kind seat number value

  abbrev Events : (κ : Lfts (event.ended).signature.lifetimes) (a : Args (event.ended).signature κ) → (event.clauses 𝓛 mem run κ a).ghost
      → Res (event.ended).signature κ → Lasts event.ended κ a → SProp 𝓤
  Events κ a g r v = (event.clauses 𝓛 mem run κ a).ensures g r (at_exit event.ended κ a v)

  abbrev Said : (κ : Lfts (event.ended).signature.lifetimes) (a : Args (event.ended).signature κ) → Res (event.ended).signature κ → Lasts event.ended κ a → Type 0
  Said κ a r v = (v.0 ≡ (outcome a.0.now (asked κ a)).bench) × Told r (outcome a.0.now (asked κ a))

  module _ (κ : Lfts (event.ended).signature.lifetimes) (a : Args (event.ended).signature κ) (g : (event.clauses 𝓛 mem run κ a).ghost)
      (r : Res (event.ended).signature κ) (v : Lasts event.ended κ a) where
    abbrev Refuses : ℕ → Type 0
    Refuses n = (v.0 ≡ a.0.now) × (refusal_in r ≡ n) × (answer_in r ≡ 0xFFF)

    refuses : (n : ℕ) → (n ≡ 0 → ⊥) → refusal a.0.now (asked κ a) ≡ n → Said κ a r v → Refuses n
    unfolding refusal_of value_of
    refuses n some is said =
        let o : outcome a.0.now (asked κ a) ≡ shown a.0.now (Refused n) =
        outcome_refused a.0.now (asked κ a) (λ none. some (sym is ∙ none)) ∙ ap (λ (m : ℕ). shown a.0.now (Refused m)) is in
        (said.0 ∙ ap (λ (x : Outcome). x.bench) o, said.1.1.refusal ∙ ap (λ (x : Outcome). refusal_of x.answer) o, said.1.1.answer ∙ ap (λ (x : Outcome). value_of x.answer) o)

    -- "kind above 8", however large
    pub kind_lent_refused : 8 < a.1.0 → ent 𝓤 (Events κ a g r v) (fact 𝓤 (Refuses 3))
    kind_lent_refused above =
        fact_use 𝓤 (Said κ a r v) (id⊢ 𝓤 _) (λ p. fact_i 𝓤 (Refuses 3) _ (refuses 3 (λ none. omega arith) (kind_refused a.0.now _ _ _ _ above) p))

    -- "seat (or line) above 7", however large, where the kind uses the seat
    pub seat_lent_refused : a.1.0 < 5 → 8 ≤ a.1.1.0 → ent 𝓤 (Events κ a g r v) (fact 𝓤 (Refuses 1))
    seat_lent_refused uses above =
        fact_use 𝓤 (Said κ a r v) (id⊢ 𝓤 _) (λ p. fact_i 𝓤 (Refuses 1) _ (refuses 1 (λ none. omega arith) (seat_refused a.0.now _ _ _ _ uses above) p))

    -- of a read of RBR the word tells the byte of the character that is taken, and, ticket 6: "its marks and how many remain behind it"
    abbrev Lettered : Got → Type 0
    Lettered taken = (answer_in r ≡ taken.byte) × (marks_in r ≡ taken.figures.marks) × (behind_in r ≡ taken.figures.behind)

    pub letter_lent : a.1.0 ≡ 0 → a.1.1.0 < 8 → a.1.1.1.0 ≡ 0 → bit 7 (seat a.0.now a.1.1.0).channel.settings.lcr ≡ false
        → ent 𝓤 (Events κ a g r v) (fact 𝓤 (Lettered (got (seat a.0.now a.1.1.0).channel.receiver)))
    letter_lent read there register clear =
        fact_use 𝓤 (Said κ a r v) (id⊢ 𝓤 _) (λ p.
        fact_i 𝓤 (Lettered (got (seat a.0.now a.1.1.0).channel.receiver)) _
        (letter_back r _ _ _ (subst (λ (x : Answer). Tells r x (outcome a.0.now (asked κ a)).output) (rbr_answered a.0.now _ _ _ _ read there register clear) p.1)))

    -- a second event is lent what the first left: the two are a run of two records
    pub events_lent : (κ' : Lfts (event.ended).signature.lifetimes) (a' : Args (event.ended).signature κ') (g' : (event.clauses 𝓛 mem run κ' a').ghost)
        (r' : Res (event.ended).signature κ') (v' : Lasts event.ended κ' a') → a'.0.now ≡ v.0
        → ent 𝓤 (conj 𝓤 (Events κ a g r v) (Events κ' a' g' r' v')) (fact 𝓤 (v'.0 ≡ after_all a.0.now (asked κ a ∷ asked κ' a' ∷ [])))
    events_lent κ' a' g' r' v' lent =
        let P : SProp 𝓤 = Events κ a g r v in
        let Q : SProp 𝓤 = Events κ' a' g' r' v' in
        fact_use 𝓤 (Said κ a r v) (conj_l 𝓤 P Q) (λ p.
        fact_use 𝓤 (Said κ' a' r' v') (conj_r 𝓤 P Q) (λ q.
        fact_i 𝓤 (v'.0 ≡ after_all a.0.now (asked κ a ∷ asked κ' a' ∷ [])) (conj 𝓤 P Q)
        (q.0 ∙ ap (λ (b : Bench). (outcome b (asked κ' a')).bench) (lent ∙ p.0))))

    -- "output after the event": the output asked of the bench that an event left is the one that its word told
    pub output_lent : (κ' : Lfts (output.ended).signature.lifetimes) (a' : Args (output.ended).signature κ') (g' : (output.clauses 𝓛 mem run κ' a').ghost)
        (o : Res (output.ended).signature κ') (v' : Lasts output.ended κ' a') → a'.0.now ≡ v.0
        → ent 𝓤 (conj 𝓤 (Events κ a g r v) ((output.clauses 𝓛 mem run κ' a').ensures g' o (at_exit output.ended κ' a' v'))) (fact 𝓤 (o ≡ digit (output_in r)))
    output_lent κ' a' g' o v' lent =
        let P : SProp 𝓤 = Events κ a g r v in
        let Q : SProp 𝓤 = (output.clauses 𝓛 mem run κ' a').ensures g' o (at_exit output.ended κ' a' v') in
        fact_use 𝓤 (Said κ a r v) (conj_l 𝓤 P Q) (λ p.
        fact_use 𝓤 (o ≡ digit (output_of a'.0.now.controller)) (conj_r 𝓤 P Q) (λ q.
        fact_i 𝓤 (o ≡ digit (output_in r)) (conj 𝓤 P Q)
        (q ∙ ap (λ (b : Bench). digit (output_of b.controller)) (lent ∙ p.0)
        ∙ ap digit (sym (outcome_output a.0.now (asked κ a)) ∙ sym p.1.1.output))))

  -- "a line's place in turn (the number of lines ranked above it; line above 7 gives refusal 1)"
  module _ (κ : Lfts (place.ended).signature.lifetimes) (a : Args (place.ended).signature κ) (g : (place.clauses 𝓛 mem run κ a).ghost)
      (r : Res (place.ended).signature κ) (v : Lasts place.ended κ a) where
    abbrev Placed : SProp 𝓤
    Placed = (place.clauses 𝓛 mem run κ a).ensures g r (at_exit place.ended κ a v)

    abbrev Counted : Type 0
    Counted = (refusal_in r ≡ 0) × (answer_in r ≡ before (line a.1.0) (order a.0.now.controller.operation.first))

    pub place_lent : a.1.0 < 8 → ent 𝓤 Placed (fact 𝓤 Counted)
    unfolding refusal_of value_of
    place_lent small =
        fact_use 𝓤 (Tells r (placed a.0.now.controller a.1.0) false) (id⊢ 𝓤 Placed) (λ p.
        fact_i 𝓤 Counted Placed
        (p.1.refusal ∙ ap refusal_of (place_told a.0.now.controller a.1.0 small), p.1.answer ∙ ap value_of (place_told a.0.now.controller a.1.0 small)))

    pub place_lent_refused : 8 ≤ a.1.0 → ent 𝓤 Placed (fact 𝓤 ((refusal_in r ≡ 1) × (answer_in r ≡ 0xFFF)))
    unfolding refusal_of value_of
    place_lent_refused large =
        fact_use 𝓤 (Tells r (placed a.0.now.controller a.1.0) false) (id⊢ 𝓤 Placed) (λ p.
        fact_i 𝓤 ((refusal_in r ≡ 1) × (answer_in r ≡ 0xFFF)) Placed
        (p.1.refusal ∙ ap refusal_of (place_refused a.0.now.controller a.1.0 large), p.1.answer ∙ ap value_of (place_refused a.0.now.controller a.1.0 large)))

  -- the outputs are MCR's of the seat that is named, and "seat (or line) above 7" is refused
  module _ (κ : Lfts (modem.ended).signature.lifetimes) (a : Args (modem.ended).signature κ) (g : (modem.clauses 𝓛 mem run κ a).ghost)
      (r : Res (modem.ended).signature κ) (v : Lasts modem.ended κ a) where
    abbrev Shown : SProp 𝓤
    Shown = (modem.clauses 𝓛 mem run κ a).ensures g r (at_exit modem.ended κ a v)

    abbrev mcr : ℕ
    mcr = (seat a.0.now a.1.0).channel.settings.mcr

    pub outputs_lent : a.1.0 < 8 → ent 𝓤 Shown (fact 𝓤 ((refusal_in r ≡ 0) × (answer_in r ≡ outputs mcr)))
    unfolding refusal_of value_of
    outputs_lent small =
        fact_use 𝓤 (Tells r (outputs_at a.0.now a.1.0) false) (id⊢ 𝓤 Shown) (λ p.
        fact_i 𝓤 ((refusal_in r ≡ 0) × (answer_in r ≡ outputs mcr)) Shown
        (p.1.refusal ∙ ap refusal_of (outputs_told mcr a.1.0 small), p.1.answer ∙ ap value_of (outputs_told mcr a.1.0 small)))

    pub outputs_lent_refused : 8 ≤ a.1.0 → ent 𝓤 Shown (fact 𝓤 ((refusal_in r ≡ 1) × (answer_in r ≡ 0xFFF)))
    unfolding refusal_of value_of
    outputs_lent_refused large =
        fact_use 𝓤 (Tells r (outputs_at a.0.now a.1.0) false) (id⊢ 𝓤 Shown) (λ p.
        fact_i 𝓤 ((refusal_in r ≡ 1) × (answer_in r ≡ 0xFFF)) Shown
        (p.1.refusal ∙ ap refusal_of (outputs_refused mcr a.1.0 large), p.1.answer ∙ ap value_of (outputs_refused mcr a.1.0 large)))

  module _ (κ : Lfts (tallies.ended).signature.lifetimes) (a : Args (tallies.ended).signature κ) (g : (tallies.clauses 𝓛 mem run κ a).ghost)
      (r : Res (tallies.ended).signature κ) (v : Lasts tallies.ended κ a) where
    -- ticket 8: "five 32-bit tallies", each in the field of its name; document 01: "seat (or line) above 7" is refused, and all five are 0
    abbrev Handed : SProp 𝓤
    Handed = (tallies.clauses 𝓛 mem run κ a).ensures g r (at_exit tallies.ended κ a v)

    abbrev asked_of : Tallied
    asked_of = tallies_of a.0.now a.1.0

    -- what is stored where the caller asked
    abbrev stored : Five
    stored = v.1.1.0

    abbrev Hands : Type 0
    Hands = (stored ≡ asked_of.five) × Tells r asked_of.answer false

    pub tallies_lent : a.1.0 < 8 → ent 𝓤 Handed (fact 𝓤 ((refusal_in r ≡ 0) × (answer_in r ≡ 0) × Figures stored (seat a.0.now a.1.0)))
    unfolding refusal_of value_of
    tallies_lent small =
        let told = all_of_five a.0.now a.1.0 small in
        fact_use 𝓤 Hands (id⊢ 𝓤 Handed) (λ p.
        fact_i 𝓤 ((refusal_in r ≡ 0) × (answer_in r ≡ 0) × Figures stored (seat a.0.now a.1.0)) Handed (
          p.1.1.refusal ∙ ap (λ (t : Tallied). refusal_of t.answer) told,
          p.1.1.answer ∙ ap (λ (t : Tallied). value_of t.answer) told,
          subst (λ (z : Five). Figures z (seat a.0.now a.1.0)) (sym p.0) (told_five a.0.now a.1.0 small),
        ))

    pub tallies_lent_refused : 8 ≤ a.1.0 → ent 𝓤 Handed (fact 𝓤 ((refusal_in r ≡ 1) × (answer_in r ≡ 0xFFF) × (stored ≡ no_five)))
    unfolding refusal_of value_of
    tallies_lent_refused large =
        let told = none_of_five a.0.now a.1.0 large in
        fact_use 𝓤 Hands (id⊢ 𝓤 Handed) (λ p.
        fact_i 𝓤 ((refusal_in r ≡ 1) × (answer_in r ≡ 0xFFF) × (stored ≡ no_five)) Handed (
          p.1.1.refusal ∙ ap (λ (t : Tallied). refusal_of t.answer) told,
          p.1.1.answer ∙ ap (λ (t : Tallied). value_of t.answer) told,
          p.0 ∙ ap (λ (t : Tallied). t.five) told,
        ))

    -- of a bench that events can make
    pub tallies_lent_add_up : valid a.0.now ≡ true → ent 𝓤 Handed (fact 𝓤 (AddsUp stored))
    tallies_lent_add_up is =
        fact_use 𝓤 Hands (id⊢ 𝓤 Handed) (λ p.
        fact_i 𝓤 (AddsUp stored) Handed (subst AddsUp (sym p.0) (five_add_up a.0.now a.1.0 is)))
