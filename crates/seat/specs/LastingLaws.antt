-- A time-out lasts at a seat as Lasting says, over any acts and from any seat, sound or not.
use Rattle.std.specs.Prelude.{◌≡◌, ℕ, ◌<◌, true, false, List, [], ◌∷◌, length, ◌==◌, nat_eq, refl}
use Rattle.std.proofs.Common.{ap, sym, ◌∙◌, ⊎_elim, arith, eq-eqb}
use Rattle.base.specs.PickLaws.{pick_true, pick_false, never, not_both, neither, either_way}
use Rattle.receiver.specs.Ledger.{Moment, Side, after_all, arrived_in}
use Rattle.receiver.specs.Ledger as moment
use Rattle.receiver.specs.Lasting as side
use Rattle.receiver.proofs.LastingLaws.{lasting}
use Rattle.registers.specs.declared.SeatEvent.{SeatEvent}
use Rattle.registers.specs.declared.SeatEvent.TheVariants.{Arrival}
use Rattle.channel.specs.Parts.{in_loopback}
use Rattle.channel.specs.Moments.{arrival_moments, accepted_moments, moments_of}
use Rattle.channel_laws.specs.LastingLaws.{event_ends, event_leaves}
use Rattle.seat.specs.declared.Seat.{Seat}
use Rattle.seat.specs.Steps.{refusal}
use Rattle.seat.specs.StepLaws.{own, own_number, taken_own, unheard_own}
use Rattle.seat.specs.Acts.{Act, event, resets, acted, acted_all}
use Rattle.seat.specs.Receiving as receiving
use Rattle.seat.specs.ReceivingLaws.{acted_side}
use Rattle.seat.specs.Lasting.{timeout_count, ending, ends_in, Lasting}

-- ---- one act

-- an accepted event is to the side what it is to its channel's
own_moments : (s : Seat) (e : SeatEvent) → (refusal s e == 0) ≡ true → receiving.moments_of s e ≡ moments_of s.channel e
unfolding moments_of
own_moments s e taken = pick_true _ _ _ taken ∙ sym (pick_true _ _ _ (taken_own s e taken))

-- where one moment ends a time-out, nothing arrives, and so it is accepted by the seat too
ending_none : (c : Side) (m : Moment) → side.ending c m ≡ true → length (arrived_in (m ∷ [])) ≡ 0
unfolding side.ending arrived_in
ending_none c (moment.arrives ch) e = absurd (never e)
ending_none c moment.rbr e = refl
ending_none c moment.lsr e = refl
ending_none c moment.passes e = refl
ending_none c moment.empties e = refl
ending_none c moment.changes e = refl
ending_none c moment.resets e = refl

ending_moments : (s : Seat) (e : SeatEvent) (m : Moment) → moments_of s.channel e ≡ m ∷ [] → side.ending (receiving.side s) m ≡ true
    → receiving.moments_of s e ≡ m ∷ []
unfolding moments_of
ending_moments s e m alone ends =
    ⊎_elim
    (λ (none : nat_eq (own s e) 0 ≡ true).
    let accepted : accepted_moments s.channel e ≡ m ∷ [] = sym (pick_true _ _ _ none) ∙ alone in
    let within = unheard_own s e (ap (λ (ms : List Moment). length (arrived_in ms)) accepted ∙ ending_none (receiving.side s) m ends) in
    pick_true _ _ _ (ap (λ (n : ℕ). nat_eq n 0) (own_number s e within) ∙ none) ∙ accepted)
    (λ (some : nat_eq (own s e) 0 ≡ false).
    let n : ◌≡◌ {A = ℕ} 0 1 = ap length (sym (pick_false _ (accepted_moments s.channel e) [] some) ∙ alone) in
    absurd (omega arith))
    (either_way (own s e == 0))

act_leaves : (s : Seat) (a : Act) → ending s a ≡ false → side.ends_in (receiving.side s) (receiving.befalls_by s a) ≡ false
unfolding side.ends_in
act_leaves s (event e) none =
    ⊎_elim
    (λ (taken : nat_eq (refusal s e) 0 ≡ true). ap (side.ends_in (receiving.side s)) (own_moments s e taken) ∙ event_leaves s.channel e none)
    (λ (refused : nat_eq (refusal s e) 0 ≡ false).
    ap (side.ends_in (receiving.side s)) (pick_false _ (accepted_moments s.channel e) [] refused))
    (either_way (refusal s e == 0))
act_leaves s resets none = absurd (not_both refl none)

one_stays : (s : Seat) (a : Act) → timeout_count s ≡ 4 → ending s a ≡ false → timeout_count (acted s a) ≡ 4
one_stays s a four none =
    ap side.timeout_count (acted_side s a) ∙ (lasting (receiving.side s) (receiving.befalls_by s a)).stays four (act_leaves s a none)

-- an act that is one moment, and this one ends a time-out
one_ends : (s : Seat) (a : Act) (m : Moment) → receiving.befalls_by s a ≡ m ∷ [] → side.ending (receiving.side s) m ≡ true → timeout_count (acted s a) ≡ 0
unfolding after_all
one_ends s a m alone e =
    ap side.timeout_count (acted_side s a ∙ ap (after_all (receiving.side s)) alone) ∙ (lasting (receiving.side s) []).ends m e

act_ends : (s : Seat) (a : Act) → ending s a ≡ true → timeout_count (acted s a) ≡ 0
unfolding side.ending
act_ends s (event e) ended =
    let one = event_ends s.channel e ended in
    one_ends s (event e) one.moment (ending_moments s e one.moment one.alone one.ends) one.ends
act_ends s resets ended = one_ends s resets moment.resets refl refl

arrival_sets_back : (s : Seat) (marks byte : ℕ) → in_loopback s.channel ≡ false → refusal s (Arrival marks byte) ≡ 0 → timeout_count s < 4
    → timeout_count (acted s (event (Arrival marks byte))) ≡ 0
unfolding after_all accepted_moments arrival_moments
arrival_sets_back s marks byte outside served less =
    ap side.timeout_count
    (acted_side s (event (Arrival marks byte))
    ∙ ap (after_all (receiving.side s)) (pick_true _ _ _ (eq-eqb _ _ served) ∙ pick_false _ _ _ outside))
    ∙ (lasting (receiving.side s) []).set_back _ less

-- ---- any acts

all_stay : (s : Seat) (acts : List Act) → timeout_count s ≡ 4 → ends_in s acts ≡ false → timeout_count (acted_all s acts) ≡ 4
all_stay s [] four none = four
all_stay s (a ∷ rest) four none =
    let both = neither (ending s a) (ends_in (acted s a) rest) none in
    all_stay (acted s a) rest (one_stays s a four both.0) both.1

pub seat_lasting : (s : Seat) (acts : List Act) → Lasting s acts
seat_lasting s acts =
    record {
      stays = all_stay s acts;
      ends = act_ends (acted_all s acts);
      set_back = arrival_sets_back (acted_all s acts);
    }
