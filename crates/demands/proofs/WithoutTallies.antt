-- While no 19 is given, a seat's channel, line and answers are those of a channel by itself.
use Prim.Native.Nat.{ℕ}
use mathlib.Core.Bool.{true, false, ◌&&◌}
use mathlib.Core.List.{List, [], ◌∷◌, ◌++◌}
use mathlib.Core.Path.{◌≡◌, refl, ap, sym, subst, ◌∙◌}
use mathlib.Core.Logic.{⊎_elim}
use lib.Dec.{eqb}
use lib.ListN.{length}
use borrow.Author.Tests.{eqb-true}
use Rattle.base.specs.PickLaws.{pick_true, pick_false, neither, either_way}
use Rattle.base.specs.Answers.{refusal_of}
use Rattle.channel.specs.declared.Channel.{Channel}
use Rattle.channel.specs.declared.Stepped.{Stepped}
use Rattle.channel.specs.Status as channel-status
use Rattle.channel.specs.Steps as channel-step
use Rattle.seat.specs.declared.Seat.{Seat}
use Rattle.seat.specs.Acts.{Act, event, resets, acted_all}
use Rattle.seat.specs.Steps as step
use Rattle.seat.specs.StepLaws.{by_channel, step_number}
use Rattle.records.specs.declared.Event.TheVariants.{OfSeat, MasterReset, ReadController, WriteController, Acknowledge}
use Rattle.records.specs.Events.{Record, seat_count, decoded, Decoded}
use Rattle.bench.specs.declared.Bench.{Bench}
use Rattle.bench.specs.declared.Outcome.{Outcome}
use Rattle.bench.specs.Seats.{chair, seat}
use Rattle.bench.specs.Steps.{outcome, met, dealt}
use Rattle.bench.specs.Runs.{after_all, own, own_all}
use Rattle.bench.specs.MeetLaws.{outcome_dealt}
use Rattle.bench.specs.FrameLaws.{seat_by_chair, chair_own}
use Rattle.bench.specs.DoneLaws.{seat_answer}
use Rattle.bench.specs.RunLaws.{all_kept}
use Rattle.demands.specs.Loopback.{channel_at}
use Rattle.demands.specs.Tallies.{touches, own_full, channel_after, WithoutTallies}
use Rattle.demands.proofs.Loopback.{alone}
use Rattle.std.specs.Prelude.{Ok, Err}
use Rattle.demands.proofs.Tallies.{seat_after}

channel_both : (c : Channel) (xs ys : List Act) → channel_after c (xs ++ ys) ≡ channel_after (channel_after c xs) ys
channel_both c [] ys = refl
channel_both c (event e ∷ xs) ys = channel_both (channel-step.stepped c e).channel xs ys
channel_both c (resets ∷ xs) ys = channel_both _ xs ys

-- ---- one record

-- what it does to the seat is what it does to the channel, unless the answer is 19
dealt_follows : (n : ℕ) (b : Bench) (d : Decoded) → (touches (own (chair n) d) && eqb (refusal_of (dealt b d).answer) 19) ≡ false
    → (acted_all (seat b n) (own (chair n) d)).channel ≡ channel_after (channel_at n b) (own (chair n) d)
unfolding dealt own
dealt_follows n b (Ok (OfSeat m e)) other =
    let P : List Act → Type 0 = λ acts. (acted_all (seat b n) acts).channel ≡ channel_after (channel_at n b) acts in
    ⊎_elim
    (λ (here : eqb (chair m) (chair n) ≡ true).
    let same = seat_by_chair b m n (eqb-true _ _ here) in
    let number : refusal_of (met b (OfSeat m e)).answer ≡ step.refusal (seat b n) e
    = ap refusal_of (seat_answer b m e) ∙ step_number (seat b m) e ∙ ap (λ (s : Seat). step.refusal s e) same in
    subst P (sym (pick_true _ _ _ here))
    (ap (λ (t : Stepped). t.channel) (by_channel (seat b n) e (ap (λ (k : ℕ). eqb k 19) (sym number) ∙ (sym (ap (λ (acts : List Act). touches acts && eqb (refusal_of (met b (OfSeat m e)).answer) 19) (pick_true _ _ _ here)) ∙ other)))))
    (λ (elsewhere : eqb (chair m) (chair n) ≡ false). subst P (sym (pick_false _ _ _ elsewhere)) refl)
    (either_way (eqb (chair m) (chair n)))
dealt_follows n b (Ok MasterReset) other = refl
dealt_follows n b (Ok (ReadController port)) other = refl
dealt_follows n b (Ok (WriteController port byte)) other = refl
dealt_follows n b (Ok Acknowledge) other = refl
dealt_follows n b (Err number) other = refl

record_follows : (n : ℕ) (b : Bench) → length b.seats ≡ seat_count → (r : Record) → (touches (own (chair n) (decoded r)) && eqb (refusal_of (outcome b r).answer) 19) ≡ false
    → channel_at n (outcome b r).bench ≡ channel_after (channel_at n b) (own (chair n) (decoded r))
record_follows n b all r other =
    ap (λ (s : Seat). s.channel) (seat_after n b all r)
    ∙ dealt_follows n b (decoded r) (ap (λ (o : Outcome). touches (own (chair n) (decoded r)) && eqb (refusal_of o.answer) 19) (sym (outcome_dealt b r)) ∙ other)

-- ---- a run

run_follows : (n : ℕ) (rs : List Record) (b : Bench) → length b.seats ≡ seat_count
    → own_full (chair n) b rs ≡ false
    → (channel_at n (after_all b rs) ≡ channel_after (channel_at n b) (own_all (chair n) rs)) × (length (after_all b rs).seats ≡ seat_count)
run_follows n [] b all none = (refl, all)
run_follows n (r ∷ rs) b all none =
    let two = neither (touches (own (chair n) (decoded r)) && eqb (refusal_of (outcome b r).answer) 19) (own_full (chair n) (outcome b r).bench rs) none in
    let rest = run_follows n rs (outcome b r).bench (all_kept b r ∙ all) two.1 in (
      rest.0 ∙ ap (λ (c : Channel). channel_after c (own_all (chair n) rs)) (record_follows n b all r two.0)
          ∙ sym (channel_both (channel_at n b) (own (chair n) (decoded r)) (own_all (chair n) rs)),
      rest.1,
    )

pub without_tallies : WithoutTallies
without_tallies n b rs there all none =
    let did = run_follows n rs b all (ap (λ (k : ℕ). own_full k b rs) (chair_own n there) ∙ none) in
    let is : channel_at n (after_all b rs) ≡ channel_after (channel_at n b) (own_all n rs)
    = did.0 ∙ ap (λ (k : ℕ). channel_after (channel_at n b) (own_all k rs)) (chair_own n there) in
    record {
      channel = is;
      line = ap channel-status.line is;
      answer = λ e other. (alone n (after_all b rs) (there, did.1) e other).answer ∙ ap (λ (c : Channel). (channel-step.stepped c e).answer) is;
    }
