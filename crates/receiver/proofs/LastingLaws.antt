-- A time-out lasts as Lasting says, over every run from any side, sound or not.
use Rattle.std.specs.Prelude.{◌+◌, ◌<◌, true, false, not, ◌&&◌, List, [], ◌∷◌, ◌++◌, ◌≡◌, refl, ltb}
use Rattle.std.proofs.Common.{⊎_elim, ap, sym, ◌∙◌, arith}
use Rattle.std.proofs.lemmas.Bool.{not-true, not-false}
use Rattle.base.specs.Pick.{pick}
use Rattle.base.specs.PickLaws.{pick_true, pick_false, pick_through, pick_le, not_both, either_way, both_hold, neither}
use Rattle.queue.specs.declared.Character.{Character}
use Rattle.queue.specs.Queue.{room, entered, capacity, accepted}
use Rattle.receiver.specs.declared.Receiver.{Receiver}
use Rattle.receiver.specs.declared.Got.{Got}
use Rattle.receiver.specs.Receiver.{quiet, none_queued, timeout_stands, received, got, lsr_seen, waited, cleared, after_mode_change, restarted}
use Rattle.receiver.proofs.EffectLaws.{arrival_leaves_four, arrival_sets_back}
use Rattle.receiver.specs.Waiting.{waits}
use Rattle.receiver.proofs.WaitingLaws.{wait_at_most}
use Rattle.receiver.specs.Ledger.{Moment, arrives, rbr, lsr, passes, empties, changes, resets, Side, after, after_all}
use Rattle.receiver.proofs.SideLaws.{after_both}
use Rattle.receiver.specs.Lasting.{timeout_count, ending, ends_in, Fourth, Lasting}

-- ---- one moment

-- an RBR read from an empty queue leaves the count, another sets it to 0
read_timeout_count : (s : Side) → timeout_count (after s rbr) ≡ pick (none_queued s.receiver) (timeout_count s) 0
unfolding after got
read_timeout_count s = pick_through (λ (g : Got). g.receiver.timeout) (none_queued s.receiver) _ _

one_stays : (s : Side) (m : Moment) → timeout_count s ≡ 4 → ending s m ≡ false → timeout_count (after s m) ≡ 4
unfolding after ending lsr_seen
one_stays s (arrives ch) four e = arrival_leaves_four s.fifo s.receiver ch four
one_stays s rbr four e = read_timeout_count s ∙ pick_true _ _ _ (not-false _ e) ∙ four
one_stays s lsr four e = four
one_stays s passes four e = ap (λ (r : Receiver). r.timeout) (wait_at_most s.fifo s.receiver (omega arith)) ∙ four
one_stays s empties four e = absurd (not_both refl e)
one_stays s changes four e = absurd (not_both refl e)
one_stays s resets four e = absurd (not_both refl e)

one_ends : (s : Side) (m : Moment) → ending s m ≡ true → timeout_count (after s m) ≡ 0
unfolding after ending cleared after_mode_change restarted
one_ends s (arrives ch) e = absurd (not_both e refl)
one_ends s rbr e = read_timeout_count s ∙ pick_false _ _ _ (not-true _ e)
one_ends s lsr e = absurd (not_both e refl)
one_ends s passes e = absurd (not_both e refl)
one_ends s empties e = refl
one_ends s changes e = refl
one_ends s resets e = refl

one_set_back : (s : Side) (ch : Character) → timeout_count s < 4 → timeout_count (after s (arrives ch)) ≡ 0
unfolding after
one_set_back s ch less = arrival_sets_back s.fifo s.receiver ch (λ (four : timeout_count s ≡ 4). omega arith)

-- a character time that reaches 4 from below
fourth : (s : Side) → timeout_count s < 4 → timeout_count (after s passes) ≡ 4 → Fourth s passes
unfolding after waited
fourth s less reached =
    let counts = s.fifo && not (none_queued s.receiver) && ltb (timeout_count s) 4 in
    ⊎_elim
    (λ (e : counts ≡ true).
    let two = both_hold (s.fifo && not (none_queued s.receiver)) (ltb (timeout_count s) 4) e in
    let one = both_hold s.fifo (not (none_queued s.receiver)) two.0 in
    let risen : timeout_count s + 1 ≡ 4 = sym (pick_true counts (timeout_count s + 1) (timeout_count s) e) ∙ reached in
    record { time = refl; mode = one.0; waiting = not-true _ one.1; third = omega arith })
    (λ (e : counts ≡ false).
    let same : timeout_count s ≡ 4 = sym (pick_false counts (timeout_count s + 1) (timeout_count s) e) ∙ reached in
    absurd (omega arith))
    (either_way counts)

one_happens : (s : Side) (m : Moment) → timeout_count s < 4 → timeout_count (after s m) ≡ 4 → Fourth s m
unfolding after lsr_seen cleared after_mode_change restarted
one_happens s (arrives ch) less reached = absurd (omega (arith, one_set_back s ch less))
one_happens s rbr less reached =
    absurd (omega (arith, read_timeout_count s, pick_le (none_queued s.receiver) (timeout_count s) 0 3 (omega arith) (omega arith)))
one_happens s lsr less reached = absurd (omega arith)
one_happens s passes less reached = fourth s less reached
one_happens s empties less reached = absurd (omega arith)
one_happens s changes less reached = absurd (omega arith)
one_happens s resets less reached = absurd (omega arith)

-- ---- a run

all_stay : (s : Side) (ms : List Moment) → timeout_count s ≡ 4 → ends_in s ms ≡ false → timeout_count (after_all s ms) ≡ 4
unfolding after_all ends_in
all_stay s [] four none = four
all_stay s (m ∷ ms) four none =
    let both = neither (ending s m) (ends_in (after s m) ms) none in
    all_stay (after s m) ms (one_stays s m four both.0) both.1

-- the count after a run and one moment more
one_more : (s : Side) (ms : List Moment) (m : Moment) → timeout_count (after_all s (ms ++ (m ∷ []))) ≡ timeout_count (after (after_all s ms) m)
unfolding after_all
one_more s ms m = ap timeout_count (after_both s ms (m ∷ []))

pub lasting : (s : Side) (ms : List Moment) → Lasting s ms
lasting s ms =
    record {
      stays = all_stay s ms;
      ends = λ m e. one_more s ms m ∙ one_ends (after_all s ms) m e;
      set_back = λ ch less. one_more s ms (arrives ch) ∙ one_set_back (after_all s ms) ch less;
      happens = λ m less reached. one_happens (after_all s ms) m less (sym (one_more s ms m) ∙ reached);
    }

-- its premises are met: a time-out over two characters, and then an arrival, an LSR read, a character time and an arrival, none of which ends it
abbrev late : Side
late =
    let ch : Character = record { «data» = 0x41; marks = 0 } in
    record { fifo = true; receiver = waits true 4 (received true (received true quiet ch) ch) }

pub premises_met : (timeout_count late ≡ 4)
    × (ends_in late (arrives (record { «data» = 0x42; marks = 1 }) ∷ lsr ∷ passes ∷ arrives (record { «data» = 0x43; marks = 0 }) ∷ []) ≡ false)
unfolding ends_in ending waits waited received timeout_stands none_queued accepted capacity room entered pick
premises_met = (refl, refl)
