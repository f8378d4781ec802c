-- Every run from a sound side hands over its characters as Letters says.
use Rattle.std.specs.Prelude.{ℕ, ◌≤◌, Bool, true, false, not, ◌||◌, List, [], ◌∷◌, ◌++◌, map, ◌≡◌, refl, length, get_or, drop}
use Rattle.std.proofs.Math.Bool.{or-false}
use Rattle.std.proofs.lemmas.List.{map-append, length-map}
use Rattle.std.proofs.Common.{append-nil, ap, ap₂, sym, subst, ◌∙◌, arith}
use Rattle.std.proofs.lemmas.Bool.{not-true}
use Rattle.base.specs.Pick.{pick}
use Rattle.base.specs.PickLaws.{pick_true, pick_false, both_hold}
use Rattle.base.specs.Subsequences.{Subsequence, ends}
use Rattle.base.specs.SubsequenceLaws.{nothing_of, same_as, chained}
use Rattle.queue.specs.declared.Character.{Character}
use Rattle.queue.specs.declared.Queue.{Queue}
use Rattle.queue.specs.Queue.{no_character, capacity, contents, accepted, unmarked, plain}
use Rattle.queue.proofs.QueueLaws.{holding, contents_of, unmark_oldest, unmark_none}
use Rattle.queue.proofs.CanonicalLaws.{holds}
use Rattle.queue.specs.Joining.{places, joined}
use Rattle.queue.proofs.JoiningLaws.{takes, joined_each, joined_in_order}
use Rattle.receiver.specs.declared.Got.{Got}
use Rattle.receiver.specs.Receiver.{received, lsr_seen, waited, cleared, after_mode_change, restarted}
use Rattle.receiver.specs.CallLaws.{none_queued_lem, some_queued, read_oldest, read_none}
use Rattle.receiver.specs.Sound.{sound_receiver}
use Rattle.receiver.proofs.SoundLaws.{parts}
use Rattle.receiver.specs.Ledger.{Moment, arrives, rbr, lsr, passes, empties, changes, resets, Side, after, after_all, at_power_up}
use Rattle.receiver.specs.Ledger.{held, Handed, handed, characters, arriving, reading, arrived_in, read_in}
use Rattle.receiver.proofs.SideLaws.{tidy, tidy_after}
use Rattle.receiver.specs.Letters.{Followed, fresh, as_told, seen_by_lsr}
use Rattle.receiver.specs.Letters.{waiting_after, waiting_in, Leaving, oldest_leaves, leaving_by, leaving_in, arrived_as, handed_as, in16450, Letters}

-- the queue holds those that wait, as they are told
abbrev pub Shows : Side → List Followed → Type 0
Shows s l = s.receiver.queue ≡ holding (map as_told l)

-- and they are no more than there are places
pub shown_within : (s : Side) (l : List Followed) → tidy s ≡ true → Shows s l
    → (length (map as_told l) ≤ places s.fifo) × (length (map as_told l) ≤ 16)
unfolding capacity
shown_within s l t shows =
    let h = holds (capacity s.fifo) s.receiver.queue t in
    let same : length h.list ≡ length (map as_told l) = ap (λ (q : Queue). q.count) (sym h.same ∙ shows) in
    (subst (λ (n : ℕ). n ≤ places s.fifo) same h.within, subst (λ (n : ℕ). n ≤ 16) same h.fits)

-- ---- one moment

plain_told : (ch : Character) (was : Bool) → plain (pick was (plain ch) ch) ≡ pick (was || true) (plain ch) ch
unfolding pick
plain_told ch true = refl
plain_told ch false = refl

lsr_shows : (fifo : Bool) (l : List Followed)
    → pick fifo (unmarked (holding (map as_told l))) (holding (map as_told l)) ≡ holding (map as_told (seen_by_lsr fifo l))
unfolding pick seen_by_lsr
lsr_shows true [] = unmark_none
lsr_shows true (f ∷ l) =
    unmark_oldest (as_told f) (map as_told l) ∙ ap (λ (ch : Character). holding (ch ∷ map as_told l)) (plain_told f.character f.cleared)
lsr_shows false [] = refl
lsr_shows false (f ∷ l) =
    ap (λ (was : Bool). holding (as_told (record { character = f.character; cleared = was }) ∷ map as_told l)) (sym (or-false f.cleared))

one_shows : (s : Side) (l : List Followed) (m : Moment) → tidy s ≡ true → Shows s l → Shows (after s m) (waiting_after s.fifo l m)
unfolding after waiting_after received lsr_seen waited cleared after_mode_change restarted pick
one_shows s l (arrives ch) t shows =
    ap (λ (q : Queue). (accepted s.fifo q ch).queue) shows ∙ takes s.fifo (map as_told l) ch (shown_within s l t shows).0
    ∙ ap holding (sym (joined_each as_told s.fifo l (fresh ch)))
one_shows s [] rbr t shows = ap (λ (g : Got). g.receiver.queue) (read_none s.receiver shows) ∙ shows
one_shows s (f ∷ l) rbr t shows =
    ap (λ (g : Got). g.receiver.queue) (read_oldest s.receiver (as_told f) (map as_told l) shows (omega (arith, (shown_within s (f ∷ l) t shows).1)))
one_shows s l lsr t shows = ap (λ (q : Queue). pick s.fifo (unmarked q) q) shows ∙ lsr_shows s.fifo l
one_shows s l passes t shows = shows
one_shows s l empties t shows = refl
one_shows s l changes t shows = refl
one_shows s l resets t shows = refl

one_handed : (s : Side) (l : List Followed) (m : Moment) → tidy s ≡ true → Shows s l → reading s m ≡ map handed_as (leaving_by l m)
unfolding oldest_leaves
one_handed s l (arrives ch) t shows = refl
one_handed s [] rbr t shows = pick_true _ _ _ (none_queued_lem s.receiver shows)
one_handed s (f ∷ l) rbr t shows =
    pick_false _ _ _ (some_queued s.receiver (as_told f) (map as_told l) shows)
    ∙ ap (λ (g : Got). handed g ∷ []) (read_oldest s.receiver (as_told f) (map as_told l) shows (omega (arith, (shown_within s (f ∷ l) t shows).1)))
    ∙ ap (λ (n : ℕ). record { character = as_told f; behind = n } ∷ []) (length-map l as_told)
one_handed s l lsr t shows = refl
one_handed s l passes t shows = refl
one_handed s l empties t shows = refl
one_handed s l changes t shows = refl
one_handed s l resets t shows = refl

-- those that leave, as they arrived
abbrev left_as : List Leaving → List Character
left_as leaving = arrived_as (map (λ leaves. leaves.followed) leaving)

lsr_same : (fifo : Bool) (l : List Followed) → arrived_as (seen_by_lsr fifo l) ≡ arrived_as l
unfolding seen_by_lsr
lsr_same fifo [] = refl
lsr_same fifo (f ∷ l) = refl

one_in_order : (fifo : Bool) (l : List Followed) (m : Moment)
    → Subsequence (left_as (leaving_by l m) ++ arrived_as (waiting_after fifo l m)) (arrived_as l ++ arriving m)
unfolding waiting_after oldest_leaves
one_in_order fifo l (arrives ch) =
    subst (λ (k : List Character). Subsequence k (arrived_as l ++ (ch ∷ []))) (sym (joined_each (λ f. f.character) fifo l (fresh ch)))
    (joined_in_order fifo (arrived_as l) ch)
one_in_order fifo [] rbr = ends
one_in_order fifo (f ∷ l) rbr = same_as (sym (append-nil (arrived_as (f ∷ l))))
one_in_order fifo l lsr = same_as (lsr_same fifo l ∙ sym (append-nil (arrived_as l)))
one_in_order fifo l passes = same_as (sym (append-nil (arrived_as l)))
one_in_order fifo l empties = nothing_of _
one_in_order fifo l changes = nothing_of _
one_in_order fifo l resets = nothing_of _

-- ---- a run

pub all_show : (s : Side) (l : List Followed) (ms : List Moment) → tidy s ≡ true → Shows s l → Shows (after_all s ms) (waiting_in s l ms)
unfolding after_all waiting_in
all_show s l [] t shows = shows
all_show s l (m ∷ ms) t shows = all_show (after s m) (waiting_after s.fifo l m) ms (tidy_after s m t) (one_shows s l m t shows)

-- from those that wait on a side
record Run (s : Side) (l : List Followed) (ms : List Moment) : Type 0 where
  given : read_in s ms ≡ map handed_as (leaving_in s l ms)
  in_order : Subsequence (left_as (leaving_in s l ms) ++ arrived_as (waiting_in s l ms)) (arrived_as l ++ arrived_in ms)

left_both : (l m : List Leaving) → left_as (l ++ m) ≡ left_as l ++ left_as m
left_both l m =
    ap arrived_as (map-append (λ leaves. leaves.followed) l m)
    ∙ map-append (λ f. f.character) (map (λ leaves. leaves.followed) l) (map (λ leaves. leaves.followed) m)

run : (s : Side) (l : List Followed) (ms : List Moment) → tidy s ≡ true → Shows s l → Run s l ms
unfolding read_in waiting_in leaving_in arrived_in
run s l [] t shows = record { given = refl; in_order = same_as (sym (append-nil (arrived_as l))) }
run s l (m ∷ ms) t shows =
    let next = after s m in
    let waits = waiting_after s.fifo l m in
    let rest = run next waits ms (tidy_after s m t) (one_shows s l m t shows) in
    record {
      given =
          ap₂ (λ (h k : List Handed). h ++ k) (one_handed s l m t shows) rest.given
          ∙ sym (map-append handed_as (leaving_by l m) (leaving_in next waits ms));
      in_order =
          subst (λ (k : List Character). Subsequence (k ++ arrived_as (waiting_in next waits ms)) (arrived_as l ++ (arriving m ++ arrived_in ms)))
          (sym (left_both (leaving_by l m) (leaving_in next waits ms)))
          (chained (left_as (leaving_by l m)) (left_as (leaving_in next waits ms)) (arrived_as (waiting_in next waits ms)) (arrived_as l) (arrived_as waits)
          (arriving m) (arrived_in ms) (one_in_order s.fifo l m) rest.in_order);
    }

-- ---- in 16450 mode no mark is cleared

-- each is told with the marks it arrived with
abbrev Own : List Followed → Type 0
Own l = map as_told l ≡ arrived_as l

none_cleared : (l : List Followed) → seen_by_lsr false l ≡ l
unfolding seen_by_lsr
none_cleared [] = refl
none_cleared (f ∷ l) = ap (λ (was : Bool). record { character = f.character; cleared = was } ∷ l) (or-false f.cleared)

one_own : (fifo : Bool) (l : List Followed) (m : Moment) → fifo ≡ false → Own l → Own (waiting_after fifo l m)
unfolding waiting_after pick
one_own fifo l (arrives ch) clear own =
    joined_each as_told fifo l (fresh ch) ∙ ap (λ (k : List Character). joined fifo k ch) own ∙ sym (joined_each (λ f. f.character) fifo l (fresh ch))
one_own fifo [] rbr clear own = refl
one_own fifo (f ∷ l) rbr clear own = ap (drop 1) own
one_own fifo l lsr clear own = rw (clear, none_cleared l) own
one_own fifo l passes clear own = own
one_own fifo l empties clear own = refl
one_own fifo l changes clear own = refl
one_own fifo l resets clear own = refl

one_own_leaves : (l : List Followed) (m : Moment) → Own l → map (λ leaves. as_told leaves.followed) (leaving_by l m) ≡ left_as (leaving_by l m)
unfolding oldest_leaves
one_own_leaves l (arrives ch) own = refl
one_own_leaves [] rbr own = refl
one_own_leaves (f ∷ l) rbr own = ap (λ (k : List Character). get_or k 0 no_character ∷ []) own
one_own_leaves l lsr own = refl
one_own_leaves l passes own = refl
one_own_leaves l empties own = refl
one_own_leaves l changes own = refl
one_own_leaves l resets own = refl

all_own : (s : Side) (l : List Followed) (ms : List Moment) → in16450 s ms ≡ true → Own l
    → (map (λ leaves. as_told leaves.followed) (leaving_in s l ms) ≡ left_as (leaving_in s l ms)) × Own (waiting_in s l ms)
unfolding in16450 leaving_in waiting_in
all_own s l [] mode own = (refl, own)
all_own s l (m ∷ ms) mode own =
    let both = both_hold (not s.fifo) (in16450 (after s m) ms) mode in
    let waits = waiting_after s.fifo l m in
    let rest = all_own (after s m) waits ms both.1 (one_own s.fifo l m (not-true _ both.0) own) in (
      map-append (λ leaves. as_told leaves.followed) (leaving_by l m) (leaving_in (after s m) waits ms)
          ∙ ap₂ (λ (h k : List Character). h ++ k) (one_own_leaves l m own) rest.0
          ∙ sym (left_both (leaving_by l m) (leaving_in (after s m) waits ms)),
      rest.1,
    )

-- ---- from a sound side

told_fresh : (l : List Character) → (map as_told (map fresh l) ≡ l) × (arrived_as (map fresh l) ≡ l)
unfolding pick
told_fresh [] = (refl, refl)
told_fresh (ch ∷ l) =
    let rest = told_fresh l in
    (ap (λ (k : List Character). ch ∷ k) rest.0, ap (λ (k : List Character). ch ∷ k) rest.1)

-- at first every character is as it arrived
pub first_shows : (s : Side) → tidy s ≡ true → Shows s (map fresh (held s))
first_shows s t =
    let h = holds (capacity s.fifo) s.receiver.queue t in
    let same : held s ≡ h.list = ap contents h.same ∙ contents_of h.list in
    h.same ∙ ap holding (sym ((told_fresh (held s)).0 ∙ same))

handed_characters : (l : List Leaving) → characters (map handed_as l) ≡ map (λ leaves. as_told leaves.followed) l
handed_characters [] = refl
handed_characters (leaves ∷ l) = ap (λ (k : List Character). as_told leaves.followed ∷ k) (handed_characters l)

pub letters : (s : Side) (ms : List Moment) → sound_receiver s.fifo s.receiver ≡ true → Letters s ms (read_in s ms) (held (after_all s ms))
letters s ms sound =
    let t = (parts s.fifo s.receiver sound).tidy in
    let l = map fresh (held s) in
    let r = run s l ms t (first_shows s t) in
    let left : held (after_all s ms) ≡ map as_told (waiting_in s l ms) = ap contents (all_show s l ms t (first_shows s t)) ∙ contents_of (map as_told (waiting_in s l ms)) in
    let order = subst (λ (k : List Character). Subsequence (left_as (leaving_in s l ms) ++ arrived_as (waiting_in s l ms)) (k ++ arrived_in ms)) (told_fresh (held s)).1 r.in_order in
    record {
      given_as = r.given;
      left_as = left;
      in_order = order;
      told_in_16450_mode = λ mode.
          let own = all_own s l ms mode ((told_fresh (held s)).0 ∙ sym (told_fresh (held s)).1) in
          let told : characters (read_in s ms) ++ held (after_all s ms) ≡ left_as (leaving_in s l ms) ++ arrived_as (waiting_in s l ms)
          = ap₂ (λ (h k : List Character). h ++ k) (ap characters r.given ∙ handed_characters (leaving_in s l ms) ∙ own.0) (left ∙ own.1) in
          subst (λ (k : List Character). Subsequence k (held s ++ arrived_in ms)) (sym told) order;
    }

-- what `told_in_16450_mode` asks for is met, whatever LSR reads lie between
abbrev marked : Moment
marked = arrives (record { «data» = 0x41; marks = 1 })

pub lsr_reads_between : in16450 at_power_up (marked ∷ lsr ∷ marked ∷ lsr ∷ rbr ∷ lsr ∷ passes ∷ empties ∷ resets ∷ marked ∷ []) ≡ true
unfolding in16450 after
lsr_reads_between = refl
