-- The receive ledger holds of every run from any sound side.
use Rattle.std.specs.Prelude.{ℕ, ◌+◌, ◌<◌, ◌≤◌, Bool, true, false, List, [], ◌∷◌, ◌++◌, map, ◌≡◌, refl, leb, length}
use Rattle.std.proofs.lemmas.List.{map-append, length-map}
use Rattle.std.proofs.Common.{ap, ap₂, sym, subst, ◌∙◌, arith, length-append, le-leb}
use Rattle.std.proofs.lemmas.Bool.{lt-leb}
use Rattle.base.specs.Pick.{pick}
use Rattle.base.specs.PickLaws.{pick_true, pick_false, pick_through, pick_same}
use Rattle.base.specs.Subsequences.{Subsequence}
use Rattle.base.specs.SubsequenceLaws.{each}
use Rattle.queue.specs.declared.Character.{Character}
use Rattle.queue.specs.declared.Queue.{Queue}
use Rattle.queue.specs.declared.Put.{Put}
use Rattle.queue.specs.Queue.{capacity, contents, accepted, unmarked, plain}
use Rattle.queue.proofs.QueueLaws.{holding, contents_of, unmark_oldest, unmark_none}
use Rattle.queue.proofs.CanonicalLaws.{holds}
use Rattle.queue.proofs.AcceptLaws.{accept_cases}
use Rattle.receiver.specs.declared.Got.{Got}
use Rattle.receiver.specs.Receiver.{received, got, lsr_seen, waited, cleared, after_mode_change, restarted}
use Rattle.receiver.specs.CallLaws.{none_queued_lem, some_queued, read_oldest, read_none}
use Rattle.receiver.specs.Sound.{sound_receiver}
use Rattle.receiver.proofs.SoundLaws.{parts, power_up_sound}
use Rattle.receiver.specs.Ledger.{Moment, arrives, rbr, lsr, passes, empties, changes, resets, Side, after, after_all, at_power_up, held, bytes, queued, number}
use Rattle.receiver.specs.Ledger.{handed, characters, arriving, reading, losing, dropping, arrived_in, read_in, lost_in, dropped_in, Ledger}
use Rattle.receiver.proofs.SideLaws.{tidy, tidy_after, all_tidy}
use Rattle.receiver.specs.Letters.{Followed, fresh, as_told, waiting_in, Leaving, leaving_in, arrived_as, handed_as}
use Rattle.receiver.proofs.LetterLaws.{letters}

-- ---- in order: that of the characters as they arrived, of which LSR reads change no byte

told_bytes : (f : Followed) → (as_told f).«data» ≡ f.character.«data»
told_bytes f = pick_through (λ (ch : Character). ch.«data») f.cleared _ _ ∙ pick_same f.cleared f.character.«data»

left_bytes : (l : List Followed) → bytes (map as_told l) ≡ bytes (arrived_as l)
left_bytes [] = refl
left_bytes (f ∷ l) = ap₂ (λ (n : ℕ) (k : List ℕ). n ∷ k) (told_bytes f) (left_bytes l)

read_bytes : (l : List Leaving) → bytes (characters (map handed_as l)) ≡ bytes (arrived_as (map (λ leaves. leaves.followed) l))
read_bytes [] = refl
read_bytes (leaves ∷ l) = ap₂ (λ (n : ℕ) (k : List ℕ). n ∷ k) (told_bytes leaves.followed) (read_bytes l)

run_in_order : (s : Side) (ms : List Moment) → sound_receiver s.fifo s.receiver ≡ true
    → Subsequence (bytes (characters (read_in s ms)) ++ queued (after_all s ms)) (queued s ++ bytes (arrived_in ms))
run_in_order s ms sound =
    let l = letters s ms sound in
    let first = map fresh (held s) in
    let leaving = map (λ leaves. leaves.followed) (leaving_in s first ms) in
    let waiting = waiting_in s first ms in
    let now : bytes (arrived_as leaving ++ arrived_as waiting) ≡ bytes (characters (read_in s ms)) ++ queued (after_all s ms)
    = map-append (λ ch. ch.«data») (arrived_as leaving) (arrived_as waiting)
    ∙ ap₂ (λ (h k : List ℕ). h ++ k) (sym (ap (λ h. bytes (characters h)) l.given_as ∙ read_bytes (leaving_in s first ms)))
    (sym (ap bytes l.left_as ∙ left_bytes waiting)) in
    subst (λ (k : List ℕ). Subsequence k (queued s ++ bytes (arrived_in ms))) now
    (subst (Subsequence (bytes (arrived_as leaving ++ arrived_as waiting))) (map-append (λ ch. ch.«data») (held s) (arrived_in ms))
    (each (λ ch. ch.«data») l.in_order))

-- ---- balanced, moment by moment, where the queue holds this list

abbrev Entry : Side → Moment → List Character → Type 0
Entry s m l = length (arriving m) + length (bytes l) ≡ length (reading s m) + losing s m + dropping s m + length (queued (after s m))

held_bytes : (l : List Character) → bytes (contents (holding l)) ≡ bytes l
held_bytes l = ap bytes (contents_of l)

byte_count : (l : List Character) → length (bytes l) ≡ length l
byte_count l = length-map l (λ (ch : Character). ch.«data»)

held_count : (l : List Character) → length (bytes (contents (holding l))) ≡ length l
held_count l = ap length (held_bytes l) ∙ byte_count l

-- how many an arrival loses that finds this list
abbrev lost_from : Bool → List Character → ℕ
lost_from fifo l = pick (leb (capacity fifo) (length l)) 1 0

-- what an acceptance leaves of those held and the new one, and how many go
abbrev Accounted : Bool → List Character → Put → Type 0
Accounted fifo l p = 1 + length (bytes l) ≡ lost_from fifo l + length (bytes (contents p.queue))

accounted : (fifo : Bool) (l : List Character) (ch : Character) → length l ≤ capacity fifo → Accounted fifo l (accepted fifo (holding l) ch)
accounted fifo l ch within =
    let n = byte_count l in
    let full : capacity fifo ≤ length l → lost_from fifo l ≡ 1
    = λ (more : capacity fifo ≤ length l). pick_true _ _ _ (le-leb (capacity fifo) (length l) more) in
    accept_cases fifo l ch (Accounted fifo l) within
    (λ (less : length l < capacity fifo).
    let room : lost_from fifo l ≡ 0 = pick_false _ _ _ (lt-leb (capacity fifo) (length l) less) in
    omega (arith, n, room, held_count (l ++ (ch ∷ [])), length-append l (ch ∷ [])))
    (λ (more : capacity fifo ≤ length l) mode. omega (arith, n, full more, held_count l))
    (λ old (more : capacity fifo ≤ length l) mode (one : l ≡ old ∷ []). omega (arith, n, full more, held_count (ch ∷ []), ap length one))

held_queued : (s : Side) (l : List Character) → s.receiver.queue ≡ holding l → queued s ≡ bytes l
held_queued s l held = ap (λ (q : Queue). bytes (contents q)) held ∙ held_bytes l

held_number : (s : Side) (l : List Character) → s.receiver.queue ≡ holding l → number s ≡ length (bytes l)
held_number s l held = ap (λ (q : Queue). q.count) held ∙ sym (byte_count l)

bytes_unmarked : (l : List Character) → bytes (contents (unmarked (holding l))) ≡ bytes l
bytes_unmarked [] = ap (λ (q : Queue). bytes (contents q)) unmark_none
bytes_unmarked (ch ∷ l) = ap (λ (q : Queue). bytes (contents q)) (unmark_oldest ch l) ∙ held_bytes (plain ch ∷ l)

entry_arrives : (s : Side) (l : List Character) (ch : Character) → length l ≤ capacity s.fifo → s.receiver.queue ≡ holding l → Entry s (arrives ch) l
unfolding after received
entry_arrives s l ch within held =
    let left : queued (after s (arrives ch)) ≡ bytes (contents (accepted s.fifo (holding l) ch).queue)
    = ap (λ (q : Queue). bytes (contents (accepted s.fifo q ch).queue)) held in
    let lost : losing s (arrives ch) ≡ lost_from s.fifo l
    = ap (λ (q : Queue). pick (leb (capacity s.fifo) q.count) 1 0) held in
    omega (arith, accounted s.fifo l ch within, lost, ap length left)

entry_rbr : (s : Side) (l : List Character) → length l ≤ 16 → s.receiver.queue ≡ holding l → Entry s rbr l
unfolding after
entry_rbr s [] fits held =
    let none : reading s rbr ≡ [] = pick_true _ _ _ (none_queued_lem s.receiver held) in
    let left : queued (after s rbr) ≡ []
    = ap (λ (g : Got). bytes (contents g.receiver.queue)) (read_none s.receiver held) ∙ held_queued s [] held in
    rw (none, left)
entry_rbr s (ch ∷ l) fits held =
    let next = read_oldest s.receiver ch l held fits in
    let one : length (reading s rbr) ≡ 1 = ap length (pick_false _ [] (handed (got s.receiver) ∷ []) (some_queued s.receiver ch l held)) in
    let left : queued (after s rbr) ≡ bytes l = ap (λ (g : Got). bytes (contents g.receiver.queue)) next ∙ held_bytes l in
    rw (one, left) (omega arith)

-- a moment that leaves as many as there are
entry_stays : (s : Side) (m : Moment) (l : List Character) → reading s m ≡ [] → arriving m ≡ [] → losing s m ≡ 0 → dropping s m ≡ 0
    → queued (after s m) ≡ bytes l → Entry s m l
entry_stays s m l reads comes loses drops left = rw (reads, comes, loses, drops, left)

-- a moment that drops them all
entry_drops : (s : Side) (m : Moment) (l : List Character) → reading s m ≡ [] → arriving m ≡ [] → losing s m ≡ 0 → dropping s m ≡ length (bytes l)
    → queued (after s m) ≡ [] → Entry s m l
entry_drops s m l reads comes loses drops left = rw (reads, comes, loses, drops, left) (omega arith)

entry : (s : Side) (m : Moment) (l : List Character) → length l ≤ capacity s.fifo → length l ≤ 16 → s.receiver.queue ≡ holding l → Entry s m l
unfolding after lsr_seen waited cleared after_mode_change restarted
entry s (arrives ch) l within fits held = entry_arrives s l ch within held
entry s rbr l within fits held = entry_rbr s l fits held
entry s lsr l within fits held =
    entry_stays s lsr l refl refl refl refl
    (pick_through (λ (q : Queue). bytes (contents q)) s.fifo _ _
    ∙ ap₂ (pick s.fifo) (ap (λ (q : Queue). bytes (contents (unmarked q))) held ∙ bytes_unmarked l) (held_queued s l held)
    ∙ pick_same s.fifo (bytes l))
entry s passes l within fits held = entry_stays s passes l refl refl refl refl (held_queued s l held)
entry s empties l within fits held = entry_drops s empties l refl refl refl (held_number s l held) refl
entry s changes l within fits held = entry_drops s changes l refl refl refl (held_number s l held) refl
entry s resets l within fits held = entry_drops s resets l refl refl refl (held_number s l held) refl

-- ---- a run

run_balanced : (s : Side) (ms : List Moment) → tidy s ≡ true
    → length (arrived_in ms) + length (queued s) ≡ length (read_in s ms) + lost_in s ms + dropped_in s ms + length (queued (after_all s ms))
unfolding after_all arrived_in read_in lost_in dropped_in
run_balanced s [] t = omega arith
run_balanced s (m ∷ ms) t =
    let h = holds (capacity s.fifo) s.receiver.queue t in
    let e = entry s m h.list h.within h.fits h.same in
    let now = held_queued s h.list h.same in
    let rest = run_balanced (after s m) ms (tidy_after s m t) in
    omega (arith, e, rest, ap length now, length-append (arriving m) (arrived_in ms), length-append (reading s m) (read_in (after s m) ms))

-- from any sound side
pub ledger : (s : Side) (ms : List Moment) → sound_receiver s.fifo s.receiver ≡ true → Ledger s ms
ledger s ms sound =
    record { in_order = run_in_order s ms sound; balanced = run_balanced s ms (parts s.fifo s.receiver sound).tidy }

-- in the queue's own number, which is how many it holds
number_held : (s : Side) → tidy s ≡ true → length (queued s) ≡ number s
number_held s t =
    let h = holds (capacity s.fifo) s.receiver.queue t in
    ap length (held_queued s h.list h.same) ∙ sym (held_number s h.list h.same)

pub balanced_number : (s : Side) (ms : List Moment) → sound_receiver s.fifo s.receiver ≡ true
    → length (arrived_in ms) + number s ≡ length (read_in s ms) + lost_in s ms + dropped_in s ms + number (after_all s ms)
balanced_number s ms sound =
    let t = (parts s.fifo s.receiver sound).tidy in
    omega (arith, run_balanced s ms t, number_held s t, number_held (after_all s ms) (all_tidy s ms t))

-- from power-up, where nothing is queued: what is read and what still waits came in that order, and what arrived was read, lost or dropped, or waits
pub ledger_from_power_up : (ms : List Moment)
    → (Subsequence (bytes (characters (read_in at_power_up ms)) ++ queued (after_all at_power_up ms)) (bytes (arrived_in ms)))
    × (length (arrived_in ms) ≡ length (read_in at_power_up ms) + lost_in at_power_up ms + dropped_in at_power_up ms + length (queued (after_all at_power_up ms)))
ledger_from_power_up ms =
    let l = ledger at_power_up ms (power_up_sound false) in
    (l.in_order, omega (arith, l.balanced))
