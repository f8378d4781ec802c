-- A character that was read in FIFO mode has its marks, unless LSR was read while it was the oldest.
use Rattle.std.specs.Prelude.{ℕ, zero, suc, ◌<◌, Bool, false, ◌||◌, ◌≡◌, refl, ltb, replicate}
use Rattle.std.proofs.Math.Bool.{true, or-false, or_assoc}
use mathlib.Core.List.{List, [], ◌∷◌, ◌++◌, map, append_assoc}
use Rattle.std.proofs.Math.Path.{ap, sym}
use Rattle.std.proofs.Common.{subst, ◌∙◌, arith}
use Rattle.std.proofs.Math.ListN.{length, length-map}
use Rattle.std.proofs.lemmas.List.{length-replicate}
use Rattle.base.specs.Pick.{pick}
use Rattle.base.specs.PickLaws.{pick_cases, both_hold, never}
use Rattle.queue.specs.declared.Character.{Character}
use Rattle.queue.specs.Queue.{room, entered, capacity, accepted, plain}
use Rattle.queue.specs.Joining.{joined}
use Rattle.queue.proofs.JoiningLaws.{joined_room}
use Rattle.receiver.specs.declared.Got.{Got}
use Rattle.receiver.specs.Receiver.{quiet, timeout_stands, received}
use Rattle.receiver.specs.CallLaws.{read_oldest}
use Rattle.receiver.specs.Sound.{sound_receiver}
use Rattle.receiver.proofs.SoundLaws.{parts}
use Rattle.receiver.specs.Ledger.{Moment, arrives, rbr, lsr, passes, empties, changes, resets, Side, after, after_all, held, handed}
use Rattle.receiver.proofs.SideLaws.{all_tidy, after_both}
use Rattle.receiver.specs.Letters.{Followed, fresh, as_told, seen_by_lsr, waiting_after, waiting_in}
use Rattle.receiver.proofs.LetterLaws.{Shows, shown_within, all_show, first_shows}
use Rattle.receiver.specs.OneLetter.{stays, all_stay, is_lsr, lsr_among, reads_after, each_stays, Lived, ReadAs}

-- ---- one moment that leaves the queue alone

-- one that is joined stands behind all others, or is lost
joined_behind : (l m : List Followed) (x : Followed) → (k : List Followed) × (joined true (l ++ m) x ≡ l ++ k)
unfolding joined pick
joined_behind l m x =
    pick_cases (λ y. (k : List Followed) × (y ≡ l ++ k)) (ltb (length (l ++ m)) 16) ((l ++ m) ++ (x ∷ [])) (l ++ m)
    (λ less. (m ++ (x ∷ []), append_assoc l m (x ∷ [])))
    (λ more. (m, refl))

-- the oldest after it
abbrev seen : Bool → Followed → Followed
seen by f = record { character = f.character; cleared = f.cleared || by }

-- one that is not the oldest is as before
behind_one : (m : Moment) (b : Followed) (l : List Followed) (f : Followed) (k : List Followed) → stays m ≡ true
    → (b' : Followed) × (k' : List Followed) × (waiting_after true (b ∷ (l ++ (f ∷ k))) m ≡ b' ∷ (l ++ (f ∷ k')))
unfolding stays waiting_after seen_by_lsr
behind_one (arrives ch) b l f k e =
    let j = joined_behind (b ∷ (l ++ (f ∷ []))) k (fresh ch) in (
      b,
      j.0,
      ap (λ (x : List Followed). joined true (b ∷ x) (fresh ch)) (sym (append_assoc l (f ∷ []) k)) ∙ j.1 ∙ ap (λ (x : List Followed). b ∷ x) (append_assoc l (f ∷ []) j.0),
    )
behind_one rbr b l f k e = absurd (never e)
behind_one lsr b l f k e = (seen true b, k, refl)
behind_one passes b l f k e = (b, k, refl)
behind_one empties b l f k e = absurd (never e)
behind_one changes b l f k e = absurd (never e)
behind_one resets b l f k e = absurd (never e)

-- the oldest is as before but for an LSR read
oldest_one : (m : Moment) (f : Followed) (k : List Followed) → stays m ≡ true → (k' : List Followed) × (waiting_after true (f ∷ k) m ≡ seen (is_lsr m) f ∷ k')
unfolding stays is_lsr waiting_after seen_by_lsr
oldest_one (arrives ch) f k e =
    let j = joined_behind (f ∷ []) k (fresh ch) in
    (j.0, j.1 ∙ ap (λ (was : Bool). record { character = f.character; cleared = was } ∷ j.0) (sym (or-false f.cleared)))
oldest_one rbr f k e = absurd (never e)
oldest_one lsr f k e = (k, refl)
oldest_one passes f k e = (k, ap (λ (was : Bool). record { character = f.character; cleared = was } ∷ k) (sym (or-false f.cleared)))
oldest_one empties f k e = absurd (never e)
oldest_one changes f k e = absurd (never e)
oldest_one resets f k e = absurd (never e)

stays_mode : (s : Side) (m : Moment) → stays m ≡ true → (after s m).fifo ≡ s.fifo
unfolding stays after
stays_mode s (arrives ch) e = refl
stays_mode s rbr e = refl
stays_mode s lsr e = refl
stays_mode s passes e = refl
stays_mode s empties e = refl
stays_mode s changes e = absurd (never e)
stays_mode s resets e = absurd (never e)

-- ---- a run

waiting_both : (s : Side) (l : List Followed) (ms ns : List Moment) → waiting_in s l (ms ++ ns) ≡ waiting_in (after_all s ms) (waiting_in s l ms) ns
unfolding waiting_in after_all
waiting_both s l [] ns = refl
waiting_both s l (m ∷ ms) ns = waiting_both (after s m) (waiting_after s.fifo l m) ms ns

all_mode : (s : Side) (ms : List Moment) → s.fifo ≡ true → all_stay ms ≡ true → (after_all s ms).fifo ≡ true
unfolding all_stay after_all
all_mode s [] on e = on
all_mode s (m ∷ ms) on e =
    let both = both_hold (stays m) (all_stay ms) e in
    all_mode (after s m) ms (stays_mode s m both.0 ∙ on) both.1

behind_all : (s : Side) (ms : List Moment) (b : Followed) (l : List Followed) (f : Followed) (k : List Followed) → s.fifo ≡ true → all_stay ms ≡ true
    → (b' : Followed) × (k' : List Followed) × (waiting_in s (b ∷ (l ++ (f ∷ k))) ms ≡ b' ∷ (l ++ (f ∷ k')))
unfolding all_stay waiting_in
behind_all s [] b l f k on e = (b, k, refl)
behind_all s (m ∷ ms) b l f k on e =
    let both = both_hold (stays m) (all_stay ms) e in
    let one = behind_one m b l f k both.0 in
    let rest = behind_all (after s m) ms one.0 l f one.1 (stays_mode s m both.0 ∙ on) both.1 in (
      rest.0,
      rest.1,
      ap (λ (fifo : Bool). waiting_in (after s m) (waiting_after fifo (b ∷ (l ++ (f ∷ k))) m) ms) on ∙ ap (λ (x : List Followed). waiting_in (after s m) x ms) one.2
          ∙ rest.2,
    )

oldest_all : (s : Side) (ms : List Moment) (f : Followed) (k : List Followed) → s.fifo ≡ true → all_stay ms ≡ true
    → (k' : List Followed) × (waiting_in s (f ∷ k) ms ≡ seen (lsr_among ms) f ∷ k')
unfolding all_stay lsr_among waiting_in
oldest_all s [] f k on e = (k, ap (λ (was : Bool). record { character = f.character; cleared = was } ∷ k) (sym (or-false f.cleared)))
oldest_all s (m ∷ ms) f k on e =
    let both = both_hold (stays m) (all_stay ms) e in
    let one = oldest_one m f k both.0 in
    let rest = oldest_all (after s m) ms (seen (is_lsr m) f) one.0 (stays_mode s m both.0 ∙ on) both.1 in (
      rest.0,
      ap (λ (fifo : Bool). waiting_in (after s m) (waiting_after fifo (f ∷ k) m) ms) on ∙ ap (λ (x : List Followed). waiting_in (after s m) x ms) one.1
          ∙ rest.1 ∙ ap (λ (was : Bool). record { character = f.character; cleared = was } ∷ rest.0) (or_assoc f.cleared (is_lsr m) (lsr_among ms)),
    )

-- those before it are read, and it is the oldest
reads_all : (s : Side) (ahead : List (List Moment)) (l : List Followed) (f : Followed) (k : List Followed) → s.fifo ≡ true → each_stays ahead ≡ true
    → length ahead ≡ length l → (k' : List Followed) × (waiting_in s (l ++ (f ∷ k)) (reads_after ahead) ≡ f ∷ k')
unfolding each_stays reads_after waiting_in waiting_after after
reads_all s [] [] f k on e same = (k, refl)
reads_all s [] (b ∷ l) f k on e same = absurd (omega arith)
reads_all s (ms ∷ rest) [] f k on e same = absurd (omega arith)
reads_all s (ms ∷ rest) (b ∷ l) f k on e same =
    let both = both_hold (all_stay ms) (each_stays rest) e in
    let one = behind_all s ms b l f k on both.0 in
    let there = after_all s ms in
    let next = reads_all (after there rbr) rest l f one.1 (all_mode s ms on both.0) both.1 (omega arith) in (
      next.0,
      waiting_both s (b ∷ (l ++ (f ∷ k))) ms (rbr ∷ reads_after rest) ∙ ap (λ (x : List Followed). waiting_in there x (rbr ∷ reads_after rest)) one.2
          ∙ next.1,
    )

all_reads_mode : (s : Side) (ahead : List (List Moment)) → s.fifo ≡ true → each_stays ahead ≡ true → (after_all s (reads_after ahead)).fifo ≡ true
unfolding each_stays reads_after after after_all
all_reads_mode s [] on e = on
all_reads_mode s (ms ∷ rest) on e =
    let both = both_hold (all_stay ms) (each_stays rest) e in
    ap (λ (t : Side). t.fifo) (after_both s ms (rbr ∷ reads_after rest))
    ∙ all_reads_mode (after (after_all s ms) rbr) rest (all_mode s ms on both.0) both.1

-- ---- the character that is read then

told_by_lem : (was : Bool) (ch : Character) → pick was (plain ch) ch ≡ record { «data» = ch.«data»; marks = pick was 0 ch.marks }
unfolding pick
told_by_lem true ch = refl
told_by_lem false ch = refl

module _ (s : Side) (ch : Character) (ahead : List (List Moment)) (oldest : List Moment) (lived : Lived s ahead oldest) where
  abbrev first : List Followed
  first = map fresh (held s)

  abbrev all : List Moment
  all = arrives ch ∷ (reads_after ahead ++ oldest)

  -- it waits alone in front
  waits_in_front : (k : List Followed) × (waiting_in s first all ≡ seen (lsr_among oldest) (fresh ch) ∷ k)
  unfolding waiting_in waiting_after after pick
  waits_in_front =
      let count : length first ≡ length (held s) = length-map (held s) fresh in
      let here = after s (arrives ch) in
      let on : here.fifo ≡ true = lived.mode in
      let comes : joined s.fifo first (fresh ch) ≡ first ++ (fresh ch ∷ [])
      = ap (λ (fifo : Bool). joined fifo first (fresh ch)) lived.mode ∙ joined_room true first (fresh ch) (omega (arith, count, lived.room)) in
      let reads = reads_all here ahead first (fresh ch) [] on lived.read (lived.before ∙ sym count) in
      let stays = oldest_all (after_all here (reads_after ahead)) oldest (fresh ch) reads.0 (all_reads_mode here ahead on lived.read) lived.waits in (
        stays.0,
        ap (λ (x : List Followed). waiting_in here x (reads_after ahead ++ oldest)) comes ∙ waiting_both here (first ++ (fresh ch ∷ [])) (reads_after ahead) oldest
            ∙ ap (λ (x : List Followed). waiting_in (after_all here (reads_after ahead)) x oldest) reads.1 ∙ stays.1,
      )

  pub read_as : sound_receiver s.fifo s.receiver ≡ true → ReadAs s ch ahead oldest
  read_as sound =
      let t = (parts s.fifo s.receiver sound).tidy in
      let end = after_all s all in
      let f = seen (lsr_among oldest) (fresh ch) in
      let k = waits_in_front.0 in
      let shows : Shows end (f ∷ k) = subst (Shows end) waits_in_front.1 (all_show s first all t (first_shows s t)) in
      let fits : length (map as_told k) < 16 = omega (arith, (shown_within end (f ∷ k) (all_tidy s all t) shows).1) in
      ap (λ (g : Got). (handed g).character) (read_oldest end.receiver (as_told f) (map as_told k) shows fits) ∙ told_by_lem (lsr_among oldest) ch

-- its premises are met: one is before it, over which LSR is read and another arrives; and then LSR is read once more
abbrev waiting : Side
waiting = record { fifo = true; receiver = received true quiet (record { «data» = 0x41; marks = 1 }) }

pub lived_so : Lived waiting ((lsr ∷ arrives (record { «data» = 0x43; marks = 0 }) ∷ []) ∷ []) (passes ∷ lsr ∷ [])
unfolding received accepted capacity room entered pick timeout_stands each_stays all_stay stays
lived_so = record { mode = refl; room = omega arith; before = refl; read = refl; waits = refl }

-- and by every side in FIFO mode that has room, with an LSR read before each read
lsr_before_each : (n : ℕ) → each_stays (replicate n (lsr ∷ [])) ≡ true
unfolding each_stays all_stay stays
lsr_before_each zero = refl
lsr_before_each (suc n) = lsr_before_each n

pub lived_always : (s : Side) → s.fifo ≡ true → length (held s) < 16 → Lived s (replicate (length (held s)) (lsr ∷ [])) (lsr ∷ [])
unfolding all_stay stays
lived_always s on less =
    let n = length (held s) in
    record { mode = on; room = less; before = length-replicate n (lsr ∷ []); read = lsr_before_each n; waits = refl }
