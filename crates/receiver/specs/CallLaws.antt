-- What each call does, in terms of the list of characters that the queue holds, the oldest first.
use Rattle.std.specs.Prelude.{ℕ, suc, ◌<◌, ◌≤◌, Bool, not, ◌||◌, List, [], ◌∷◌, ◌++◌, ◌≡◌, refl, ltb, leb, length}
use Rattle.std.proofs.Math.Bool.{true, false, or-true, or-false}
use Rattle.std.proofs.Math.Path.{ap}
use Rattle.std.proofs.Common.{sym, ◌∙◌, arith, lt-ltb, le-leb, eq-eqb, ne_eqb}
use Rattle.std.proofs.lemmas.Bool.{lt-leb}
use Rattle.base.specs.Pick.{pick}
use Rattle.base.specs.Bits.{bit}
use Rattle.base.specs.Answers.{no_figures}
use Rattle.base.specs.PickLaws.{pick_true, pick_false}
use Rattle.base.proofs.BitLaws.{bit_or_lem}
use Rattle.queue.specs.declared.Character.{Character}
use Rattle.queue.specs.declared.Queue.{Queue}
use Rattle.queue.specs.declared.Put.{Put}
use Rattle.queue.specs.declared.Taken.{Taken}
use Rattle.queue.specs.Queue.{empty_queue, capacity, accepted, taken, plain, oldest, unmarked, any_marked, marked}
use Rattle.queue.proofs.QueueLaws.{holding, take_oldest, unmark_oldest, unmark_none, oldest_is, oldest_none, marked_is}
use Rattle.queue.proofs.AcceptLaws.{accept_room, accept_lost, accept_replaced, accept_cases}
use Rattle.receiver.specs.declared.Receiver.{Receiver}
use Rattle.receiver.specs.declared.Got.{Got}
use Rattle.receiver.specs.Receiver.{quiet, none_queued, count_after_arrival, received, got, shown_marks, some_marked, lsr_seen, cleared, after_mode_change, fcr_heard, restarted, data_stands}

pub none_queued_lem : (r : Receiver) → r.queue ≡ holding [] → none_queued r ≡ true
unfolding none_queued
none_queued_lem r held = eq-eqb _ _ (ap (λ (q : Queue). q.count) held)

pub some_queued : (r : Receiver) (ch : Character) (l : List Character) → r.queue ≡ holding (ch ∷ l) → none_queued r ≡ false
unfolding none_queued
some_queued r ch l held =
    let n : r.queue.count ≡ suc (length l) = ap (λ (q : Queue). q.count) held in
    ne_eqb _ _ (λ (e : r.queue.count ≡ 0). omega arith)

-- ---- arrival

-- the receive side with another queue and overrun, as an arrival in FIFO mode leaves it
abbrev arrived_with : Receiver → Queue → Bool → Receiver
arrived_with r q overrun = record { queue = q; overrun = overrun; kept = r.kept; timeout = count_after_arrival r; last = r.last }

module _ (r : Receiver) (l : List Character) (ch : Character) (held : r.queue ≡ holding l) where
  -- FIFO mode with room: behind the others, and no mark is kept
  pub arrive_fifo : length l < 16
      → received true r ch ≡ record { queue = holding (l ++ (ch ∷ [])); overrun = r.overrun; kept = r.kept; timeout = count_after_arrival r; last = r.last }
  unfolding received capacity pick
  arrive_fifo less =
      let a : accepted true r.queue ch ≡ record { queue = holding (l ++ (ch ∷ [])); full = false }
      = ap (λ (q : Queue). accepted true q ch) held ∙ accept_room true l ch less in
      ap (λ (p : Put). arrived_with r p.queue (r.overrun || p.full)) a ∙ ap (arrived_with r (holding (l ++ (ch ∷ [])))) (or-false r.overrun)

  -- FIFO mode, full: the queue stays, and overrun is set
  pub arrive_fifo_full : length l ≡ 16
      → received true r ch ≡ record { queue = holding l; overrun = true; kept = r.kept; timeout = count_after_arrival r; last = r.last }
  unfolding received pick
  arrive_fifo_full full =
      let a : accepted true r.queue ch ≡ record { queue = holding l; full = true }
      = ap (λ (q : Queue). accepted true q ch) held ∙ accept_lost l ch (omega arith) in
      ap (λ (p : Put). arrived_with r p.queue (r.overrun || p.full)) a ∙ ap (arrived_with r (holding l)) (or-true r.overrun)

-- what an arrival in 16450 mode leaves: the new character alone, and its marks beside the marks kept before, bit by bit
pub record Arrived16450 (r : Receiver) (ch : Character) (overrun : Bool) : Type 0 where
  pub alone : (received false r ch).queue ≡ holding (ch ∷ [])
  pub overrun_after : (received false r ch).overrun ≡ overrun
  pub marks_added : (k : ℕ) → bit k (received false r ch).kept ≡ (bit k r.kept || bit k ch.marks)
  pub count_after : (received false r ch).timeout ≡ count_after_arrival r
  pub last_stays : (received false r ch).last ≡ r.last

-- 16450 mode with room
pub arrive_16450 : (r : Receiver) (ch : Character) → r.queue ≡ holding [] → Arrived16450 r ch r.overrun
unfolding received capacity pick
arrive_16450 r ch held =
    let a : accepted false r.queue ch ≡ record { queue = holding (ch ∷ []); full = false }
    = ap (λ (q : Queue). accepted false q ch) held ∙ accept_room false [] ch (omega arith) in
    record {
      alone = ap (λ (p : Put). p.queue) a;
      overrun_after = ap (λ (p : Put). r.overrun || p.full) a ∙ or-false r.overrun;
      marks_added = λ k. bit_or_lem k r.kept ch.marks;
      count_after = refl;
      last_stays = refl;
    }

-- 16450 mode, full: the new one stands in the old one's place, and overrun is set
pub arrive_16450_full : (r : Receiver) (old ch : Character) → r.queue ≡ holding (old ∷ []) → Arrived16450 r ch true
unfolding received pick
arrive_16450_full r old ch held =
    let a : accepted false r.queue ch ≡ record { queue = holding (ch ∷ []); full = true }
    = ap (λ (q : Queue). accepted false q ch) held ∙ accept_replaced old ch in
    record {
      alone = ap (λ (p : Put). p.queue) a;
      overrun_after = ap (λ (p : Put). r.overrun || p.full) a ∙ or-true r.overrun;
      marks_added = λ k. bit_or_lem k r.kept ch.marks;
      count_after = refl;
      last_stays = refl;
    }

-- in both modes overrun is set by an arrival that finds the queue full, and by no other
pub arrive_overrun : (fifo : Bool) (r : Receiver) (l : List Character) (ch : Character) → r.queue ≡ holding l → length l ≤ capacity fifo
    → (received fifo r ch).overrun ≡ (r.overrun || leb (capacity fifo) (length l))
unfolding received
arrive_overrun fifo r l ch held within =
    ap (λ (q : Queue). r.overrun || (accepted fifo q ch).full) held
    ∙ accept_cases fifo l ch (λ (p : Put). (r.overrun || p.full) ≡ (r.overrun || leb (capacity fifo) (length l))) within
    (λ less. ap (λ (b : Bool). r.overrun || b) (sym (lt-leb (capacity fifo) (length l) less)))
    (λ more mode. ap (λ (b : Bool). r.overrun || b) (sym (le-leb (capacity fifo) (length l) more)))
    (λ old more mode one. ap (λ (b : Bool). r.overrun || b) (sym (le-leb (capacity fifo) (length l) more)))

-- ---- RBR read

-- the oldest leaves and is the last byte read; kept marks and overrun stay. The marks are its own, and behind it are those that waited behind it
pub read_oldest : (r : Receiver) (ch : Character) (l : List Character) → r.queue ≡ holding (ch ∷ l) → length l < 16
    → got r ≡ record {
      receiver = record { queue = holding l; overrun = r.overrun; kept = r.kept; timeout = 0; last = ch.«data» };
      byte = ch.«data»;
      figures = record { marks = ch.marks; behind = length l };
    }
unfolding got
read_oldest r ch l held less =
    let t : taken r.queue ≡ record { queue = holding l; character = ch } = ap taken held ∙ take_oldest ch l less in
    pick_false _ _ _ (some_queued r ch l held)
    ∙ ap {B = Got}
    (λ (t : Taken).
    record {
      receiver = record { queue = t.queue; overrun = r.overrun; kept = r.kept; timeout = 0; last = t.character.«data» };
      byte = t.character.«data»;
      figures = record { marks = t.character.marks; behind = t.queue.count };
    })
    t

-- from an empty queue: the last byte read, with no marks and none behind it, and an equal receive side
pub read_none : (r : Receiver) → r.queue ≡ holding [] → got r ≡ record { receiver = r; byte = r.last; figures = no_figures }
unfolding got
read_none r held = pick_true _ _ _ (none_queued_lem r held)

-- ---- LSR read

-- FIFO mode: it shows the oldest character's marks and clears them; the others keep theirs, and the kept marks stay
pub lsr_seen_fifo : (r : Receiver) (ch : Character) (l : List Character) → r.queue ≡ holding (ch ∷ l)
    → (shown_marks true r ≡ ch.marks)
    × (lsr_seen true r ≡ record { queue = holding (plain ch ∷ l); overrun = false; kept = r.kept; timeout = r.timeout; last = r.last })
unfolding shown_marks lsr_seen pick
lsr_seen_fifo r ch l held = (
  ap (λ (q : Queue). (oldest q).marks) held ∙ ap (λ (c : Character). c.marks) (oldest_is ch l),
  ap (λ (q : Queue). record { queue = q; overrun = false; kept = r.kept; timeout = r.timeout; last = r.last })
      (ap unmarked held ∙ unmark_oldest ch l),
)

-- FIFO mode with nothing queued: no marks, and only overrun is cleared
pub lsr_seen_fifo_none : (r : Receiver) → r.queue ≡ holding []
    → (shown_marks true r ≡ 0)
    × (lsr_seen true r ≡ record { queue = r.queue; overrun = false; kept = r.kept; timeout = r.timeout; last = r.last })
unfolding shown_marks lsr_seen pick
lsr_seen_fifo_none r held = (
  ap (λ (q : Queue). (oldest q).marks) held ∙ ap (λ (c : Character). c.marks) oldest_none,
  ap (λ (q : Queue). record { queue = q; overrun = false; kept = r.kept; timeout = r.timeout; last = r.last })
      (ap unmarked held ∙ unmark_none ∙ sym held),
)

-- 16450 mode: it shows the kept marks and clears them; the queue keeps all its marks
pub lsr_seen_16450 : (r : Receiver)
    → (shown_marks false r ≡ r.kept)
    × (lsr_seen false r ≡ record { queue = r.queue; overrun = false; kept = 0; timeout = r.timeout; last = r.last })
unfolding shown_marks lsr_seen pick
lsr_seen_16450 r = (refl, refl)

-- ---- emptying, a changed mode, master reset: what each leaves alone

-- overrun, kept marks and the last byte read stay
pub clear_leaves : (r : Receiver) → cleared r ≡ record { queue = holding []; overrun = r.overrun; kept = r.kept; timeout = 0; last = r.last }
unfolding cleared
clear_leaves r = refl

-- overrun and the last byte read stay
pub mode_change_leaves : (r : Receiver) → after_mode_change r ≡ record { queue = holding []; overrun = r.overrun; kept = 0; timeout = 0; last = r.last }
unfolding after_mode_change
mode_change_leaves r = refl

-- power-up, with the last byte read kept
pub restart_leaves : (r : Receiver)
    → restarted r ≡ record { queue = quiet.queue; overrun = quiet.overrun; kept = quiet.kept; timeout = quiet.timeout; last = r.last }
unfolding restarted
restart_leaves r = refl

-- an FCR write: the queue and its count go where the mode changes or it is asked for, kept marks where the mode changes, the rest stays
pub fcr_empties : (changed asked : Bool) (r : Receiver)
    → fcr_heard changed asked r
    ≡ record {
      queue = pick (changed || asked) empty_queue r.queue;
      overrun = r.overrun;
      kept = pick changed 0 r.kept;
      timeout = pick (changed || asked) 0 r.timeout;
      last = r.last;
    }
unfolding pick cleared after_mode_change
fcr_empties true asked r = refl
fcr_empties false true r = refl
fcr_empties false false r = refl

-- ---- what the line status and the causes ask

-- a queued character has a mark: only FIFO mode says so
pub marked_fifo : (r : Receiver) (l : List Character) → r.queue ≡ holding l → some_marked true r ≡ any_marked l
unfolding some_marked
marked_fifo r l held = ap marked held ∙ marked_is l

pub marked_16450 : (r : Receiver) → some_marked false r ≡ false
unfolding some_marked
marked_16450 r = refl

-- data: so many as the trigger in FIFO mode, any in 16450 mode
pub data_fifo : (r : Receiver) (trigger : ℕ) (l : List Character) → r.queue ≡ holding l → data_stands true trigger r ≡ leb trigger (length l)
unfolding data_stands pick
data_fifo r trigger l held = ap (λ (q : Queue). leb trigger q.count) held

pub data_16450 : (r : Receiver) (trigger : ℕ) (l : List Character) → r.queue ≡ holding l → data_stands false trigger r ≡ ltb 0 (length l)
unfolding data_stands pick
data_16450 r trigger [] held = ap not (none_queued_lem r held)
data_16450 r trigger (ch ∷ l) held = ap not (some_queued r ch l held) ∙ sym (lt-ltb 0 (suc (length l)) (omega arith))
