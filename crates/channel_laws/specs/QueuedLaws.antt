-- What waits in the two queues after an arrival and after a THR write, as a list; and what LSR shows of such a list.
use Rattle.std.specs.Prelude.{ℕ, ◌+◌, ◌<◌, ◌≤◌, Bool, true, false, not, ◌&&◌, ◌||◌, List, [], ◌∷◌, ◌≡◌, eqb, length, get_or}
use Rattle.std.proofs.Math.Path.{ap}
use Rattle.std.proofs.Common.{sym, ◌∙◌, arith}
use Rattle.std.proofs.Math.Dec.{leb}
use Rattle.base.specs.PickLaws.{pick_true, pick_false}
use Rattle.base.specs.Bits.{bit}
use Rattle.base.proofs.BitLaws.{bit_or_lem}
use Rattle.queue.specs.declared.Character.{Character}
use Rattle.queue.specs.declared.Queue.{Queue}
use Rattle.queue.specs.Queue.{no_character, capacity, accepted, oldest, any_marked, marked}
use Rattle.queue.proofs.QueueLaws.{holding, oldest_is, oldest_none, marked_is}
use Rattle.queue.proofs.CanonicalLaws.{Holds, holds}
use Rattle.queue.specs.Joining.{places, joined}
use Rattle.queue.proofs.JoiningLaws.{takes, joined_some}
use Rattle.receiver.specs.Receiver.{received}
use Rattle.receiver.specs.CallLaws.{arrive_overrun}
use Rattle.receiver.proofs.EffectLaws as effects
use Rattle.receiver.proofs.SoundLaws as heard
use Rattle.transmitter.specs.Transmitter.{written}
use Rattle.transmitter.specs.Sending.{to_send}
use Rattle.transmitter.specs.SoundLaws as sending
use Rattle.channel.specs.declared.Channel.{Channel}
use Rattle.channel.specs.declared.Stepped.{Stepped}
use Rattle.registers.specs.declared.SeatEvent.TheVariants.{Write, Arrival}
use Rattle.channel.specs.Parts.{fifo, in_loopback}
use Rattle.channel.specs.Sound.{sound_channel}
use Rattle.channel.specs.StatusLaws.{lsr_data, lsr_overrun, lsr_kept, lsr_oldest, lsr_empty, lsr_idle, lsr_marked}
use Rattle.registers.proofs.RefusalLaws.{accepts}
use Rattle.channel_laws.specs.SoundLaws.{parts}
use Rattle.channel_laws.specs.SideLaws.{arrival_received, thr_writes}
use Rattle.channel_laws.specs.AgainLaws.{shows_lsr}
use Rattle.channel_laws.specs.Shown.{shown, after}

-- both queues of a sound channel hold such lists
pub sound_queues : (c : Channel) → sound_channel c ≡ true → Holds (places (fifo c)) c.receiver.queue × Holds (places (fifo c)) c.transmitter.queue
unfolding capacity
sound_queues c sound = (
  holds _ c.receiver.queue (heard.parts (fifo c) c.receiver (parts c sound).receiver).tidy,
  holds _ c.transmitter.queue (sending.parts (fifo c) c.transmitter (parts c sound).transmitter).tidy,
)

-- ---- what LSR shows of a receive queue

module _ (c : Channel) (l : List Character) (held : c.receiver.queue ≡ holding l) where
  -- bit 0: "queue not empty"
  pub holds_data : bit 0 (shown c 5) ≡ not (eqb (length l) 0)
  holds_data = ap (bit 0) (shows_lsr c) ∙ lsr_data c ∙ ap (λ (q : Queue). not (eqb q.count 0)) held

  -- bit 7: "in FIFO mode some queued character has a mark, else 0"
  pub holds_marked : bit 7 (shown c 5) ≡ (fifo c && any_marked l)
  holds_marked = ap (bit 7) (shows_lsr c) ∙ lsr_marked c ∙ ap (λ (b : Bool). fifo c && b) (ap marked held ∙ marked_is l)

first_is : (l : List Character) → oldest (holding l) ≡ get_or l 0 no_character
first_is [] = oldest_none
first_is (ch ∷ l) = oldest_is ch l

-- bits 2 to 4, in FIFO mode: "the oldest character's in FIFO mode (none: 0)"
pub holds_marks : (c : Channel) (l : List Character) → c.receiver.queue ≡ holding l → fifo c ≡ true → (k : ℕ) → k < 3
    → bit (2 + k) (shown c 5) ≡ bit k (get_or l 0 no_character).marks
holds_marks c l held mode k less =
    ap (bit (2 + k)) (shows_lsr c) ∙ lsr_oldest c mode k less ∙ ap (λ (q : Queue). bit k (oldest q).marks) held
    ∙ ap (λ (ch : Character). bit k ch.marks) (first_is l)

-- ---- an arrival, outside loopback

module _ (c : Channel) (outside : in_loopback c ≡ false) (marks byte : ℕ) (served : accepts c.settings (Arrival marks byte) ≡ true) where
  abbrev arrived : Character
  arrived = record { «data» = byte; marks = marks }

  abbrev later : Channel
  later = after c (Arrival marks byte)

  module _ (l : List Character) (held : c.receiver.queue ≡ holding l) (within : length l ≤ places (fifo c)) where
    -- "Room in the queue: it is queued with its marks. Full in 16450 mode: the new one replaces the old, overrun set. Full in FIFO mode: the new one
    -- is lost, overrun set."
    pub arrival_joins : later.receiver.queue ≡ holding (joined (fifo c) l arrived)
    unfolding received
    arrival_joins =
        ap (λ (s : Stepped). s.channel.receiver.queue) (arrival_received c outside marks byte served)
        ∙ ap (λ (q : Queue). (accepted (fifo c) q arrived).queue) held ∙ takes (fifo c) l arrived within

    pub arrival_overruns : bit 1 (shown later 5) ≡ (bit 1 (shown c 5) || leb (places (fifo c)) (length l))
    unfolding capacity
    arrival_overruns =
        ap (bit 1) (shows_lsr later) ∙ lsr_overrun later
        ∙ ap (λ (s : Stepped). s.channel.receiver.overrun) (arrival_received c outside marks byte served)
        ∙ arrive_overrun (fifo c) c.receiver l arrived held within
        ∙ ap (λ (b : Bool). b || leb (places (fifo c)) (length l)) (sym (ap (bit 1) (shows_lsr c) ∙ lsr_overrun c))

    -- so there is something to read, in every case
    pub arrival_waits : bit 0 (shown later 5) ≡ true
    arrival_waits =
        holds_data later (joined (fifo c) l arrived) arrival_joins ∙ ap not (joined_some (fifo c) l arrived within)

  -- "In 16450 mode marks are also added to kept marks.", which bits 2 to 4 show
  pub arrival_marks : fifo c ≡ false → (k : ℕ) → k < 3 → bit (2 + k) (shown later 5) ≡ (bit (2 + k) (shown c 5) || bit k marks)
  unfolding received
  arrival_marks mode k less =
      let same : later.settings ≡ c.settings = ap (λ (s : Stepped). s.channel.settings) (arrival_received c outside marks byte served) in
      ap (bit (2 + k)) (shows_lsr later) ∙ lsr_kept later (ap (λ s. bit 0 s.fcr) same ∙ mode) k less
      ∙ ap (λ (s : Stepped). bit k s.channel.receiver.kept) (arrival_received c outside marks byte served)
      ∙ ap (bit k) (pick_false _ _ _ mode) ∙ bit_or_lem k c.receiver.kept marks
      ∙ ap (λ (b : Bool). b || bit k marks) (sym (ap (bit (2 + k)) (shows_lsr c) ∙ lsr_kept c mode k less))

  -- ticket 5: "an arrival leaves a count of 4 at 4"
  pub arrival_leaves_four : c.receiver.timeout ≡ 4 → later.receiver.timeout ≡ 4
  arrival_leaves_four four =
      ap (λ (s : Stepped). s.channel.receiver.timeout) (arrival_received c outside marks byte served) ∙ effects.arrival_leaves_four (fifo c) c.receiver arrived four

  -- ticket 5: it "sets a smaller one to 0"
  pub arrival_sets_back : c.receiver.timeout < 4 → later.receiver.timeout ≡ 0
  arrival_sets_back less =
      ap (λ (s : Stepped). s.channel.receiver.timeout) (arrival_received c outside marks byte served)
      ∙ effects.arrival_sets_back (fifo c) c.receiver arrived (λ (four : c.receiver.timeout ≡ 4). omega arith)

  -- what arrives is not yet read: the last byte read stays; and in FIFO mode nothing is added to kept marks
  pub arrival_leaves : (later.receiver.last ≡ c.receiver.last) × (fifo c ≡ true → later.receiver.kept ≡ c.receiver.kept)
  unfolding received
  arrival_leaves = (
    ap (λ (s : Stepped). s.channel.receiver.last) (arrival_received c outside marks byte served),
    λ mode. ap (λ (s : Stepped). s.channel.receiver.kept) (arrival_received c outside marks byte served) ∙ pick_true _ _ _ mode,
  )

-- ---- a THR write

module _ (c : Channel) (byte : ℕ) (plain : bit 7 c.settings.lcr ≡ false) (l : List Character) (held : c.transmitter.queue ≡ holding l)
    (within : length l ≤ places (fifo c)) where
  abbrev filled : Channel
  filled = after c (Write 0 byte)

  -- "THR write queues the byte"; "Full: 16450 mode replaces, FIFO mode drops it."
  pub thr_joins : filled.transmitter.queue ≡ holding (joined (fifo c) l (to_send byte))
  unfolding written
  thr_joins =
      ap (λ (s : Stepped). s.channel.transmitter.queue) (thr_writes c plain byte)
      ∙ ap (λ (q : Queue). (accepted (fifo c) q (to_send byte)).queue) held ∙ takes (fifo c) l (to_send byte) within

  -- so LSR bits 5 and 6 are 0
  pub thr_waits : (bit 5 (shown filled 5) ≡ false) × (bit 6 (shown filled 5) ≡ false)
  thr_waits =
      let some : eqb filled.transmitter.queue.count 0 ≡ false
      = ap (λ (q : Queue). eqb q.count 0) thr_joins ∙ joined_some (fifo c) l (to_send byte) within in (
        ap (bit 5) (shows_lsr filled) ∙ lsr_empty filled ∙ some,
        ap (bit 6) (shows_lsr filled) ∙ lsr_idle filled ∙ ap (λ (b : Bool). b && not filled.transmitter.busy) some,
      )

-- the shift register is as it was, with break or without
pub thr_shift : (c : Channel) (byte : ℕ) → bit 7 c.settings.lcr ≡ false
    → ((after c (Write 0 byte)).transmitter.busy ≡ c.transmitter.busy) × ((after c (Write 0 byte)).transmitter.shift ≡ c.transmitter.shift)
unfolding written
thr_shift c byte plain = (
  ap (λ (s : Stepped). s.channel.transmitter.busy) (thr_writes c plain byte),
  ap (λ (s : Stepped). s.channel.transmitter.shift) (thr_writes c plain byte),
)
