-- RBR reads: what waits is given in order of arrival, each byte once, with its marks and how many remain behind it, and then the last one again
-- and again.
use Rattle.std.specs.Prelude.{ℕ, zero, suc, ◌+◌, ◌<◌, ◌≤◌, true, ◌≡◌, refl, length}
use Rattle.std.proofs.Math.Bool.{false}
use mathlib.Core.List.{List, [], ◌∷◌, ◌++◌}
use Rattle.std.proofs.Math.Path.{ap, ap₂}
use Rattle.std.proofs.Common.{◌∙◌, arith}
use Rattle.std.proofs.Math.ListN.{replicate}
use Rattle.base.specs.Bits.{bit}
use Rattle.base.specs.Answers.{no_figures}
use Rattle.base.specs.declared.Answer.{Answer}
use Rattle.base.specs.declared.Answer.TheVariants.{Letter, Done}
use Rattle.queue.specs.declared.Character.{Character}
use Rattle.queue.specs.Joining.{places, joined}
use Rattle.queue.proofs.JoiningLaws.{joined_fits}
use Rattle.queue.proofs.QueueLaws.{holding}
use Rattle.receiver.specs.declared.Receiver.{Receiver}
use Rattle.receiver.specs.declared.Got.{Got}
use Rattle.receiver.specs.Receiver.{received}
use Rattle.receiver.specs.CallLaws.{read_oldest, read_none}
use Rattle.channel.specs.declared.Channel.{Channel}
use Rattle.channel.specs.declared.Stepped.{Stepped}
use Rattle.registers.specs.declared.SeatEvent.{SeatEvent}
use Rattle.registers.specs.declared.SeatEvent.TheVariants.{Read, Arrival}
use Rattle.channel.specs.Parts.{with_receiver, fifo, in_loopback}
use Rattle.channel.specs.Steps.{stepped}
use Rattle.registers.proofs.RefusalLaws.{accepts}
use Rattle.channel_laws.specs.SideLaws.{arrival_received, rbr_gets}
use Rattle.channel_laws.specs.QueuedLaws.{arrival_joins}
use Rattle.channel_laws.specs.Shown.{after}
use Rattle.channel_laws.specs.Sends.{answers_to}

-- so many reads of register 0
abbrev pub reading : ℕ → List SeatEvent
reading n = replicate n (Read 0)

-- the last byte read once these have been
abbrev pub last_read : ℕ → List Character → ℕ
last_read byte [] = byte
last_read byte (ch ∷ l) = last_read ch.«data» l

-- ticket 6: each "also hands over its marks and how many remain behind it"
abbrev pub letters_of : List Character → List Answer
letters_of [] = []
letters_of (ch ∷ l) = Letter ch.«data» (record { marks = ch.marks; behind = length l }) ∷ letters_of l

-- ticket 6: "From an empty queue: no marks, none behind."
abbrev pub again : ℕ → Answer
again byte = Letter byte no_figures

-- the receive side after a read of the oldest
abbrev taken : Receiver → Character → List Character → Receiver
taken r ch l = record { queue = holding l; overrun = r.overrun; kept = r.kept; timeout = 0; last = ch.«data» }

module _ (c : Channel) (plain : bit 7 c.settings.lcr ≡ false) where
  -- "RBR read takes the oldest character and sets the time-out count to 0.": overrun and kept marks stay, and no other part of the channel moves
  pub rbr_takes : (ch : Character) (l : List Character) → c.receiver.queue ≡ holding (ch ∷ l) → length l < 16
      → stepped c (Read 0)
      ≡ record {
        channel =
            with_receiver c
            (record { queue = holding l; overrun = c.receiver.overrun; kept = c.receiver.kept; timeout = 0; last = ch.«data» });
        answer = Letter ch.«data» (record { marks = ch.marks; behind = length l });
      }
  rbr_takes ch l held less =
      rbr_gets c plain
      ∙ ap {B = Stepped} (λ (g : Got). record { channel = with_receiver c g.receiver; answer = Letter g.byte g.figures })
      (read_oldest c.receiver ch l held less)

  -- "From an empty queue it gives the last byte read (0 at first) and changes nothing."
  pub rbr_repeats : c.receiver.queue ≡ holding [] → stepped c (Read 0) ≡ record { channel = c; answer = again c.receiver.last }
  rbr_repeats none =
      rbr_gets c plain
      ∙ ap {B = Stepped} (λ (g : Got). record { channel = with_receiver c g.receiver; answer = Letter g.byte g.figures }) (read_none c.receiver none)

repeats : (k : ℕ) (c : Channel) → bit 7 c.settings.lcr ≡ false → c.receiver.queue ≡ holding []
    → answers_to c (reading k) ≡ replicate k (again c.receiver.last)
unfolding answers_to
repeats zero c plain none = refl
repeats (suc k) c plain none =
    ap (λ (s : Stepped). s.answer ∷ answers_to s.channel (reading k)) (rbr_repeats c plain none)
    ∙ ap (λ (rest : List Answer). again c.receiver.last ∷ rest) (repeats k c plain none)

-- as many reads as characters wait, and k more
pub reads_give : (l : List Character) (c : Channel) → bit 7 c.settings.lcr ≡ false → c.receiver.queue ≡ holding l → length l ≤ 16 → (k : ℕ)
    → answers_to c (reading (length l + k)) ≡ letters_of l ++ replicate k (again (last_read c.receiver.last l))
unfolding answers_to
reads_give [] c plain held fits k =
    let reads : 0 + k ≡ k = omega arith in
    ap (λ (n : ℕ). answers_to c (reading n)) reads ∙ repeats k c plain held
reads_give (ch ∷ l) c plain held fits k =
    let reads : suc (length l) + k ≡ suc (length l + k) = omega arith in
    ap (λ (n : ℕ). answers_to c (reading n)) reads
    ∙ ap (λ (s : Stepped). s.answer ∷ answers_to s.channel (reading (length l + k))) (rbr_takes c plain ch l held (omega arith))
    ∙ ap (λ (rest : List Answer). Letter ch.«data» (record { marks = ch.marks; behind = length l }) ∷ rest) (reads_give l (with_receiver c (taken c.receiver ch l)) plain refl (omega arith) k)

-- an arrival, outside loopback, and then the reads
module _ (c : Channel) (outside : in_loopback c ≡ false) (marks byte : ℕ) (served : accepts c.settings (Arrival marks byte) ≡ true) (plain : bit 7 c.settings.lcr ≡ false)
    (l : List Character) (held : c.receiver.queue ≡ holding l) (within : length l ≤ places (fifo c)) where
  abbrev waiting : List Character
  waiting = joined (fifo c) l (record { «data» = byte; marks = marks })

  pub arrival_read : (k : ℕ)
      → answers_to c (Arrival marks byte ∷ reading (length waiting + k))
      ≡ Done ∷ (letters_of waiting ++ replicate k (again (last_read c.receiver.last waiting)))
  unfolding answers_to received
  arrival_read k =
      let did = arrival_received c outside marks byte served in
      let still : bit 7 (after c (Arrival marks byte)).settings.lcr ≡ false = ap (λ (s : Stepped). bit 7 s.channel.settings.lcr) did ∙ plain in
      let last : (after c (Arrival marks byte)).receiver.last ≡ c.receiver.last = ap (λ (s : Stepped). s.channel.receiver.last) did in
      ap₂ (λ (a : Answer) (rest : List Answer). a ∷ rest) (ap (λ (s : Stepped). s.answer) did)
      (reads_give waiting (after c (Arrival marks byte)) still (arrival_joins c outside marks byte served l held within)
      (joined_fits (fifo c) l (record { «data» = byte; marks = marks }) within) k
      ∙ ap (λ (b : ℕ). letters_of waiting ++ replicate k (again (last_read b waiting))) last)
