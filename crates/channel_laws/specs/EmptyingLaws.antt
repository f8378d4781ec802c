-- What an FCR write leaves of the two sides, as reads show it.
use Rattle.std.specs.Prelude.{ℕ, ◌+◌, ◌/◌, ◌%◌, ◌<◌, Bool, false, ◌&&◌, ◌||◌, List, [], ◌∷◌, ◌≡◌}
use Rattle.std.proofs.Math.Bool.{true, not, xor, and-true, and-false, or-true, or-false}
use Rattle.std.proofs.Math.Path.{refl, ap}
use Rattle.std.proofs.Common.{ap₂, sym, ◌∙◌, ⊎_elim}
use Rattle.std.proofs.Math.Dec.{leb, eqb}
use Rattle.std.proofs.Math.ListN.{length, get_or}
use Rattle.base.specs.Pick.{pick}
use Rattle.base.specs.PickLaws.{pick_true, pick_false, pick_same, either_way}
use Rattle.base.specs.Bits.{bit}
use Rattle.base.specs.declared.Answer.TheVariants.{Done}
use Rattle.queue.specs.declared.Character.{Character}
use Rattle.queue.specs.declared.Queue.{Queue}
use Rattle.queue.specs.Queue.{empty_queue, oldest, any_marked, marked}
use Rattle.queue.proofs.QueueLaws.{holding}
use Rattle.receiver.specs.declared.Receiver.{Receiver}
use Rattle.receiver.specs.Receiver.{shown_marks}
use Rattle.transmitter.specs.declared.Transmitter.{Transmitter}
use Rattle.registers.specs.declared.Settings.{Settings}
use Rattle.registers.specs.declared.Register.TheVariants.{IirFcr}
use Rattle.registers.specs.Registers.{plain_register, register_at, fcr_kept}
use Rattle.registers.specs.Words.{trigger}
use Rattle.channel.specs.declared.Channel.{Channel}
use Rattle.channel.specs.declared.Stepped.{Stepped}
use Rattle.registers.specs.declared.SeatEvent.TheVariants.{Write}
use Rattle.channel.specs.Parts.{fifo, divisor_shown}
use Rattle.channel.specs.Status.{lsr, iir}
use Rattle.channel.specs.Effects.{fcr_written, after_write}
use Rattle.channel.specs.Steps.{stepped}
use Rattle.channel.specs.StatusLaws.{lsr_data, lsr_overrun, lsr_kept, lsr_oldest, lsr_empty, lsr_idle, lsr_marked, iir_mode}
use Rattle.channel_laws.specs.CauseLaws.{troubled, cause_named}
use Rattle.channel_laws.specs.ModeLaws.{fcr_bit, mode_after, fcr_sent_lem, fcr_heard_lem, trigger_chosen}
use Rattle.channel_laws.specs.ReadLaws.{no_bit}
use Rattle.channel_laws.specs.BackLaws.{write_at}
use Rattle.channel_laws.specs.AgainLaws.{shows_iir, shows_lsr, named, named_is}
use Rattle.channel_laws.specs.Shown.{shown, after}

-- the marks that LSR bits 2 to 4 show, in either mode
marks_shown : (d : Channel) (k : ℕ) → k < 3 → bit (2 + k) (lsr d) ≡ bit k (shown_marks (fifo d) d.receiver)
unfolding shown_marks
marks_shown d k less =
    ⊎_elim
    (λ (mode : fifo d ≡ true). lsr_oldest d mode k less ∙ sym (ap (bit k) (pick_true _ _ _ mode)))
    (λ (mode : fifo d ≡ false). lsr_kept d mode k less ∙ sym (ap (bit k) (pick_false _ _ _ mode)))
    (either_way (fifo d))

-- ---- a side with its queue emptied where the test holds

data_left : (empties : Bool) (q : Queue) → not (eqb (pick empties empty_queue q).count 0) ≡ (not (eqb q.count 0) && not empties)
unfolding pick
data_left true q = sym (and-false (not (eqb q.count 0)))
data_left false q = sym (and-true (not (eqb q.count 0)))

pub none_left : (empties : Bool) (q : Queue) → eqb (pick empties empty_queue q).count 0 ≡ (eqb q.count 0 || empties)
unfolding pick
none_left true q = sym (or-true (eqb q.count 0))
none_left false q = sym (or-false (eqb q.count 0))

-- the receive side of an FCR write: the mode before, bits 0 and 1 of the byte
abbrev heard_as : Bool → Bool → Bool → Receiver → Receiver
heard_as mode on asked r =
    record {
      queue = pick (xor mode on || (on && asked)) empty_queue r.queue;
      overrun = r.overrun;
      kept = pick (xor mode on) 0 r.kept;
      timeout = pick (xor mode on || (on && asked)) 0 r.timeout;
      last = r.last;
    }

marked_left : (mode on asked : Bool) (r : Receiver)
    → (on && marked (heard_as mode on asked r).queue) ≡ ((mode && marked r.queue) && not (xor mode on || (on && asked)))
unfolding pick xor marked any_marked
marked_left true true true r = sym (and-false (marked r.queue))
marked_left true true false r = sym (and-true (marked r.queue))
marked_left true false asked r = sym (and-false (marked r.queue))
marked_left false true asked r = refl
marked_left false false asked r = refl

marks_left : (mode on asked : Bool) (r : Receiver) (k : ℕ)
    → bit k (shown_marks on (heard_as mode on asked r)) ≡ (bit k (shown_marks mode r) && not (xor mode on || (on && asked)))
unfolding pick xor shown_marks oldest
marks_left true true true r k = no_bit k ∙ sym (and-false (bit k (shown_marks true r)))
marks_left true true false r k = sym (and-true (bit k (shown_marks true r)))
marks_left true false asked r k = no_bit k ∙ sym (and-false (bit k (shown_marks true r)))
marks_left false true asked r k = no_bit k ∙ sym (and-false (bit k (shown_marks false r)))
marks_left false false asked r k = sym (and-true (bit k (shown_marks false r)))

module _ (c : Channel) (byte : ℕ) where
  -- register 2 is the FCR in either state of LCR bit 7
  fcr_done : stepped c (Write 2 byte) ≡ record { channel = fcr_written c byte; answer = Done }
  unfolding register_at plain_register pick after_write
  fcr_done = write_at c 2 byte IirFcr refl (pick_same (divisor_shown c) IirFcr)

  written : after c (Write 2 byte) ≡ fcr_written c byte
  written = ap (λ (s : Stepped). s.channel) fcr_done

  abbrev before : ℕ
  before = shown c 5

  abbrev now : ℕ
  now = shown (after c (Write 2 byte)) 5

  -- "Bit 0 clear: 16450 mode"; "Bit 0 set: FIFO mode": "In FIFO mode C0 is added."
  pub mode_shows : (bit 7 (shown (after c (Write 2 byte)) 2) ≡ bit 0 byte) × (bit 6 (shown (after c (Write 2 byte)) 2) ≡ bit 0 byte)
  mode_shows =
      let iir-now : shown (after c (Write 2 byte)) 2 ≡ iir (fcr_written c byte) = shows_iir (after c (Write 2 byte)) ∙ ap iir written in (
        ap (bit 7) iir-now ∙ (iir_mode (fcr_written c byte)).0 ∙ mode_after c byte,
        ap (bit 6) iir-now ∙ (iir_mode (fcr_written c byte)).1 ∙ mode_after c byte,
      )

  -- "A changed bit 0": the mode that IIR bit 7 shows is not the one written
  abbrev changes : Bool
  changes = xor (bit 7 (shown c 2)) (bit 0 byte)

  mode_before : bit 7 (shown c 2) ≡ fifo c
  mode_before = ap (bit 7) (shows_iir c) ∙ (iir_mode c).0

  -- "bit 1 empties the receive queue, bit 2 the transmit queue. A changed bit 0 empties both"
  abbrev empties_receive : Bool
  empties_receive = changes || (bit 0 byte && bit 1 byte)

  abbrev empties_transmit : Bool
  empties_transmit = changes || (bit 0 byte && bit 2 byte)

  -- "Emptying the receive queue sets the time-out count to 0."; "clears kept marks" where bit 0 changed. Overrun and the last byte read stay
  pub receive_side : (after c (Write 2 byte)).receiver
      ≡ record {
        queue = pick empties_receive empty_queue c.receiver.queue;
        overrun = c.receiver.overrun;
        kept = pick changes 0 c.receiver.kept;
        timeout = pick empties_receive 0 c.receiver.timeout;
        last = c.receiver.last;
      }
  receive_side =
      ap (λ (d : Channel). d.receiver) written ∙ fcr_heard_lem c byte
      ∙ ap (λ (mode : Bool). heard_as mode (bit 0 byte) (bit 1 byte) c.receiver) (sym mode_before)

  -- "Emptying a transmit queue that held something sets the holding-empty flag. The shift register stays.": the send side, by the mode before
  abbrev pub sent_as : Bool → Transmitter
  sent_as mode =
      record {
        queue = pick (xor mode (bit 0 byte) || (bit 0 byte && bit 2 byte)) empty_queue c.transmitter.queue;
        busy = c.transmitter.busy;
        shift = c.transmitter.shift;
        flag = c.transmitter.flag || ((xor mode (bit 0 byte) || (bit 0 byte && bit 2 byte)) && not (eqb c.transmitter.queue.count 0));
      }

  pub send_side : (after c (Write 2 byte)).transmitter ≡ sent_as (bit 7 (shown c 2))
  send_side = ap (λ (d : Channel). d.transmitter) written ∙ fcr_sent_lem c byte ∙ ap sent_as (sym mode_before)

  mode_now : fifo (after c (Write 2 byte)) ≡ bit 0 byte
  mode_now = ap fifo written ∙ mode_after c byte

  -- "bit 3 is stored", with bits 0, 6 and 7, and no other; "all FCR bits 0" where bit 0 is clear
  pub fcr_keeps : (k : ℕ) → k < 8 → bit k (after c (Write 2 byte)).settings.fcr ≡ (bit 0 byte && (bit k byte && bit k 0xC9))
  unfolding fcr_written
  fcr_keeps k less = ap (λ (d : Channel). bit k d.settings.fcr) written ∙ fcr_bit byte k less

  -- an LSR read after it, beside one before
  pub record LsrAfter : Type 0 where
    pub queue : bit 0 now ≡ (bit 0 before && not empties_receive)
    pub overrun : bit 1 now ≡ bit 1 before
    pub marks : (k : ℕ) → k < 3 → bit (2 + k) now ≡ (bit (2 + k) before && not empties_receive)
    pub waiting : bit 5 now ≡ (bit 5 before || empties_transmit)
    pub shifting : bit 6 now ≡ (bit 5 now && not c.transmitter.busy)
    pub behind : bit 7 now ≡ (bit 7 before && not empties_receive)

  abbrev later : Channel
  later = after c (Write 2 byte)

  pub lsr_after : LsrAfter
  lsr_after =
      let r = c.receiver in
      let mode = bit 7 (shown c 2) in
      let empty : bit 5 now ≡ eqb (sent_as mode).queue.count 0
      = ap (bit 5) (shows_lsr later) ∙ lsr_empty later ∙ ap (λ (t : Transmitter). eqb t.queue.count 0) send_side in
      record {
        queue =
            ap (bit 0) (shows_lsr later) ∙ lsr_data later ∙ ap (λ (s : Receiver). not (eqb s.queue.count 0)) receive_side
            ∙ data_left empties_receive r.queue
            ∙ ap (λ (b : Bool). b && not empties_receive) (sym (ap (bit 0) (shows_lsr c) ∙ lsr_data c));
        overrun =
            ap (bit 1) (shows_lsr later) ∙ lsr_overrun later ∙ ap (λ (s : Receiver). s.overrun) receive_side
            ∙ sym (ap (bit 1) (shows_lsr c) ∙ lsr_overrun c);
        marks = λ k less.
            ap (bit (2 + k)) (shows_lsr later) ∙ marks_shown later k less
            ∙ ap₂ (λ (m : Bool) (s : Receiver). bit k (shown_marks m s)) mode_now receive_side
            ∙ marks_left mode (bit 0 byte) (bit 1 byte) r k
            ∙ ap (λ (b : Bool). b && not empties_receive)
            (sym (ap (bit (2 + k)) (shows_lsr c) ∙ marks_shown c k less ∙ ap (λ (m : Bool). bit k (shown_marks m r)) (sym mode_before)));
        waiting =
            empty ∙ none_left empties_transmit c.transmitter.queue
            ∙ ap (λ (b : Bool). b || empties_transmit) (sym (ap (bit 5) (shows_lsr c) ∙ lsr_empty c));
        shifting =
            ap (bit 6) (shows_lsr later) ∙ lsr_idle later
            ∙ ap (λ (t : Transmitter). eqb t.queue.count 0 && not t.busy) send_side
            ∙ ap (λ (b : Bool). b && not c.transmitter.busy) (sym empty);
        behind =
            ap (bit 7) (shows_lsr later) ∙ lsr_marked later
            ∙ ap₂ (λ (m : Bool) (s : Receiver). m && marked s.queue) mode_now receive_side
            ∙ marked_left mode (bit 0 byte) (bit 1 byte) r
            ∙ ap (λ (b : Bool). b && not empties_receive)
            (sym (ap (bit 7) (shows_lsr c) ∙ lsr_marked c ∙ ap (λ (m : Bool). m && marked r.queue) (sym mode_before)));
      }

  -- "bits 7-6 choose trigger 1, 4, 8 or 14": for as long as these settings stand, 04 is named from so many characters on, unless 06 is
  pub trigger_shows : bit 0 byte ≡ true → (d : Channel) (l : List Character) → d.settings ≡ later.settings → d.receiver.queue ≡ holding l
      → eqb (named d) 0x04
      ≡ (not (troubled d) && (bit 0 d.settings.ier && leb (get_or (1 ∷ 4 ∷ 8 ∷ 14 ∷ []) (byte / 64 % 4) 0) (length l)))
  unfolding fcr_written
  trigger_shows on d l same held =
      let kept : d.settings.fcr ≡ fcr_kept byte
      = ap (λ (s : Settings). s.fcr) same ∙ ap (λ (x : Channel). x.settings.fcr) written in
      let mode : fifo d ≡ true = ap (bit 0) kept ∙ mode_after c byte ∙ on in
      let chosen : trigger d.settings.fcr ≡ get_or (1 ∷ 4 ∷ 8 ∷ 14 ∷ []) (byte / 64 % 4) 0 = ap trigger kept ∙ trigger_chosen byte on in
      let count : d.receiver.queue.count ≡ length l = ap (λ (q : Queue). q.count) held in
      ap (λ (n : ℕ). eqb n 0x04) (named_is d) ∙ (cause_named d).character
      ∙ ap (λ (b : Bool). not (troubled d) && (bit 0 d.settings.ier && b))
      ((λ i. (mode i && leb (chosen i) (count i)) || (not (mode i) && not (eqb (count i) 0)))
      ∙ or-false (leb (get_or (1 ∷ 4 ∷ 8 ∷ 14 ∷ []) (byte / 64 % 4) 0) (length l)))
