-- Ticket 7: what is sent in loopback is received, in order, each byte once, cut to the word length and without marks.
use Rattle.std.specs.Prelude.{ℕ, zero, suc, ◌+◌, ◌≤◌, true, ◌≡◌, refl, replicate}
use Rattle.std.proofs.Math.Bool.{false, ◌&&◌}
use mathlib.Core.List.{List, [], ◌∷◌, ◌++◌, map, map-map, append-nil, append_assoc}
use Rattle.std.proofs.Math.Path.{ap}
use Rattle.std.proofs.Common.{ap₂, sym, ◌∙◌, arith, length-append, eqb-true}
use Rattle.std.proofs.Math.Logic.{⊎_elim}
use Rattle.std.proofs.Math.ListN.{length, length-map}
use Rattle.base.specs.Pick.{pick}
use Rattle.base.specs.PickLaws.{pick_true, pick_false, either_way}
use Rattle.base.specs.Bits.{bit}
use Rattle.base.specs.declared.Answer.{Answer}
use Rattle.base.specs.declared.Answer.TheVariants.{Done, Idle}
use Rattle.queue.specs.declared.Character.{Character}
use Rattle.queue.specs.declared.Queue.{Queue}
use Rattle.queue.specs.Queue.{capacity, accepted}
use Rattle.queue.proofs.QueueLaws.{holding}
use Rattle.queue.proofs.AcceptLaws.{capacity_small}
use Rattle.queue.specs.Joining.{places}
use Rattle.queue.proofs.JoiningLaws.{takes, joined_room}
use Rattle.receiver.specs.declared.Receiver.{Receiver}
use Rattle.receiver.specs.Receiver.{none_queued, received, waited}
use Rattle.transmitter.specs.Transmitter.{all_sent}
use Rattle.transmitter.specs.Sending.{to_send}
use Rattle.transmitter.proofs.SendingLaws.{all_wait}
use Rattle.transmitter.specs.SoundLaws.{idle_holds}
use Rattle.registers.specs.declared.Settings.{Settings}
use Rattle.registers.specs.declared.SeatEvent.TheVariants.{Write, Time}
use Rattle.registers.specs.Words.{cut}
use Rattle.registers.specs.Loopback.{looped}
use Rattle.registers.proofs.RefusalLaws.{undivided}
use Rattle.channel.specs.declared.Channel.{Channel}
use Rattle.channel.specs.Parts.{fifo, in_loopback}
use Rattle.channel.specs.Effects.{receives, leaver, heard_back}
use Rattle.channel.specs.Sound.{sound_channel}
use Rattle.channel_laws.specs.SoundLaws.{parts}
use Rattle.channel_laws.specs.WireLaws.{looped_idle}
use Rattle.channel_laws.specs.SideLaws.{time_shifts}
use Rattle.channel_laws.specs.QueuedLaws.{sound_queues}
use Rattle.channel_laws.specs.SendingLaws.{passed, after_both, after_writes, filled, told, times_alike}
use Rattle.channel_laws.specs.DrainLaws.{moved_in}
use Rattle.channel_laws.specs.HearingLaws.{reading, letters_of, reads_give}
use Rattle.channel_laws.specs.Sends.{after_events, answers_to, sending}

-- a byte as it comes back, ticket 7: "cut to the word length and without marks"
abbrev pub echoed : ℕ → ℕ → Character
echoed lcr byte = record { «data» = cut lcr byte; marks = 0 }

-- what is in the shift register, as it comes back
abbrev pub leaving : Channel → List Character
leaving c = pick c.transmitter.busy (leaver c ∷ []) []

-- ---- one character time: what waits on the receive side, and behind it what leaves

module _ (c : Channel) (inside : in_loopback c ≡ true) (heard : List Character) (held : c.receiver.queue ≡ holding heard)
    (room : length heard + length (leaving c) ≤ places (fifo c)) where
  back_held : (heard_back c).queue ≡ holding (heard ++ leaving c)
  unfolding heard_back receives received
  back_held =
      ⊎_elim
      (λ (full : c.transmitter.busy ≡ true).
      let one : length (leaving c) ≡ 1 = ap length (pick_true c.transmitter.busy (leaver c ∷ []) [] full) in
      ap (λ (r : Receiver). r.queue) (pick_true _ _ _ (ap₂ ◌&&◌ inside full))
      ∙ ap (λ (q : Queue). (accepted (fifo c) q (leaver c)).queue) held ∙ takes (fifo c) heard (leaver c) (omega arith)
      ∙ ap holding (joined_room (fifo c) heard (leaver c) (omega arith) ∙ ap (λ (l : List Character). heard ++ l) (sym (pick_true _ _ _ full))))
      (λ (empty : c.transmitter.busy ≡ false).
      ap (λ (r : Receiver). r.queue) (pick_false _ _ _ (ap₂ ◌&&◌ inside empty)) ∙ held
      ∙ ap holding (sym (append-nil heard) ∙ ap (λ (l : List Character). heard ++ l) (sym (pick_false _ _ _ empty))))
      (either_way c.transmitter.busy)

  passed_held : (passed c).receiver.queue ≡ holding (heard ++ leaving c)
  unfolding waited
  passed_held = back_held

-- ---- one for the shift register, and one for each that waits to be sent

-- whatever is on its way out comes back behind what waits to be read, as long as there is room for all of it
pub echoes : (l : List Character) (c : Channel) (heard : List Character) → in_loopback c ≡ true → undivided c.settings ≡ false
    → c.transmitter.queue ≡ holding l → length l ≤ 16 → c.receiver.queue ≡ holding heard
    → length heard + length (leaving c) + length l ≤ places (fifo c)
    → (after_events c (replicate (suc (length l)) Time)).receiver.queue
    ≡ holding (heard ++ (leaving c ++ map (λ (ch : Character). echoed c.settings.lcr ch.«data») l))
unfolding after_events
echoes [] c heard inside going out fits held room =
    ap (λ (d : Channel). d.receiver.queue) (time_shifts c going) ∙ passed_held c inside heard held (omega arith)
    ∙ ap (λ (k : List Character). holding (heard ++ k)) (sym (append-nil (leaving c)))
echoes (ch ∷ l) c heard inside going out fits held room =
    let lcr = c.settings.lcr in
    let moves = moved_in c.transmitter ch l out fits in
    let next : leaving (passed c) ≡ echoed lcr ch.«data» ∷ []
    = pick_true _ _ _ moves.1 ∙ ap (λ (byte : ℕ). echoed lcr byte ∷ []) moves.2 in
    let one : length (leaving (passed c)) ≡ 1 = ap length next in
    let sum = length-append heard (leaving c) in
    ap (λ (d : Channel). (after_events d (replicate (suc (length l)) Time)).receiver.queue) (time_shifts c going)
    ∙ echoes l (passed c) (heard ++ leaving c) inside going moves.0 (omega arith) (passed_held c inside heard held (omega arith)) (omega arith)
    ∙ ap (λ (k : List Character). holding ((heard ++ leaving c) ++ (k ++ map (λ (x : Character). echoed lcr x.«data») l))) next
    ∙ ap holding (append_assoc heard (leaving c) _)

-- ---- bytes written, and then character times

-- in loopback each is answered 100, with break or without
times_idle : (c : Channel) → in_loopback c ≡ true → undivided c.settings ≡ false → (k : ℕ) → answers_to c (replicate k Time) ≡ replicate k Idle
times_idle c inside going k =
    times_alike Idle c.settings going
    (λ d same. looped_idle d (ap undivided same ∙ going) (ap (λ (s : Settings). looped s.mcr) same ∙ inside)) k c refl

settled : (k : ℕ) (c : Channel) → undivided c.settings ≡ false → (after_events c (replicate k Time)).settings ≡ c.settings
unfolding after_events
settled zero c going = refl
settled (suc k) c going =
    ap (λ (d : Channel). (after_events d (replicate k Time)).settings) (time_shifts c going) ∙ settled k (passed c) going

-- an empty receive queue holds nothing
none_held : (c : Channel) → sound_channel c ≡ true → none_queued c.receiver ≡ true → c.receiver.queue ≡ holding []
unfolding none_queued
none_held c sound none =
    let h = (sound_queues c sound).0 in
    h.same ∙ ap holding (empty h.list (sym (ap (λ (q : Queue). q.count) h.same) ∙ eqb-true _ _ none))
  where
    empty : (l : List Character) → length l ≡ 0 → l ≡ []
    empty [] e = refl
    empty (ch ∷ l) e = absurd (omega arith)

module _ (c : Channel) (sound : sound_channel c ≡ true) (inside : in_loopback c ≡ true) (going : undivided c.settings ≡ false)
    (plain : bit 7 c.settings.lcr ≡ false) (at_rest : all_sent c.transmitter ≡ true) (none : none_queued c.receiver ≡ true)
    (bytes : List ℕ) (fits : length bytes ≤ capacity (fifo c)) where
  -- the bytes as they come back
  abbrev pub back : List Character
  back = map (echoed c.settings.lcr) bytes

  abbrev tested : Channel
  tested = after_events c (sending bytes (suc (length bytes)))

  -- n bytes, as many as the queue takes, written to the THR, are each answered 000, and each of n + 1 character times 100
  pub sent_idle : answers_to c (sending bytes (suc (length bytes))) ≡ replicate (length bytes) Done ++ replicate (suc (length bytes)) Idle
  sent_idle =
      told c sound at_rest going plain bytes fits (suc (length bytes))
      ∙ ap (λ (l : List Answer). replicate (length bytes) Done ++ l)
      (times_idle (filled c sound at_rest going plain bytes fits) inside going (suc (length bytes)))

  -- and then they wait in the receive queue, in order, cut and without marks
  pub sent_received : tested.receiver.queue ≡ holding back
  unfolding capacity
  sent_received =
      let full = filled c sound at_rest going plain bytes fits in
      let w = all_wait (fifo c) c.transmitter [] bytes (idle_holds (fifo c) c.transmitter (parts c sound).transmitter at_rest).0 (omega arith) in
      let empty : full.transmitter.busy ≡ false = w.busy ∙ (idle_holds (fifo c) c.transmitter (parts c sound).transmitter at_rest).1 in
      let nothing : leaving full ≡ [] = pick_false _ _ _ empty in
      let n = length-map bytes to_send in
      let few : length (leaving full) ≡ 0 = ap length nothing in
      let small = capacity_small (fifo c) in
      ap (λ (d : Channel). d.receiver.queue) (after_both c (map (Write 0) bytes) (replicate (suc (length bytes)) Time))
      ∙ ap (λ (d : Channel). (after_events d (replicate (suc (length bytes)) Time)).receiver.queue) (after_writes bytes c plain)
      ∙ ap (λ (m : ℕ). (after_events full (replicate (suc m) Time)).receiver.queue) (sym n)
      ∙ echoes (map to_send bytes) full [] inside going w.queue (omega (arith, n, small)) (none_held c sound none) (omega arith)
      ∙ ap (λ (l : List Character). holding (l ++ map (λ (ch : Character). echoed c.settings.lcr ch.«data») (map to_send bytes))) nothing
      ∙ ap holding (map-map (λ (ch : Character). echoed c.settings.lcr ch.«data») to_send bytes)

  settings_stay : tested.settings ≡ c.settings
  settings_stay =
      let full = filled c sound at_rest going plain bytes fits in
      ap (λ (d : Channel). d.settings) (after_both c (map (Write 0) bytes) (replicate (suc (length bytes)) Time))
      ∙ ap (λ (d : Channel). (after_events d (replicate (suc (length bytes)) Time)).settings) (after_writes bytes c plain)
      ∙ settled (suc (length bytes)) full going

  -- so n reads of RBR give them back, each with no marks and with those behind it counted
  pub sent_read : answers_to tested (reading (length bytes)) ≡ letters_of back
  unfolding capacity
  sent_read =
      let n = length-map bytes (echoed c.settings.lcr) in
      let small = capacity_small (fifo c) in
      let many : length bytes ≡ length back + 0 = omega (arith, n) in
      ap (λ (m : ℕ). answers_to tested (reading m)) many
      ∙ reads_give back tested (ap (λ (s : Settings). bit 7 s.lcr) settings_stay ∙ plain) sent_received (omega (arith, n, small)) 0
      ∙ append-nil (letters_of back)
