-- What is seen is what would be read.
use Prim.Native.Nat.{ℕ, zero, suc, ◌/◌, ◌%◌, ◌^◌, ◌<◌}
use mathlib.Core.Bool.{Bool, true, false, not, ◌&&◌, ◌||◌}
use mathlib.Core.List.{List, [], ◌∷◌, map}
use mathlib.Core.Logic.{⊎_elim}
use mathlib.Core.Path.{◌≡◌, refl, sym, ap, ◌∙◌}
use native.Mathlib.Nat.{pow-succ', div-div-eq-div-mul}
use native.Mathlib.Omega.{arith}
use lib.Dec.{ltb, leb, eqb}
use lib.ListN.{get_or, length}
use borrow.Author.Tests.{lt-leb, le-leb, ltb-true, ltb-false}
use Rattle.base.specs.Pick.{pick}
use Rattle.base.specs.PickLaws.{pick_true, pick_false, pick_cases, either_way, both_hold, never}
use Rattle.base.specs.Bits.{bit, digit, bits}
use Rattle.base.proofs.BitLaws.{bit_bits, bits_small, bit_or_lem, bit_power, digit_bit}
use Rattle.base.specs.ListLaws.{listed, listed_same, listed_at}
use Rattle.base.specs.declared.Answer.TheVariants.{Byte}
use Rattle.queue.proofs.CanonicalLaws.{holds}
use Rattle.receiver.proofs.SoundLaws as receiver
use Rattle.channel_laws.specs.SoundLaws as channel
use Rattle.channel_laws.specs.ReadLaws.{read_lsr_lem}
use Rattle.channel.specs.declared.Channel.{Channel}
use Rattle.channel.specs.Status.{lsr}
use Rattle.channel.specs.declared.Stepped.{Stepped}
use Rattle.receiver.specs.Receiver.{none_queued, shown_marks, some_marked}
use Rattle.transmitter.specs.Transmitter.{none_waiting, all_sent}
use Rattle.status.specs.Status.{lsr_of}
use Rattle.seat.specs.declared.Seat.{Seat}
use Rattle.seat.specs.Seats.{no_seat, line, queued}
use Rattle.seat.specs.Sound.{sound}
use Rattle.seat.proofs.SoundLaws.{sound_parts}
use Rattle.controller.specs.Turns.{requests, output_of}
use Rattle.controller.specs.Words as controller
use Rattle.records.specs.Events.{seat_count}
use Rattle.rank.specs.Sets.{only, join}
use Rattle.bench.specs.declared.Bench.{Bench}
use Rattle.bench.specs.Seats.{chair, seat, lines}
use Rattle.bench.proofs.ValidLaws.{at_seat_lem}
use Rattle.bench.proofs.ValidLaws as bench
use Rattle.bench.specs.Wired.{Wired}
use Rattle.sight.specs.Sights.{no_look, look_of, sight_of, look_at}
use Rattle.sight.specs.InUse.{with_named}
use Rattle.sight.specs.Seen.{SeenAsRead, SeatsNamed, PowerUpSeen}
use Rattle.sight.specs.declared.Look.{Look}

-- ---- a seat

-- a number is read round the eight
round : (b : Bench) (n : ℕ) → seat b (chair n) ≡ seat b n
unfolding seat
round b n = let e : n % 8 % 8 ≡ n % 8 = omega arith in ap (λ (k : ℕ). get_or b.seats k no_seat) e

look_seen : (b : Bench) (n : ℕ) → look_at (sight_of b) n ≡ look_of (seat b n)
unfolding look_at sight_of
look_seen b n = listed_at seat_count (λ k. look_of (seat b k)) (chair n) no_look (omega arith) ∙ ap look_of (round b n)

lsr_seen_lem : (b : Bench) (n : ℕ) → (look_at (sight_of b) n).lsr ≡ lsr (seat b n).channel
unfolding look_of
lsr_seen_lem b n = ap (λ (l : Look). l.lsr) (look_seen b n)

queued_seen : (b : Bench) (n : ℕ) → (look_at (sight_of b) n).queued ≡ queued (seat b n)
unfolding look_of
queued_seen b n = ap (λ (l : Look). l.queued) (look_seen b n)

queued_small : (s : Seat) → sound s ≡ true → queued s < 2 ^ 5
queued_small s ok =
    let heard = (receiver.parts _ _ (channel.parts s.channel (sound_parts s ok).0).receiver).tidy in
    let held = holds _ _ heard in
    rw held.same (omega (arith, held.fits))

lsr_small : (c : Channel) → lsr c < 2 ^ 8
unfolding lsr lsr_of
lsr_small c = bits_small _

-- a number is made of its bits
bit_higher : (k x : ℕ) → bit (suc k) x ≡ bit k (x / 2)
unfolding bit
bit_higher k x = ap (λ (q : ℕ). eqb (q % 2) 1) (ap (λ (p : ℕ). x / p) (pow-succ' 2 k) ∙ sym (div-div-eq-div-mul x 2 (2 ^ k)))

bits_of : (w x : ℕ) → x < 2 ^ w → bits (listed w (λ k. bit k x)) ≡ x
unfolding bits
bits_of zero x small = omega arith
bits_of (suc w) x small =
    let half : x / 2 < 2 ^ w = omega (arith, pow-succ' 2 w) in
    rw (listed_same w (λ k. bit (suc k) x) (λ k. bit k (x / 2)) (λ k below. bit_higher k x), bits_of w (x / 2) half, digit_bit 0 x) (omega arith)

line_at : (l : List Seat) (n : ℕ) → n < length l → get_or (map line l) n false ≡ line (get_or l n no_seat)
line_at [] n inside = absurd (omega arith)
line_at (s ∷ l) zero inside = refl
line_at (s ∷ l) (suc n) inside = line_at l n (omega arith)

level_seen : (b : Bench) → Wired b → (n : ℕ) → n < 8 → bit n b.controller.lines.levels ≡ line (seat b n)
unfolding lines seat
level_seen b wired n small =
    let own : n % 8 ≡ n = omega arith in
    let inside : n < length b.seats = omega (arith, wired.all) in
    ap (bit n) wired.levels ∙ bit_bits n (map line b.seats) ∙ line_at b.seats n inside ∙ ap (λ (k : ℕ). line (get_or b.seats k no_seat)) (sym own)

pub seen_as_read : SeenAsRead
unfolding sight_of controller.shown
seen_as_read b = record {
  lsr = λ n. ap (λ (s : Stepped). s.answer) (read_lsr_lem (seat b n).channel) ∙ ap Byte (sym (lsr_seen_lem b n));
  queued = λ n. sym (queued_seen b n);
  requests = λ asked. pick_false _ _ _ refl ∙ pick_false _ _ _ asked;
  service = λ asked. pick_false _ _ _ refl ∙ pick_true _ _ _ asked;
  mask = pick_true _ _ _ refl;
  output = λ a. refl;
  levels = level_seen b;
  lsr_bits = λ n. bits_of 8 _ (rw (lsr_seen_lem b n) (lsr_small (seat b n).channel));
  queued_bits = λ ok n. bits_of 5 _ (rw (queued_seen b n) (queued_small (seat b n) (at_seat_lem b (bench.parts b ok) n)));
}

-- ---- the seats that are named

not_above : (seat : ℕ) → not (leb 8 seat) ≡ ltb seat 8
not_above seat =
    ⊎_elim
    (λ (t : ltb seat 8 ≡ true). rw (t, lt-leb _ _ (ltb-true seat 8 t)))
    (λ (f : ltb seat 8 ≡ false). rw (f, le-leb _ _ (ltb-false seat 8 f)))
    (either_way (ltb seat 8))

nothing_more : (old kind seat same : Bool) → (kind && seat) ≡ false → old ≡ (old || kind && seat && same)
nothing_more true kind seat same none = refl
nothing_more false true true same none = absurd (never (sym none))
nothing_more false true false same none = refl
nothing_more false false seat same none = refl

pub seats_named : SeatsNamed
unfolding with_named
seats_named used kind seat n =
    rw (not_above seat)
    (pick_cases (λ (m : ℕ). bit n m ≡ (bit n used || ltb kind 5 && ltb seat 8 && eqb n seat)) (ltb kind 5 && ltb seat 8) (join used (only seat)) used
    (λ (named : (ltb kind 5 && ltb seat 8) ≡ true).
    let two = both_hold (ltb kind 5) (ltb seat 8) named in
    let small : seat < 8 = ltb-true seat 8 two.1 in
    let own : seat % 8 ≡ seat = omega arith in
    rw (two.0, two.1, bit_or_lem n used (only seat), bit_power n (seat % 8), own))
    (nothing_more (bit n used) (ltb kind 5) (ltb seat 8) (eqb n seat)))

-- ---- power-up

pub power_up_seen : PowerUpSeen
unfolding pick bit digit bits none_queued shown_marks some_marked none_waiting all_sent lsr_of lsr requests output_of seat look_of sight_of
power_up_seen = refl
