-- The tallies by the numbers queued before and after an event are those that the ledger makes of it, whatever the seat; and a seat's step is what
-- the code makes of its channel's.
use Rattle.std.specs.Prelude.{◌≡◌, ℕ, ◌+◌, ◌-◌, ◌<◌, Bool, true, false, not, ◌&&◌, List, [], ◌∷◌, length, ◌==◌, nat_eq, nat_le, refl}
use Rattle.std.proofs.Math.Path.{ap, sym}
use Rattle.std.proofs.Common.{subst, ◌∙◌, arith, leb-true, leb-false, lt-ltb, le-ltb}
use Rattle.std.proofs.Math.Logic.{⊎_elim}
use Rattle.std.proofs.Math.Nat.{sub_self}
use Rattle.base.specs.Pick.{pick}
use Rattle.base.specs.PickLaws.{pick_true, pick_false, both_hold, either_way}
use Rattle.base.specs.Answers.{refusal_of}
use Rattle.base.specs.declared.Answer.TheVariants.{Refused}
use Rattle.receiver.specs.Ledger.{Moment, resets, Side, number, arrived_in, read_in, lost_in, dropped_in}
use Rattle.registers.specs.declared.SeatEvent.{SeatEvent}
use Rattle.registers.specs.declared.SeatEvent.TheVariants.{Read, Write, Arrival, Levels, Time}
use Rattle.registers.specs.Refusals as registers
use Rattle.channel.specs.declared.Channel.{Channel}
use Rattle.channel.specs.declared.Stepped.{Stepped}
use Rattle.channel.specs.Parts.{in_loopback}
use Rattle.channel.specs.Moments.{side, accepted_moments, moments_of}
use Rattle.channel.specs.Steps as channel-step
use Rattle.channel.specs.StepLaws as channel-laws
use Rattle.channel_laws.specs.FigureLaws.{Figures, Received, Unmoved, read_figures, write_figures, levels_figures, arrival_received, arrival_unheard, time_received, time_unheard, resets_figures}
use Rattle.seat.specs.declared.Seat.{Seat}
use Rattle.seat.specs.declared.Replied.{Replied}
use Rattle.seat.specs.declared.Tallies.{Tallies}
use Rattle.seat.specs.Tallies.{largest, wrapped, more, tallied}
use Rattle.seat.specs.Seats.{queued}
use Rattle.seat.specs.Steps.{would_pass, refusal, effect, stepped}
use Rattle.seat.specs.StepLaws.{own, own_number, last_number_lem, last_refused, unheard_own, step_taken, step_refused}
use Rattle.seat.specs.Counts.{gone_by, counted, refused_last}

-- none more of a number of 32 bits
pub kept : (n : ℕ) → n < 4294967296 → n ≡ wrapped (n + 0)
kept n fits = omega (arith, fits)

pub same_tallies : {a b c d a' b' c' d' : ℕ} → a ≡ a' → b ≡ b' → c ≡ c' → d ≡ d'
    → ◌≡◌ {A = Tallies} (record { arrived = a; read = b; lost = c; dropped = d }) (record { arrived = a'; read = b'; lost = c'; dropped = d' })
same_tallies p q r s = cc

pub none_more : (t : Tallies) → t.arrived < 4294967296 → t.read < 4294967296 → t.lost < 4294967296 → t.dropped < 4294967296 → t ≡ more t 0 0 0 0
none_more t a r l d = same_tallies (kept t.arrived a) (kept t.read r) (kept t.lost l) (kept t.dropped d)

-- what is tallied by these figures
by_figures : (t : Tallies) (s : Side) (ms : List Moment) (a r l d : ℕ) → Figures s ms a r l d → tallied t s ms ≡ more t a r l d
unfolding tallied
by_figures t s ms a r l d f = rw (f.arrived_is, f.read_is, f.lost_is, f.dropped_is)

-- ---- an accepted event

told_none : (heard : Bool) → ◌≡◌ {A = ℕ} (pick heard 1 0) 0 → heard ≡ false
unfolding pick
told_none true e = let one : ◌≡◌ {A = ℕ} 1 0 = e in absurd (omega arith)
told_none false e = refl

told_one : (heard : Bool) → ◌≡◌ {A = ℕ} (pick heard 1 0) 1 → heard ≡ true
unfolding pick
told_one true e = refl
told_one false e = let none : ◌≡◌ {A = ℕ} 0 1 = e in absurd (omega arith)

-- the caller has been told whether the event receives
abbrev pub Told : Channel → SeatEvent → Bool → Type 0
Told c e heard = pick heard 1 0 ≡ length (arrived_in (accepted_moments c e))

unheard_told : (c : Channel) (e : SeatEvent) (n m k : ℕ) → Figures (side c) (accepted_moments c e) 0 n m k → Told c e false
unheard_told c e n m k f = pick_false false 1 0 refl ∙ sym f.arrived_is

heard_told : (c : Channel) (e : SeatEvent) → Received c e → Told c e true
heard_told c e f = pick_true true 1 0 refl ∙ sym f.figures.arrived_is

pub read_told : (c : Channel) (n : ℕ) → Told c (Read n) false
read_told c n = unheard_told c (Read n) _ _ _ (read_figures c n)

pub write_told : (c : Channel) (n byte : ℕ) → Told c (Write n byte) false
write_told c n byte = unheard_told c (Write n byte) _ _ _ (write_figures c n byte)

pub levels_told : (c : Channel) (levels : ℕ) → Told c (Levels levels) false
levels_told c levels = unheard_told c (Levels levels) _ _ _ (levels_figures c levels)

pub arrival_told : (c : Channel) (marks byte : ℕ) → Told c (Arrival marks byte) (not (in_loopback c))
arrival_told c marks byte =
    ⊎_elim
    (λ (inside : in_loopback c ≡ true).
    subst (λ (b : Bool). Told c (Arrival marks byte) (not b)) (sym inside) (unheard_told c (Arrival marks byte) _ _ _ (arrival_unheard c marks byte inside)))
    (λ (outside : in_loopback c ≡ false).
    subst (λ (b : Bool). Told c (Arrival marks byte) (not b)) (sym outside) (heard_told c (Arrival marks byte) (arrival_received c marks byte outside)))
    (either_way (in_loopback c))

pub time_told : (c : Channel) → Told c Time (in_loopback c && c.transmitter.busy)
time_told c =
    ⊎_elim
    (λ (inside : (in_loopback c && c.transmitter.busy) ≡ true). subst (Told c Time) (sym inside) (heard_told c Time (time_received c inside)))
    (λ (outside : (in_loopback c && c.transmitter.busy) ≡ false). subst (Told c Time) (sym outside) (unheard_told c Time _ _ _ (time_unheard c outside)))
    (either_way (in_loopback c && c.transmitter.busy))

module _ (t : Tallies) (c : Channel) where
  -- what the code counts, and what the ledger has
  abbrev Counts : SeatEvent → Bool → Type 0
  Counts e heard = counted t e heard (number (side c)) (number (side (channel-step.effect c e).channel)) ≡ tallied t (side c) (accepted_moments c e)

  by_receiving : (e : SeatEvent) (heard : Bool) → Told c e heard → Received c e → Counts e heard
  unfolding counted
  by_receiving e heard told f =
      pick_true _ _ _ (told_one heard (told ∙ f.figures.arrived_is)) ∙ ap (λ (n : ℕ). more t 1 0 n 0) (sym f.told) ∙ sym (by_figures t (side c) _ _ _ _ _ f.figures)

  by_nothing : (e : SeatEvent) (heard : Bool) → Told c e heard → ((n : ℕ) → gone_by t e n ≡ more t 0 0 0 0) → Unmoved c e → Counts e heard
  unfolding counted
  by_nothing e heard told stays f = pick_false _ _ _ (told_none heard (told ∙ f.arrived_is)) ∙ stays _ ∙ sym (by_figures t (side c) _ _ _ _ _ f)

  effect_counted : (e : SeatEvent) (heard : Bool) → Told c e heard → Counts e heard
  unfolding counted
  effect_counted (Read n) heard told =
      let f = read_figures c n in
      pick_false _ _ _ (told_none heard (told ∙ f.arrived_is)) ∙ sym (by_figures t (side c) _ _ _ _ _ f)
  effect_counted (Write n byte) heard told =
      let f = write_figures c n byte in
      pick_false _ _ _ (told_none heard (told ∙ f.arrived_is)) ∙ sym (by_figures t (side c) _ _ _ _ _ f)
  effect_counted (Arrival marks byte) heard told =
      ⊎_elim
      (λ (inside : in_loopback c ≡ true). by_nothing (Arrival marks byte) heard told (λ n. refl) (arrival_unheard c marks byte inside))
      (λ (outside : in_loopback c ≡ false). by_receiving (Arrival marks byte) heard told (arrival_received c marks byte outside))
      (either_way (in_loopback c))
  effect_counted (Levels levels) heard told = by_nothing (Levels levels) heard told (λ n. refl) (levels_figures c levels)
  effect_counted Time heard told =
      ⊎_elim
      (λ (inside : (in_loopback c && c.transmitter.busy) ≡ true). by_receiving Time heard told (time_received c inside))
      (λ (outside : (in_loopback c && c.transmitter.busy) ≡ false). by_nothing Time heard told (λ n. refl) (time_unheard c outside))
      (either_way (in_loopback c && c.transmitter.busy))

-- ---- any event, refused or not

and_so : (a b : Bool) → b ≡ true → (a && b) ≡ a
and_so true b is = is
and_so false b is = refl

and_not : (a b : Bool) → b ≡ false → (a && b) ≡ false
and_not true b is = is
and_not false b is = refl

-- it receives what it would, unless it is refused
pub received_told : (c : Channel) (e : SeatEvent) (heard : Bool) → Told c e heard
    → pick (heard && refusal_of (channel-step.stepped c e).answer == 0) 1 0 ≡ length (arrived_in (moments_of c e))
unfolding moments_of arrived_in
received_told c e heard told =
    ap (λ (n : ℕ). pick (heard && n == 0) 1 0) (channel-laws.step_number c e)
    ∙ ⊎_elim
    (λ (none : nat_eq (registers.refusal c.settings e) 0 ≡ true).
    ap (λ (b : Bool). pick b 1 0) (and_so heard _ none) ∙ told ∙ ap (λ (ms : List Moment). length (arrived_in ms)) (sym (pick_true _ _ [] none)))
    (λ (some : nat_eq (registers.refusal c.settings e) 0 ≡ false).
    ap (λ (b : Bool). pick b 1 0) (and_not heard _ some) ∙ pick_false false 1 0 refl
    ∙ ap (λ (ms : List Moment). length (arrived_in ms)) (sym (pick_false _ (accepted_moments c e) [] some)))
    (either_way (registers.refusal c.settings e == 0))

none_gone : (t : Tallies) (e : SeatEvent) → gone_by t e 0 ≡ more t 0 0 0 0
none_gone t (Read n) = refl
none_gone t (Write n byte) = refl
none_gone t (Arrival marks byte) = refl
none_gone t (Levels levels) = refl
none_gone t Time = refl

-- counted by the numbers queued, of what the channel's step left, is told by the ledger
pub by_counts : (t : Tallies) (c : Channel) (e : SeatEvent) (left : Stepped) (heard : Bool) → left ≡ channel-step.stepped c e
    → pick heard 1 0 ≡ length (arrived_in (moments_of c e))
    → counted t e heard (number (side c)) (number (side left.channel)) ≡ tallied t (side c) (moments_of c e)
unfolding moments_of counted tallied arrived_in read_in lost_in dropped_in
by_counts t c e left heard is told =
    ap (λ (x : Stepped). counted t e heard (number (side c)) (number (side x.channel))) is
    ∙ ⊎_elim
    (λ (none : nat_eq (registers.refusal c.settings e) 0 ≡ true).
    let all = pick_true (registers.refusal c.settings e == 0) (accepted_moments c e) [] none in
    ap (λ (x : Stepped). counted t e heard (number (side c)) (number (side x.channel))) (channel-laws.step_taken c e none)
    ∙ effect_counted t c e heard (told ∙ ap (λ (ms : List Moment). length (arrived_in ms)) all) ∙ ap (tallied t (side c)) (sym all))
    (λ (some : nat_eq (registers.refusal c.settings e) 0 ≡ false).
    let nothing = pick_false (registers.refusal c.settings e == 0) (accepted_moments c e) [] some in
    ap (λ (x : Stepped). counted t e heard (number (side c)) (number (side x.channel))) (channel-laws.step_refused c e some)
    ∙ pick_false _ _ _ (told_none heard (told ∙ ap (λ (ms : List Moment). length (arrived_in ms)) nothing))
    ∙ ap (gone_by t e) (sub_self (number (side c))) ∙ none_gone t e ∙ ap (tallied t (side c)) (sym nothing))
    (either_way (registers.refusal c.settings e == 0))

-- an event of these, as the code has it: where one may be received
pub heard_tallied : (t x : Tallies) (c : Channel) (e f : SeatEvent) (left : Stepped) (heard : Bool) → left ≡ channel-step.stepped c e → e ≡ f
    → pick heard 1 0 ≡ length (arrived_in (moments_of c e)) → x ≡ counted t f heard (number (side c)) (number (side left.channel))
    → x ≡ tallied t (side c) (moments_of c e)
heard_tallied t x c e f left heard after is told counts =
    counts ∙ ap (λ (y : SeatEvent). counted t y heard (number (side c)) (number (side left.channel))) (sym is) ∙ by_counts t c e left heard after told

-- and where none is, with how many fewer are queued
pub gone_tallied : (t x : Tallies) (c : Channel) (e f : SeatEvent) (left : Stepped) (n : ℕ) → left ≡ channel-step.stepped c e → e ≡ f → Told c f false
    → n ≡ number (side c) - number (side left.channel) → x ≡ gone_by t f n → x ≡ tallied t (side c) (moments_of c e)
unfolding counted
gone_tallied t x c e f left n after is told fewer gone =
    heard_tallied t x c e f left false after is (received_told c e false (subst (λ (y : SeatEvent). Told c y false) (sym is) told))
    (gone ∙ ap (gone_by t f) fewer ∙ sym (pick_false false _ _ refl))

-- the seat of a channel's step, with these tallies
abbrev pub with_tallies : Stepped → Tallies → Replied
with_tallies t x = record { seat = record { tallies = x; channel = t.channel }; answer = t.answer }

-- so told, the step of the channel is the seat's, where the tallies are numbers of 32 bits
pub by_moments : (s : Seat) (e : SeatEvent) (left : Stepped) (x : Tallies) → left ≡ channel-step.stepped s.channel e
    → x ≡ tallied s.tallies (side s.channel) (moments_of s.channel e) → s.tallies ≡ more s.tallies 0 0 0 0 → would_pass s e ≡ false
    → with_tallies left x ≡ stepped s e
unfolding effect moments_of tallied arrived_in read_in lost_in dropped_in
by_moments s e left x is told whole within =
    let n = own_number s e within in
    let counts = tallied s.tallies (side s.channel) in
    ap (with_tallies left) told ∙ ap (λ (l : Stepped). with_tallies l (counts (moments_of s.channel e))) is
    ∙ ⊎_elim
    (λ (none : nat_eq (own s e) 0 ≡ true).
    ap (λ (l : Stepped). with_tallies l (counts (moments_of s.channel e))) (channel-laws.step_taken s.channel e none)
    ∙ ap (λ (ms : List Moment). with_tallies (channel-step.effect s.channel e) (counts ms)) (pick_true _ (accepted_moments s.channel e) [] none)
    ∙ sym (step_taken s e (ap (λ (k : ℕ). nat_eq k 0) n ∙ none)))
    (λ (some : nat_eq (own s e) 0 ≡ false).
    ap (λ (l : Stepped). with_tallies l (counts (moments_of s.channel e))) (channel-laws.step_refused s.channel e some)
    ∙ ap (with_tallies (record { channel = s.channel; answer = Refused (own s e) }))
    (ap counts (pick_false _ (accepted_moments s.channel e) [] some) ∙ sym whole)
    ∙ ap {B = Replied} (λ (k : ℕ). record { seat = s; answer = Refused k }) (sym n)
    ∙ sym (step_refused s e (ap (λ (k : ℕ). nat_eq k 0) n ∙ some)))
    (either_way (own s e == 0))

-- where one more would be received than is left
pub by_last : (s : Seat) (e : SeatEvent) → would_pass s e ≡ true → refused_last s e ≡ stepped s e
by_last s e passes =
    ap {B = Replied} (λ (k : ℕ). record { seat = s; answer = Refused k }) (sym (last_number_lem s e passes))
    ∙ sym (step_refused s e (last_refused s e passes))

-- a read is its channel's, and is never refused by 19; a write and modem levels likewise
pub read_own : (s : Seat) (n : ℕ) → refusal s (Read n) ≡ own s (Read n)
read_own s n = own_number s (Read n) (unheard_own s (Read n) (read_figures s.channel n).arrived_is)

pub write_own : (s : Seat) (n byte : ℕ) → refusal s (Write n byte) ≡ own s (Write n byte)
write_own s n byte = own_number s (Write n byte) (unheard_own s (Write n byte) (write_figures s.channel n byte).arrived_is)

pub levels_own : (s : Seat) (levels : ℕ) → refusal s (Levels levels) ≡ own s (Levels levels)
levels_own s levels = own_number s (Levels levels) (unheard_own s (Levels levels) (levels_figures s.channel levels).arrived_is)

-- what is received does pass exactly where the tally is at its largest
pub full_passes : (s : Seat) (e : SeatEvent) (heard : Bool) → Told s.channel e heard → (heard && nat_le largest s.tallies.arrived) ≡ true → would_pass s e ≡ true
full_passes s e heard told both =
    let two = both_hold heard (nat_le largest s.tallies.arrived) both in
    let one : length (arrived_in (accepted_moments s.channel e)) ≡ 1 = sym told ∙ pick_true _ _ _ two.0 in
    let most = leb-true largest s.tallies.arrived two.1 in
    lt-ltb (largest - s.tallies.arrived) (length (arrived_in (accepted_moments s.channel e))) (omega (arith, one, most))

pub room_within : (s : Seat) (e : SeatEvent) (heard : Bool) → Told s.channel e heard → (heard && nat_le largest s.tallies.arrived) ≡ false → would_pass s e ≡ false
unfolding pick
room_within s e false told none = unheard_own s e (sym told)
room_within s e true told none =
    let one : 1 ≡ length (arrived_in (accepted_moments s.channel e)) = told in
    let less = leb-false largest s.tallies.arrived none in
    le-ltb (largest - s.tallies.arrived) (length (arrived_in (accepted_moments s.channel e))) (omega (arith, one, less))

-- at its largest, it would pass exactly where the event receives; below, nowhere
pub full_told : (s : Seat) (e : SeatEvent) (heard : Bool) → Told s.channel e heard → nat_le largest s.tallies.arrived ≡ true → heard ≡ would_pass s e
full_told s e true told most = sym (full_passes s e true told most)
full_told s e false told most = sym (room_within s e false told refl)

pub below_told : (s : Seat) (e : SeatEvent) → nat_le largest s.tallies.arrived ≡ false → would_pass s e ≡ false
below_told s (Read n) less = room_within s (Read n) false (read_told s.channel n) refl
below_told s (Write n byte) less = room_within s (Write n byte) false (write_told s.channel n byte) refl
below_told s (Arrival marks byte) less = room_within s (Arrival marks byte) _ (arrival_told s.channel marks byte) (and_not (not (in_loopback s.channel)) _ less)
below_told s (Levels levels) less = room_within s (Levels levels) false (levels_told s.channel levels) refl
below_told s Time less = room_within s Time _ (time_told s.channel) (and_not (in_loopback s.channel && s.channel.transmitter.busy) _ less)

-- a master reset drops what is queued
pub reset_counts : (s : Seat) → tallied s.tallies (side s.channel) (resets ∷ []) ≡ more s.tallies 0 0 0 (queued s)
reset_counts s = by_figures s.tallies (side s.channel) (resets ∷ []) 0 0 0 (queued s) (resets_figures (side s.channel))
