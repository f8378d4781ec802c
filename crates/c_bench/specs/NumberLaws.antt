-- No number of C is cut: one that is past a byte has, as 255, the outcome that it has as it is.
use Rattle.std.specs.Prelude.{ℕ, ◌≤◌, Bool, ◌≡◌, eqb, ltb, Ok, Err}
use Rattle.std.proofs.Math.Bool.{true, false}
use Rattle.std.proofs.Common.{⊎_elim, ◌∙◌, arith, lt-ltb, ltb-true}
use Rattle.std.proofs.Math.Path.{refl, ap, sym}
use Rattle.base.specs.Pick.{pick}
use Rattle.base.specs.PickLaws.{pick_true, pick_false, not_both, either_way}
use Rattle.base.specs.Refusals.{first_of, refusal_by, first_held}
use Rattle.base.specs.RefusalLaws.{in_order}
use Rattle.base.specs.declared.Answer.TheVariants.{Refused}
use Rattle.registers.specs.declared.SeatEvent.{SeatEvent}
use Rattle.registers.specs.declared.SeatEvent.TheVariants.{Read, Write, Arrival}
use Rattle.registers.specs.Refusals as registers
use Rattle.seat.specs.declared.Seat.{Seat}
use Rattle.seat.specs.Steps.{refusal, grounds}
use Rattle.seat.specs.StepLaws.{in_turn}
use Rattle.controller.specs.declared.Controller.{Controller}
use Rattle.controller.specs.declared.Signalled.{Signalled}
use Rattle.controller.specs.Signals.{Signal, read, write}
use Rattle.controller.specs.Refusals as controller
use Rattle.controller.specs.RefusalLaws.{refusal_by_grounds, step_refused}
use Rattle.controller.specs.Steps.{step}
use Rattle.records.specs.declared.Event.{Event}
use Rattle.records.specs.declared.Touched.{Touched}
use Rattle.records.specs.Events.{whole, early, event_of, decoded}
use Rattle.records.specs.EarlyLaws.{early_kind, early_seat}
use Rattle.records.specs.UsesLaws.{decoded_alike}
use Rattle.records.specs.Parts.{touched, besides, met_parts, dealt_parts, parted}
use Rattle.c_word.specs.Numbers.{as_byte}
use Rattle.c_word.specs.NumberLaws.{told_up_to}

-- ---- the kind: each is refused

refused_by_lem : (k s n v number : ℕ) → early (whole k s n v) ≡ number → eqb number 0 ≡ false → decoded (whole k s n v) ≡ Err number
unfolding decoded
refused_by_lem k s n v number e some = rw e (pick_false _ _ _ some)

kind_past : (s n v k : ℕ) → 255 ≤ k → decoded (whole k s n v) ≡ decoded (whole 255 s n v)
kind_past s n v k past = refused_by_lem k s n v 3 (early_kind k s n v (omega arith)) refl ∙ sym (refused_by_lem 255 s n v 3 (early_kind 255 s n v (omega arith)) refl)

-- ---- the seat: each is refused where the kind uses it

seat_past : (k n v s : ℕ) → 255 ≤ s → decoded (whole k s n v) ≡ decoded (whole k 255 n v)
seat_past k n v s past =
    ⊎_elim
    (λ (uses : ltb k 5 ≡ true).
    refused_by_lem k s n v 1 (early_seat k s n v (ltb-true k 5 uses) (omega arith)) refl ∙ sym (refused_by_lem k 255 n v 1 (early_seat k 255 n v (ltb-true k 5 uses) (omega arith)) refl))
    (λ (other : ltb k 5 ≡ false).
    decoded_alike k s n v 255 n v (record { seats = λ uses. absurd (not_both uses other); numbers = λ uses. refl; values = λ uses. refl }))
    (either_way (ltb k 5))

-- ---- the number: each is refused as a register, as marks and as a port

module _ (s : Seat) (c : Controller) (n v : ℕ) where
  -- two events that are refused alike
  alike : (e d : SeatEvent) → refusal s e ≡ refusal s d → eqb (refusal s d) 0 ≡ false → touched s c n e ≡ touched s c n d
  unfolding touched
  alike e d same some = rw same (pick_false _ _ _ some ∙ sym (pick_false _ _ _ some))

  register_read : (m : ℕ) → 255 ≤ m → refusal s (Read m) ≡ 2
  unfolding refusal registers.grounds refusal_by first_of pick
  register_read m past = rw (lt-ltb 7 m (omega arith))

  register_written : (m : ℕ) → 255 ≤ m → refusal s (Write m v) ≡ 2
  unfolding refusal registers.grounds refusal_by first_of pick
  register_written m past = rw (lt-ltb 7 m (omega arith))

  -- by the divisor, or else by the marks, whatever else is off
  abbrev arrival_by : Bool → ℕ
  arrival_by none = pick none 5 6

  arrival_refused : (none : Bool) → eqb (arrival_by none) 0 ≡ false
  unfolding pick
  arrival_refused true = refl
  arrival_refused false = refl

  arrival_marks : (m : ℕ) → 255 ≤ m → refusal s (Arrival m v) ≡ arrival_by (registers.no_divisor s.channel.settings)
  unfolding refusal registers.grounds first_held
  arrival_marks m past =
      in_order (grounds s (Arrival m v)) (in_turn s (Arrival m v))
      ∙ ap (pick (registers.no_divisor s.channel.settings) 5) (pick_true _ _ _ (lt-ltb 7 m (omega arith)))

  arrival_past : (m : ℕ) → 255 ≤ m → touched s c n (Arrival m v) ≡ touched s c n (Arrival 255 v)
  arrival_past m past =
      let e = arrival_marks 255 (omega arith) in
      alike (Arrival m v) (Arrival 255 v) (arrival_marks m past ∙ sym e) (ap (λ (r : ℕ). eqb r 0) e ∙ arrival_refused _)

  read_past : (m : ℕ) → 255 ≤ m → touched s c n (Read m) ≡ touched s c n (Read 255)
  read_past m past =
      let e = register_read 255 (omega arith) in
      alike (Read m) (Read 255) (register_read m past ∙ sym e) (ap (λ (r : ℕ). eqb r 0) e)

  write_past : (m : ℕ) → 255 ≤ m → touched s c n (Write m v) ≡ touched s c n (Write 255 v)
  write_past m past =
      let e = register_written 255 (omega arith) in
      alike (Write m v) (Write 255 v) (register_written m past ∙ sym e) (ap (λ (r : ℕ). eqb r 0) e)

  port_refused : (signal : Signal) → controller.port_above signal ≡ true → step c signal ≡ record { controller = c; answer = Refused 2 }
  port_refused signal above =
      let number : controller.refusal c.setup signal ≡ 2 = refusal_by_grounds c.setup signal ∙ pick_true _ _ _ above in
      step_refused c signal (λ none. let z : 2 ≡ 0 = sym number ∙ none in absurd (omega arith))
      ∙ ap {B = Signalled} (λ (r : ℕ). record { controller = c; answer = Refused r }) number

  port_read : (m : ℕ) → 255 ≤ m → step c (read m) ≡ step c (read 255)
  port_read m past = port_refused (read m) (lt-ltb 1 m (omega arith)) ∙ sym (port_refused (read 255) refl)

  port_written : (m : ℕ) → 255 ≤ m → step c (write m v) ≡ step c (write 255 v)
  port_written m past = port_refused (write m v) (lt-ltb 1 m (omega arith)) ∙ sym (port_refused (write 255 v) refl)

  -- a choice of two events, by what each comes to
  chosen : (b : Bool) (x y x' y' : Event) → met_parts s c x ≡ met_parts s c x' → met_parts s c y ≡ met_parts s c y' → met_parts s c (pick b x y) ≡ met_parts s c (pick b x' y')
  unfolding pick
  chosen true x y x' y' first second = first
  chosen false x y x' y' first second = second

  event_past : (k m : ℕ) → 255 ≤ m → met_parts s c (event_of k n m v) ≡ met_parts s c (event_of k n 255 v)
  unfolding event_of met_parts
  event_past k m past =
      chosen (eqb k 0) _ _ _ _ (read_past m past)
      (chosen (eqb k 1) _ _ _ _ (write_past m past)
      (chosen (eqb k 2) _ _ _ _ (arrival_past m past)
      (chosen (eqb k 3) _ _ _ _ refl
      (chosen (eqb k 4) _ _ _ _ refl
      (chosen (eqb k 5) _ _ _ _ refl
      (chosen (eqb k 6) _ _ _ _ (ap {B = Touched} (λ (t : Signalled). record { seat = s; controller = c; answer = t.answer }) (port_read m past))
      (chosen (eqb k 7) _ _ _ _ (ap (besides s) (port_written m past)) refl)))))))

  -- what decoding refuses does not depend on the number
  dealt_alike : (k m : ℕ) (b : Bool) → met_parts s c (event_of k n m v) ≡ met_parts s c (event_of k n 255 v)
      → dealt_parts s c (pick b (Ok (event_of k n m v)) (Err (early (whole k n m v))))
      ≡ dealt_parts s c (pick b (Ok (event_of k n 255 v)) (Err (early (whole k n 255 v))))
  unfolding early dealt_parts pick
  dealt_alike k m true same = same
  dealt_alike k m false same = refl

  number_past : (k m : ℕ) → 255 ≤ m → parted s c (whole k n m v) ≡ parted s c (whole k n 255 v)
  unfolding decoded early
  number_past k m past = dealt_alike k m (eqb (early (whole k n m v)) 0) (event_past k m past)

  -- a record of C's numbers comes to what it comes to as bytes
  pub past_a_byte : (k m : ℕ) → parted s c (whole k n m v) ≡ parted s c (whole (as_byte k) (as_byte n) (as_byte m) v)
  past_a_byte k m =
      told_up_to 255 (λ (j : ℕ). parted s c (whole j n m v)) (λ j past. ap (dealt_parts s c) (kind_past n m v j past)) k
      ∙ told_up_to 255 (λ (j : ℕ). parted s c (whole (as_byte k) n j v)) (number_past (as_byte k)) m
      ∙ told_up_to 255 (λ (j : ℕ). parted s c (whole (as_byte k) j (as_byte m) v)) (λ j past. ap (dealt_parts s c) (seat_past (as_byte k) (as_byte m) v j past)) n
