-- Demand 3 holds: what each record sends to the controller, and the demand for one controller.
use Prim.Native.Nat.{ℕ, ◌<◌}
use mathlib.Core.Bool.{Bool, true, false}
use mathlib.Core.List.{List, [], ◌∷◌, ◌++◌}
use mathlib.Core.Path.{◌≡◌, refl, ap, sym, subst, ◌∙◌}
use mathlib.Core.Logic.{◌⊎◌, inl, inr, ⊎_elim}
use native.Mathlib.Omega.{arith}
use lib.Dec.{eqb}
use Rattle.base.specs.Pick.{pick}
use Rattle.base.specs.Refusals.{first_of, refusal_by}
use Rattle.base.proofs.BitLaws.{bit_bits}
use Rattle.base.specs.declared.Answer.{Answer}
use Rattle.base.specs.declared.Answer.TheVariants as answer
use Rattle.rank.specs.Sets.{has}
use Rattle.registers.specs.declared.SeatEvent.{SeatEvent}
use Rattle.seat.specs.Seats.{no_seat, line}
use Rattle.controller.specs.Signals.{Signal, levels, read, write, acknowledge}
use Rattle.controller.specs.Turns.{settled}
use Rattle.controller.specs.Steps.{step}
use Rattle.controller.specs.RefusalLaws.{step_levels, read_keeps}
use Rattle.controller.specs.declared.Controller.{Controller}
use Rattle.turn.specs.Runs.{answers}
use Rattle.turn.specs.Waiting.{Waits}
use Rattle.turn.specs.Demand3.{InTurn}
use Rattle.turn.specs.Demand3 as turn
use Rattle.turn.proofs.InTurn.{demand_3}
use Rattle.records.specs.declared.Event.{Event}
use Rattle.records.specs.declared.Event.TheVariants.{OfSeat, MasterReset, ReadController, WriteController, Acknowledge}
use Rattle.records.specs.Events.{Record, decoded, Decoded}
use Rattle.bench.specs.declared.Bench.{Bench}
use Rattle.bench.specs.declared.Outcome.{Outcome}
use Rattle.bench.specs.Seats.{chair, seat, lines, power_up}
use Rattle.bench.specs.Refusals.{room_grounds}
use Rattle.bench.specs.Runs.{after_all}
use Rattle.bench.specs.Steps.{room_refusal, after, answer_to, shown, met, outcome, dealt}
use Rattle.bench.specs.MeetLaws.{outcome_dealt, write_met, acknowledge_met, read_met}
use Rattle.bench.specs.FrameLaws.{mapped_at, chair_small}
use Rattle.bench.specs.Wired.{Wired}
use Rattle.bench.proofs.WiredLaws.{wired_kept, wired_power_up}
use Rattle.std.specs.Prelude.{Ok, Err}
use Rattle.demands.specs.Demand3.{Calm, owing, heard, told, Names, KeptWaiting, Demand3, Demand3FromPowerUp}

-- ---- what a record sends to the controller

-- an event that moves lines sends the levels after it
abbrev moved : Bench → Event → List Signal
moved b e = levels (after b e).controller.lines.levels ∷ []

sends : Bench → Decoded → List Signal
sends b (Ok (OfSeat m e)) = pick (eqb (room_refusal b (OfSeat m e)) 0) (moved b (OfSeat m e)) []
sends b (Ok MasterReset) = moved b MasterReset
sends b (Ok (ReadController port)) = read port ∷ []
sends b (Ok (WriteController port byte)) = write port byte ∷ []
sends b (Ok Acknowledge) = acknowledge ∷ []
sends b (Err number) = []

-- and the outcome agrees with it: in what the acknowledges answer, and in what may come
record Agrees (b : Bench) (n : ℕ) (d : Decoded) (o : Outcome) (xs : List Signal) : Type 0 where
  same : (rest : List Signal) → answers b.controller (xs ++ rest) ≡ heard d o.answer ++ answers o.bench.controller rest
  waits : (owed : Bool) (rest : List Signal) → Calm n owed d
      → (Names n b.controller d o.answer
      ⊎ ((has o.bench.controller.lines.levels n ≡ true) × Waits n (owing b.controller owed d) o.bench.controller rest))
      → Waits n owed b.controller (xs ++ rest)

-- nothing is not an answer
not_heard : (a : Answer) → [] ≡ a ∷ [] → ⊥
not_heard a e = let z : ◌≡◌ {A = ℕ} 0 1 = cc in omega arith

module _ (b : Bench) (n : ℕ) where
  -- nothing is sent, and nothing changes
  still_agrees : (d : Decoded) (a : Answer) → heard d a ≡ [] → ((owed : Bool) → owing b.controller owed d ≡ owed) → Agrees b n d (shown b a) []
  still_agrees d a silent same-owed =
      record {
        same = λ rest. rw silent;
        waits = λ owed rest calm.
            ⊎_elim (λ named. absurd (not_heard _ (sym silent ∙ named)))
            (λ on. subst (λ (w : Bool). Waits n w b.controller rest) (same-owed owed) on.1);
      }

  -- the levels after a seat event or a master reset are sent
  moved_agrees : (e : Event) (a : Answer) → heard (Ok e) a ≡ [] → ((owed : Bool) → owing b.controller owed (Ok e) ≡ owed)
      → settled b.controller (after b e).controller.lines.levels ≡ (after b e).controller
      → Agrees b n (Ok e) (shown (after b e) a) (moved b e)
  moved_agrees e a silent same-owed settles =
      let goes : (step b.controller (levels (after b e).controller.lines.levels)).controller ≡ (after b e).controller
      = ap (λ x. x.controller) (step_levels b.controller _) ∙ settles in
      record {
        same = λ rest. ap (λ (c : Controller). answers c rest) goes ∙ ap (λ (l : List Answer). l ++ answers (after b e).controller rest) (sym silent);
        waits = λ owed rest calm.
            ⊎_elim (λ named. absurd (not_heard _ (sym silent ∙ named)))
            (λ on. (
              on.0,
              inr (subst (λ (c : Controller). Waits n owed c rest) (sym goes) (subst (λ (w : Bool). Waits n w (after b e).controller rest) (same-owed owed) on.1)),
            ));
      }

  by_test : (d : Decoded) (t : Bool) (x y : Outcome) (xs ys : List Signal) → Agrees b n d x xs → Agrees b n d y ys → Agrees b n d (pick t x y) (pick t xs ys)
  unfolding pick
  by_test d true x y xs ys first second = first
  by_test d false x y xs ys first second = second

  -- what the levels are settled to is what they are after it
  seat_settles : (m : ℕ) (e : SeatEvent) → settled b.controller (after b (OfSeat m e)).controller.lines.levels ≡ (after b (OfSeat m e)).controller
  unfolding after settled
  seat_settles m e = refl

  reset_settles : settled b.controller (after b MasterReset).controller.lines.levels ≡ (after b MasterReset).controller
  unfolding after settled
  reset_settles = refl

  seat_agrees : (m : ℕ) (e : SeatEvent) → Agrees b n (Ok (OfSeat m e)) (met b (OfSeat m e)) (sends b (Ok (OfSeat m e)))
  unfolding met sends
  seat_agrees m e =
      by_test (Ok (OfSeat m e)) (eqb (room_refusal b (OfSeat m e)) 0) _ _ _ _
      (moved_agrees (OfSeat m e) (answer_to b (OfSeat m e)) refl (λ owed. refl) (seat_settles m e))
      (still_agrees (Ok (OfSeat m e)) (answer.Refused (room_refusal b (OfSeat m e))) refl (λ owed. refl))

  reset_met : shown (after b MasterReset) (answer_to b MasterReset) ≡ met b MasterReset
  unfolding met room_refusal room_grounds refusal_by first_of pick
  reset_met = refl

  reset_agrees : Agrees b n (Ok MasterReset) (met b MasterReset) (moved b MasterReset)
  reset_agrees =
      subst (λ (o : Outcome). Agrees b n (Ok MasterReset) o (moved b MasterReset)) reset_met
      (moved_agrees MasterReset (answer_to b MasterReset) refl (λ owed. refl) reset_settles)

  read_agrees : (port : ℕ) → Agrees b n (Ok (ReadController port)) (met b (ReadController port)) (read port ∷ [])
  read_agrees port =
      let keeps : b.controller ≡ (step b.controller (read port)).controller = sym (read_keeps b.controller port) in
      subst (λ (o : Outcome). Agrees b n (Ok (ReadController port)) o (read port ∷ [])) (read_met b port)
      (record {
        same = λ rest. ap (λ (c : Controller). answers c rest) (sym keeps);
        waits = λ owed rest calm.
            ⊎_elim (λ named. absurd (not_heard _ named)) (λ on. (tt, inr (subst (λ (c : Controller). Waits n owed c rest) keeps on.1)));
      })

  write_agrees : (port byte : ℕ) → Agrees b n (Ok (WriteController port byte)) (met b (WriteController port byte)) (write port byte ∷ [])
  write_agrees port byte =
      subst (λ (o : Outcome). Agrees b n (Ok (WriteController port byte)) o (write port byte ∷ [])) (write_met b port byte)
      (record {
        same = λ rest. refl;
        waits = λ owed rest calm. ⊎_elim (λ named. absurd (not_heard _ named)) (λ on. (calm, inr on.1));
      })

  one_heard : (a a' : Answer) → ◌≡◌ {A = List Answer} (a ∷ []) (a' ∷ []) → a ≡ a'
  one_heard a a' e = cc

  acknowledge_agrees : Agrees b n (Ok Acknowledge) (met b Acknowledge) (acknowledge ∷ [])
  acknowledge_agrees =
      subst (λ (o : Outcome). Agrees b n (Ok Acknowledge) o (acknowledge ∷ [])) (acknowledge_met b)
      (record {
        same = λ rest. refl;
        waits = λ owed rest calm. ⊎_elim (λ named. (calm, inl (one_heard _ _ named))) (λ on. (calm, inr on.1));
      })

  agrees : (d : Decoded) → Agrees b n d (dealt b d) (sends b d)
  unfolding dealt sends
  agrees (Ok (OfSeat m e)) = seat_agrees m e
  agrees (Ok MasterReset) = reset_agrees
  agrees (Ok (ReadController port)) = read_agrees port
  agrees (Ok (WriteController port byte)) = write_agrees port byte
  agrees (Ok Acknowledge) = acknowledge_agrees
  agrees (Err number) = still_agrees (Err number) (answer.Refused number) refl (λ owed. refl)

  record_agrees : (r : Record) → Agrees b n (decoded r) (outcome b r) (sends b (decoded r))
  record_agrees r = subst (λ (o : Outcome). Agrees b n (decoded r) o (sends b (decoded r))) (sym (outcome_dealt b r)) (agrees (decoded r))

-- ---- the line of a seat is the level of the controller's line

line_high : (b : Bench) (n : ℕ) → Wired b → line (seat b n) ≡ true → has b.controller.lines.levels n ≡ true
unfolding lines seat
line_high b n w high =
    ap (λ (l : ℕ). has l n) w.levels ∙ bit_bits (chair n) _
    ∙ mapped_at line b.seats (chair n) no_seat false (subst (λ (k : ℕ). chair n < k) (sym w.all) (chair_small n)) ∙ high

-- ---- a run of records

sent : Bench → List Record → List Signal
sent b [] = []
sent b (r ∷ rs) = sends b (decoded r) ++ sent (outcome b r).bench rs

told_answers : (b : Bench) (rs : List Record) → answers b.controller (sent b rs) ≡ told b rs
unfolding sent
told_answers b [] = refl
told_answers b (r ∷ rs) =
    (record_agrees b 0 r).same (sent (outcome b r).bench rs)
    ∙ ap (λ (l : List Answer). heard (decoded r) (outcome b r).answer ++ l) (told_answers (outcome b r).bench rs)

all_wait : (n : ℕ) (owed : Bool) (b : Bench) (rs : List Record) → Wired b → KeptWaiting n owed b rs → Waits n owed b.controller (sent b rs)
unfolding sent
all_wait n owed b [] w k = tt
all_wait n owed b (r ∷ rs) w k =
    let v = wired_kept b w r in
    (record_agrees b n r).waits owed (sent (outcome b r).bench rs) k.0
    (⊎_elim (λ named. inl named)
    (λ on. inr (line_high (outcome b r).bench n v on.0, all_wait n (owing b.controller owed (decoded r)) (outcome b r).bench rs v on.1)) k.1)

pub demand_3_bench : Demand3
unfolding Demand3 turn.Demand3
demand_3_bench b n rs w st k =
    subst (InTurn b.controller n) (told_answers b rs) (demand_3 b.controller n (sent b rs) st (all_wait n false b rs w k))

-- ---- from power-up

pub wired_all : (b : Bench) (rs : List Record) → Wired b → Wired (after_all b rs)
wired_all b [] w = w
wired_all b (r ∷ rs) w = wired_all (outcome b r).bench rs (wired_kept b w r)

pub demand_3_from_power_up : Demand3FromPowerUp
unfolding Demand3
demand_3_from_power_up before n rs = demand_3_bench (after_all power_up before) n rs (wired_all power_up before wired_power_up)
