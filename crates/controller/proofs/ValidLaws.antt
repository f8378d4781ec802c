-- Power-up is valid, and every signal, refused or not, keeps a valid controller valid.
use Rattle.std.specs.Prelude.{ℕ, ◌+◌, ◌*◌, ◌/◌, ◌%◌, ◌<◌, ◌≤◌, Bool, true, false, not, ◌&&◌, ◌||◌, ◌≡◌, refl, eqb, ltb, leb}
use Rattle.std.proofs.Common.{sym, ap₂, ◌∙◌, arith, eq-eqb, lt-ltb, le-leb, eqb-true, ltb-true, leb-true}
use Rattle.base.specs.PickLaws.{pick_cases, both_hold, not_both}
use Rattle.base.specs.Bits.{bit}
use Rattle.base.specs.EveryLaws.{every_each, every_from}
use Rattle.rank.specs.Sets.{line, has, only, join, without}
use Rattle.rank.specs.SetLaws.{line_lt, has_meet, has_without, has_none}
use Rattle.rank.specs.Rank.{next}
use Rattle.controller.specs.State.{power_up}
use Rattle.controller.specs.Signals.{Signal, levels}
use Rattle.controller.specs.Turns.{settled, taken, grant}
use Rattle.controller.specs.Words.{icw1, icw2, icw4, ended, made_last, ocw3}
use Rattle.controller.proofs.OutcomeLaws.{Operates, nothing, ends, ends_last, ends_line, ends_line_last, makes_last, rotates_on, rotates_off, selects, Outcome, unchanged, shows, begins, bases, readies, masks, operates, grants, outcome}
use Rattle.controller.specs.Steps.{step}
use Rattle.controller.specs.Valid.{latches_high, valid}
use Rattle.controller.specs.declared.Controller.{Controller}
use Rattle.controller.specs.declared.Operation.{Operation}
use Rattle.controller.specs.declared.Lines.{Lines}

-- the test, part by part
pub record Sound (base first stage : ℕ) (l : Lines) : Type 0 where
  pub eights : base % 8 ≡ 0
  pub ranked : first < 8
  pub staged : stage ≤ 3
  pub high : (n : ℕ) → n < 8 → has l.latches n ≡ true → has l.levels n ≡ true

abbrev pub SoundC : Controller → Type 0
SoundC c = Sound c.setup.base c.operation.first c.setup.stage c.lines

implied : (a b : Bool) → (not a || b) ≡ true → a ≡ true → b ≡ true
implied true b e t = e
implied false b e t = absurd (not_both t refl)

implies : (a b : Bool) → (a ≡ true → b ≡ true) → (not a || b) ≡ true
implies true b f = f refl
implies false b f = refl

pub valid_sound : (c : Controller) → valid c ≡ true → SoundC c
unfolding valid latches_high
valid_sound c e =
    let p = both_hold _ (latches_high c.lines) e in
    let q = both_hold _ (leb c.setup.stage 3) p.0 in
    let r = both_hold (eqb (c.setup.base % 8) 0) (ltb c.operation.first 8) q.0 in
    record {
      eights = eqb-true (c.setup.base % 8) 0 r.0;
      ranked = ltb-true c.operation.first 8 r.1;
      staged = leb-true c.setup.stage 3 q.1;
      high = λ n small. implied (has c.lines.latches n) (has c.lines.levels n) (every_each 8 (λ k. not (has c.lines.latches k) || has c.lines.levels k) p.1 n small);
    }

pub sound_valid : (c : Controller) → SoundC c → valid c ≡ true
unfolding valid latches_high
sound_valid c s =
    ap₂ ◌&&◌
    (ap₂ ◌&&◌ (ap₂ ◌&&◌ (eq-eqb (c.setup.base % 8) 0 s.eights) (lt-ltb c.operation.first 8 s.ranked)) (le-leb c.setup.stage 3 s.staged))
    (every_from 8 (λ k. not (has c.lines.latches k) || has c.lines.levels k)
    (λ k small. implies (has c.lines.latches k) (has c.lines.levels k) (s.high k small)))

pub power_up_valid : valid power_up ≡ true
unfolding valid latches_high bit
power_up_valid = refl

-- ---- every signal

eights_of : (b : ℕ) → b / 8 * 8 % 8 ≡ 0
eights_of b = omega arith

next_lt : (n : ℕ) → next n < 8
next_lt n = line_lt (line n + 1)

module _ (c : Controller) (s : SoundC c) where
  ranks : (b : ℕ) (o : Operation) → Operates c.operation b o → o.first < 8
  unfolding ended made_last ocw3
  ranks b o nothing = s.ranked
  ranks b o (ends n k e) = s.ranked
  ranks b o (ends_last n k e) = next_lt n
  ranks b o (ends_line k) = s.ranked
  ranks b o (ends_line_last k) = next_lt (line b)
  ranks b o (makes_last k) = next_lt (line b)
  ranks b o (rotates_on k) = s.ranked
  ranks b o (rotates_off k) = s.ranked
  ranks b o (selects e) = s.ranked

  sound_after : (signal : Signal) (d : Controller) → Outcome c signal d → SoundC d
  unfolding settled icw1 icw2 icw4 grant taken
  sound_after signal d (unchanged x) = s
  sound_after signal d (shows h) =
      record {
        eights = s.eights;
        ranked = s.ranked;
        staged = s.staged;
        high = λ n small e. (both_hold (has h n) (has (join c.lines.latches (without h c.lines.levels)) n) (sym (has_meet h (join c.lines.latches (without h c.lines.levels)) n) ∙ e)).0;
      }
  sound_after signal d (begins p b z e) =
      record { eights = s.eights; ranked = omega arith; staged = omega arith; high = λ n small t. absurd (not_both t (has_none n)) }
  sound_after signal d (bases p b z e) = record { eights = eights_of b; ranked = s.ranked; staged = omega arith; high = s.high }
  sound_after signal d (readies p b z e) = record { eights = s.eights; ranked = s.ranked; staged = omega arith; high = s.high }
  sound_after signal d (masks p b z e) = record { eights = s.eights; ranked = s.ranked; staged = s.staged; high = s.high }
  sound_after signal d (operates p b o z up e x) = record { eights = s.eights; ranked = ranks b o x; staged = s.staged; high = s.high }
  sound_after signal d (grants n e) =
      record {
        eights = s.eights;
        ranked = pick_cases (λ (k : ℕ). k < 8) (c.setup.automatic && c.operation.rotation) (next n) c.operation.first (λ _. next_lt n) (λ _. s.ranked);
        staged = s.staged;
        high = λ m small t. s.high m small (both_hold (has c.lines.latches m) (not (has (only n) m)) (sym (has_without c.lines.latches (only n) m) ∙ t)).0;
      }

pub valid_kept : (c : Controller) (signal : Signal) → valid c ≡ true → valid (step c signal).controller ≡ true
valid_kept c signal e =
    sound_valid (step c signal).controller (sound_after c (valid_sound c e) signal (step c signal).controller (outcome c signal))

pub valid_settled : (c : Controller) (high : ℕ) → valid c ≡ true → valid (settled c high) ≡ true
valid_settled c high e = sound_valid (settled c high) (sound_after c (valid_sound c e) (levels high) (settled c high) (shows high))
