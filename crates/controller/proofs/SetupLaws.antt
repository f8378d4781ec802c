-- Power-up, the initialisation words and the mask, each effect by itself, over any state in which the word is accepted.
use Rattle.std.specs.Prelude.{ℕ, ◌+◌, ◌%◌, ◌<◌, ◌≤◌, Bool, true, false, ◌≡◌}
use Rattle.std.proofs.Math.Path.{refl, subst}
use Rattle.std.proofs.Common.{sym, ne_eqb, le-ltb}
use native.Mathlib.Omega.{arith}
use Rattle.base.specs.Bits.{bit}
use Rattle.base.specs.declared.Answer.TheVariants.{Done, Refused}
use Rattle.rank.specs.Sets.{has}
use Rattle.rank.specs.SetLaws.{has_none}
use Rattle.rank.specs.Rank.{place}
use Rattle.controller.specs.State.{power_up, ready, begun}
use Rattle.controller.specs.Signals.{read, write, acknowledge}
use Rattle.controller.specs.Turns.{output_of}
use Rattle.controller.specs.Words.{icw1, icw2, icw4}
use Rattle.controller.proofs.OutputLaws.{output_unready}
use Rattle.controller.specs.TableLaws.{read_unready, acknowledge_unready, operation_unready}
use Rattle.controller.specs.WordLaws.{step_icw1, step_icw2, step_icw4, step_mask}
use Rattle.controller.specs.RowLaws.{Same, Becomes}
use Rattle.controller.specs.Steps.{step}
use Rattle.controller.specs.declared.Controller.{Controller}
use Rattle.controller.specs.declared.Operation.{Operation}
use Rattle.controller.specs.declared.Signalled.{Signalled}

-- no line is masked or in service, every mode is off, the requests are selected, and line 0 ranks first
pub record Cleared (o : Operation) : Type 0 where
  pub mask : (n : ℕ) → has o.mask n ≡ false
  pub service : (n : ℕ) → has o.service n ≡ false
  pub rank : (n : ℕ) → n < 8 → place o.first n ≡ n
  pub rotation : o.rotation ≡ false
  pub special : o.special ≡ false
  pub selected : o.selected ≡ false

cleared : Cleared power_up.operation
cleared =
    record { mask = λ n. has_none n; service = λ n. has_none n; rank = λ n small. omega arith; rotation = refl; special = refl; selected = refl }

-- "At power-up it is not ready; all is 0 and line 0 ranks first."
pub record PoweredUp (c : Controller) : Type 0 where
  pub unready : ready c.setup ≡ false
  pub unbegun : begun c.setup ≡ false
  pub levels : (n : ℕ) → has c.lines.levels n ≡ false
  pub latches : (n : ℕ) → has c.lines.latches n ≡ false
  pub level : c.setup.level ≡ false
  pub base : c.setup.base ≡ 0
  pub automatic : c.setup.automatic ≡ false
  pub operation : Cleared c.operation

pub powered_up : PoweredUp power_up
powered_up =
    record {
      unready = refl;
      unbegun = refl;
      levels = λ n. has_none n;
      latches = λ n. has_none n;
      level = refl;
      base = refl;
      automatic = refl;
      operation = cleared;
    }

-- "it clears edge latches, mask, in-service, special mask, automatic end and its rotation, selects the request register for port 0,
-- ranks line 0 first, takes bit 3 as level mode and makes the controller not ready"
pub record Begun (b : ℕ) (c : Controller) (s : Signalled) : Type 0 where
  pub answer : s.answer ≡ Done
  pub latches : (n : ℕ) → has s.controller.lines.latches n ≡ false
  pub operation : Cleared s.controller.operation
  pub automatic : s.controller.setup.automatic ≡ false
  pub level : s.controller.setup.level ≡ bit 3 b
  pub stage : s.controller.setup.stage ≡ 1
  -- nothing else: the lines stay as they are, and the base until ICW2
  pub levels : s.controller.lines.levels ≡ c.lines.levels
  pub base : s.controller.setup.base ≡ c.setup.base

-- "ICW1 may come at any time"
pub begins : (c : Controller) (b : ℕ) → bit 4 b ≡ true → bit 0 b ≡ true → bit 1 b ≡ true → Begun b c (step c (write 0 b))
unfolding icw1
begins c b e f g =
    subst (Begun b c) (sym (step_icw1 c b e f g))
    (record {
      answer = refl;
      latches = λ n. has_none n;
      operation = cleared;
      automatic = refl;
      level = refl;
      stage = refl;
      levels = refl;
      base = refl;
    })

-- "then ICW2 and ICW4 at port 1, then ready": the stage that the word leads to, and how it changes base and automatic end
pub record Settles (stage : ℕ) (Base : ℕ → ℕ → Type 0) (Automatic : Bool → Bool → Type 0) (c : Controller) (s : Signalled) : Type 0 where
  pub answer : s.answer ≡ Done
  pub next : s.controller.setup.stage ≡ stage
  pub base : Base c.setup.base s.controller.setup.base
  pub automatic : Automatic c.setup.automatic s.controller.setup.automatic
  pub level : s.controller.setup.level ≡ c.setup.level
  pub lines : s.controller.lines ≡ c.lines
  pub operation : s.controller.operation ≡ c.operation

-- "ICW2's top five bits are the base.": the byte without its low three bits
pub record TopFive (b before after : ℕ) : Type 0 where
  pub eights : after % 8 ≡ 0
  pub rest : after + b % 8 ≡ b

module _ (c : Controller) (b : ℕ) where
  pub bases : c.setup.stage ≡ 1 → Settles 2 (TopFive b) Same c (step c (write 1 b))
  unfolding icw2
  bases e =
      subst (Settles 2 (TopFive b) Same c) (sym (step_icw2 c b e))
      (record {
        answer = refl;
        next = refl;
        base = record { eights = omega arith; rest = omega arith };
        automatic = refl;
        level = refl;
        lines = refl;
        operation = refl;
      })

  -- "ICW4 bit 1 is automatic end; other bits are ignored"
  pub readies : c.setup.stage ≡ 2 → bit 0 b ≡ true → Settles 3 Same (Becomes (bit 1 b)) c (step c (write 1 b))
  unfolding icw4
  readies e f =
      subst (Settles 3 Same (Becomes (bit 1 b)) c) (sym (step_icw4 c b e f))
      (record { answer = refl; next = refl; base = refl; automatic = refl; level = refl; lines = refl; operation = refl })

  -- "Ready: port 1 is the mask, both ways."
  pub masks : c.setup.stage ≡ 3
      → step c (write 1 b)
      ≡ record {
        controller =
            record {
              lines = c.lines;
              setup = c.setup;
              operation =
                  record {
                    mask = b;
                    service = c.operation.service;
                    first = c.operation.first;
                    rotation = c.operation.rotation;
                    special = c.operation.special;
                    selected = c.operation.selected;
                  };
            };
        answer = Done;
      }
  masks e = step_mask c b e

-- "then ICW2 and ICW4 at port 1, then ready": at every stage before the last nothing is read, granted or operated, and the output is low
pub record Waiting (c : Controller) : Type 0 where
  pub reads : (p : ℕ) → p ≤ 1 → step c (read p) ≡ record { controller = c; answer = Refused 8 }
  pub acknowledges : step c acknowledge ≡ record { controller = c; answer = Refused 8 }
  pub operates : (b : ℕ) → bit 4 b ≡ false → step c (write 0 b) ≡ record { controller = c; answer = Refused 8 }
  pub output : output_of c ≡ false

pub waits_for_icw4 : (c : Controller) → c.setup.stage < 3 → Waiting c
waits_for_icw4 c early =
    let down : ready c.setup ≡ false = ne_eqb c.setup.stage 3 (λ e. omega arith) in
    record {
      reads = λ p small. read_unready c p (le-ltb 1 p small) down;
      acknowledges = acknowledge_unready c down;
      operates = λ b e. operation_unready c b down e;
      output = output_unready c down;
    }
