-- Every piece of a record fits, and so does its head.
use Prim.Native.Nat.{ℕ, zero, suc, ◌+◌, ◌-◌, ◌^◌, ◌≤◌, ◌<◌}
use mathlib.Core.Bool.{Bool}
use mathlib.Core.Path.{◌≡◌, refl}
use native.Mathlib.Omega.{arith}
use lib.ListN.{length, replicate}
use Rattle.base.specs.PickLaws.{pick_either}
use Rattle.base.specs.Answers.{refusal_of, value_of}
use Rattle.base.specs.declared.Answer.{Answer}
use Rattle.text.specs.Quoted.{quoted}
use Rattle.text.specs.Line.{space, decimal, output_digit}
use Rattle.page.specs.Columns.{OneLine}
use Rattle.records.specs.Events.{Record, whole, short}
use Rattle.bench.specs.declared.Bench.{Bench}
use Rattle.bench.specs.Steps.{outcome}
use Rattle.names.specs.Fits.{Fits, AllFit}
use Rattle.names.specs.FitLaws.{fits_more, fits_append, fits_behind, fits_decimal, capital_one, all_fit_append}
use Rattle.deeds.proofs.DeedLaws.{done_fits, cut_fits}
use Rattle.answers.proofs.CameLaws.{came_fits}
use Rattle.moves.specs.Moved.{seat_moved}
use Rattle.moves.proofs.MovedLaws.{seat_fits, controller_fits}
use Rattle.account.specs.Head.{figures_shown, blanks, head_words}
use Rattle.account.specs.HeadLaws.{front, head_front, head_short, blanks_length}
use Rattle.account.specs.Told.{channel_at, pieces}
use Rattle.account.specs.Sized.{Sized}
use Rattle.account.specs.Kept.{head_of}

pub pieces_fit : (b : Bench) (n : ℕ) (r : Record) → Sized b n r → AllFit 68 (pieces b r)
pieces_fit b n (whole kind seat number value) s =
    let own : _ = s.bytes in (
      fits_more (done_fits seat number value own.1 own.2 own.3 kind _ b.controller own.0) (omega arith),
      (
        came_fits kind number _ _ _ (outcome b (whole kind seat number value)).answer own.2 s.refusal s.behind,
        all_fit_append 68 (seat_moved (channel_at b seat) (channel_at (outcome b (whole kind seat number value)).bench seat) kind seat) _
            (seat_fits _ _ kind seat (s.queued seat) (s.waiting seat)) (controller_fits _ _),
      ),
    )
pieces_fit b n short s = (
  fits_more cut_fits (omega arith),
  (came_fits _ 0 _ _ _ (outcome b short).answer (omega arith) s.refusal s.behind, controller_fits _ _),
)

-- ---- the head

blanks_one : (k : ℕ) → OneLine (replicate k space)
blanks_one zero = tt
blanks_one (suc k) = ((λ e. omega arith), blanks_one k)

output_one : (o : Bool) → output_digit o ≡ 10 → ⊥
unfolding output_digit
output_one o = pick_either (λ (c : ℕ). c ≡ 10 → ⊥) o 49 48 (λ e. omega arith) (λ e. omega arith)

figures_fit : (value : ℕ) (o : Bool) → Fits 6 (figures_shown value o)
unfolding figures_shown
figures_fit value o = record {
  short = omega arith;
  one = ((λ e. omega arith), (capital_one _, (capital_one _, (capital_one _, ((λ e. omega arith), (output_one o, tt))))));
}

blanks_fit : (size : ℕ) → Fits 12 (blanks size)
unfolding blanks
blanks_fit size = record { short = blanks_length size; one = ((λ e. omega arith), blanks_one (11 - size)) }

pub head_one : (n : ℕ) (a : Answer) (o : Bool) → n < 10 ^ 20 → refusal_of a < 10 ^ 3 → OneLine (head_words n a o)
head_one n a o long byte =
    rw (head_front n a o)
    (fits_append (front n a o) _
    (fits_append (decimal n) _ (fits_decimal 19 n long) (fits_behind (quoted " ") refl (fits_append _ _ (fits_decimal 2 (refusal_of a) byte) (figures_fit (value_of a) o))))
    (blanks_fit (length (decimal n) + length (decimal (refusal_of a)) + 7))).one

pub head_width : (b : Bench) (n : ℕ) (r : Record) → Sized b n r → length (head_of b n r) ≤ 42
head_width b n r s = head_short n _ _ (omega (arith, s.number)) (omega (arith, s.refusal))

pub head_line : (b : Bench) (n : ℕ) (r : Record) → Sized b n r → OneLine (head_of b n r)
head_line b n r s = head_one n _ _ (omega (arith, s.number)) (omega (arith, s.refusal))
