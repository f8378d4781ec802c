-- A room for more than 13 bytes is no more use than one for 13: what is written is the same.
use Rattle.std.specs.Prelude.{ℕ, ◌≤◌, List, ◌≡◌, length, take, Result}
use Rattle.std.proofs.Common.{sym, ap, ◌∙◌, arith}
use Rattle.std.proofs.Math.Seq.{take-append_seam}
use Rattle.base.specs.declared.Refusal.{Refusal}
use Rattle.base.specs.declared.Refusal.TheVariants.{NotListed, NoSetting}
use Rattle.setting_lines.specs.Writing.{Left, left, length_in, left_by, Writes}
use Rattle.setting_lines.specs.SettingRefusals.{Lined, line_with}
use Rattle.setting_lines.proofs.RateLaws.{listed_rated}
use Rattle.setting_lines.specs.CaseLaws.{WriteCase, no_shape, unrated, short, lined, write_case}
use Rattle.setting_lines.proofs.Statements.{statements}

abbrev text_of : Left → List ℕ
text_of l = take (length_in l.written) l.buffer

line_short : {clock divisor lcr : ℕ} (n : Lined clock divisor lcr) → length (line_with n) ≤ 13
line_short {clock} {divisor} n =
    statements.longest.most n.rate n.shape (listed_rated n.rate clock divisor n.listed) n.sized

module _ (clock divisor lcr : ℕ) (d d' e e' : List ℕ) (w v : Result ℕ Refusal) where
  -- the same answer, and the same line
  abbrev Same : Type 0
  Same = (w ≡ v) × (take (length_in w) d' ≡ take (length_in v) e')

  refused : (n : Refusal) → left w d' ≡ left_by d n → left v e' ≡ left_by e n → Same
  refused n t u = (ap (λ (l : Left). l.written) t ∙ sym (ap (λ (l : Left). l.written) u), ap text_of t ∙ sym (ap text_of u))

  module _ (enough : 13 ≤ length d) (enough' : 13 ≤ length e) (q : Writes clock divisor lcr e e' v) where
    written : (n : Lined clock divisor lcr) → WriteCase clock divisor lcr d (left w d') → Same
    written n (no_shape a t) = absurd (a n.shape n.sized n.is)
    written n (unrated a t) = absurd (a.missing n.rate n.listed)
    written n (short m full t) = absurd (omega (arith, full, line_short m))
    written n (lined m fits t) =
        let u : _ = statements.write_refusals.gives_line clock divisor lcr e e' v q m (omega (arith, line_short m)) in (
          ap (λ (l : Left). l.written) t ∙ sym (ap (λ (l : Left). l.written) u),
          ap text_of t ∙ take-append_seam (line_with m) _ ∙ sym (ap text_of u ∙ take-append_seam (line_with m) _),
        )

    by_cases : WriteCase clock divisor lcr d (left w d') → WriteCase clock divisor lcr e (left v e') → Same
    by_cases (no_shape a t) (no_shape b u) = refused NoSetting t u
    by_cases (unrated a t) (unrated b u) = refused NotListed t u
    by_cases (no_shape a t) (unrated b u) = absurd (a b.shape b.sized b.is)
    by_cases (unrated a t) (no_shape b u) = absurd (b a.shape a.sized a.is)
    by_cases (no_shape a t) (short n full u) = written n (no_shape a t)
    by_cases (no_shape a t) (lined n fits u) = written n (no_shape a t)
    by_cases (unrated a t) (short n full u) = written n (unrated a t)
    by_cases (unrated a t) (lined n fits u) = written n (unrated a t)
    by_cases (short n full t) c = written n (short n full t)
    by_cases (lined n fits t) c = written n (lined n fits t)

  pub any_room : 13 ≤ length d → 13 ≤ length e → Writes clock divisor lcr d d' w → Writes clock divisor lcr e e' v → Same
  any_room enough enough' p q =
      by_cases enough enough' q (write_case clock divisor lcr d d' w p) (write_case clock divisor lcr e e' v q)
