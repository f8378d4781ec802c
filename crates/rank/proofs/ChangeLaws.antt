-- A line enters a set, leaves it, or becomes last-ranked: each as a change from before to after, line by line.
use Rattle.std.specs.Prelude.{ℕ, suc, ◌<◌, Bool, true, false, not, ◌&&◌, ◌||◌, ◌++◌, ◌≡◌, refl, take, drop}
use Rattle.std.proofs.Math.Bool.{and-true, and-false, or-true, or-false}
use Rattle.std.proofs.Common.{ap, ◌∙◌, arith, eq-eqb, ne_eqb}
use Rattle.rank.specs.Sets.{line, has, only, join, without}
use Rattle.rank.specs.SetLaws.{has_join, has_without, has_only}
use Rattle.rank.specs.Rank.{next, order, place}
use Rattle.rank.proofs.RankLaws.{last_place_lem, order_made_last}

-- line n is in the set after, and every other line exactly if it was before
pub record Enters (n before after : ℕ) : Type 0 where
  pub itself : has after n ≡ true
  pub others : (m : ℕ) → m < 8 → (m ≡ n → ⊥) → has after m ≡ has before m

-- line n is not in the set after, and every other line exactly if it was before
pub record Leaves (n before after : ℕ) : Type 0 where
  pub itself : has after n ≡ false
  pub others : (m : ℕ) → m < 8 → (m ≡ n → ⊥) → has after m ≡ has before m

-- seven lines rank above line n, and the others keep their order round the eight: those behind it come first, then those before it
pub record BecomesLast (n before after : ℕ) : Type 0 where
  pub itself : place after n ≡ 7
  pub others : order after ≡ drop (suc (place before n)) (order before) ++ take (suc (place before n)) (order before)

own : (n : ℕ) → has (only n) n ≡ true
own n = has_only n n ∙ eq-eqb (line n) (line n) refl

another : (n m : ℕ) → n < 8 → m < 8 → (m ≡ n → ⊥) → has (only n) m ≡ false
another n m small below apart = has_only n m ∙ ne_eqb (line n) (line m) (λ e. apart (omega arith))

module _ (n s : ℕ) (small : n < 8) where
  pub enters : Enters n s (join s (only n))
  enters =
      record {
        itself = has_join s (only n) n ∙ ap (λ (x : Bool). has s n || x) (own n) ∙ or-true (has s n);
        others = λ m below apart. has_join s (only n) m ∙ ap (λ (x : Bool). has s m || x) (another n m small below apart) ∙ or-false (has s m);
      }

  pub leaves : Leaves n s (without s (only n))
  leaves =
      record {
        itself = has_without s (only n) n ∙ ap (λ (x : Bool). has s n && not x) (own n) ∙ and-false (has s n);
        others = λ m below apart. has_without s (only n) m ∙ ap (λ (x : Bool). has s m && not x) (another n m small below apart) ∙ and-true (has s m);
      }

pub becomes_last : (n first : ℕ) → BecomesLast n first (next n)
becomes_last n first = record { itself = last_place_lem n; others = order_made_last first n }
