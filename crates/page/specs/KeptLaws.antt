-- What a thing keeps that holds so many bytes: those that were given to it, in order, as far as they have room.
use Rattle.std.specs.Prelude.{ℕ, suc, ◌+◌, ◌-◌, ◌≤◌, ◌<◌, true, false, List, [], ◌∷◌, ◌++◌, ◌≡◌, refl, ltb, length, take, set}
use Rattle.std.proofs.Common.{append_assoc, append-nil, ⊎_elim, sym, ap, ◌∙◌, arith, add-one, length-set, take-suc-set, ltb-true, ltb-false}
use Rattle.std.proofs.Math.Seq.{take-nil}
use Rattle.base.specs.PickLaws.{either_way}
use Rattle.page.specs.Through.{through}

-- a thing of at most so many bytes: where its bytes stand, how many count, and what becomes of both by one byte more
pub record Keeps {A : Type 0} (after : A → ℕ → A) (bytes : A → List ℕ) (count : A → ℕ) (most : ℕ) : Type 0 where
  pub bytes_more : (a : A) (c : ℕ) → count a < most → bytes (after a c) ≡ set (bytes a) (count a) c
  pub count_more : (a : A) (c : ℕ) → count a < most → count (after a c) ≡ count a + 1
  pub full : (a : A) (c : ℕ) → most ≤ count a → after a c ≡ a

module _ {A : Type 0} (after : A → ℕ → A) (bytes : A → List ℕ) (count : A → ℕ) (most : ℕ) (keeps : Keeps after bytes count most) where
  abbrev kept : A → List ℕ
  kept a = take (count a) (bytes a)

  pub full_through : (a : A) (l : List ℕ) → most ≤ count a → through after a l ≡ a
  full_through a [] h = refl
  full_through a (c ∷ l) h = rw (keeps.full a c h) (full_through a l h)

  module _ (a : A) (c : ℕ) (size : length (bytes a) ≡ most) (room : count a < most) where
    size_more : length (bytes (after a c)) ≡ most
    size_more = ap length (keeps.bytes_more a c room) ∙ length-set (bytes a) (count a) c ∙ size

    kept_more : kept (after a c) ≡ kept a ++ (c ∷ [])
    kept_more =
        rw (keeps.count_more a c room, keeps.bytes_more a c room, add-one (count a))
        (take-suc-set (bytes a) (count a) c (omega (arith, size)))

  pub kept_through : (a : A) (l : List ℕ) → length (bytes a) ≡ most → count a ≤ most
      → kept (through after a l) ≡ kept a ++ take (most - count a) l
  kept_through a [] size few = rw (take-nil {A = ℕ} (most - count a)) (sym (append-nil (kept a)))
  kept_through a (c ∷ l) size few =
      ⊎_elim
      (λ (t : ltb (count a) most ≡ true).
      let room : count a < most = ltb-true (count a) most t in
      let more : count (after a c) ≡ count a + 1 = keeps.count_more a c room in
      let left : most - count a ≡ suc (most - count (after a c)) = omega (arith, more) in
      kept_through (after a c) l (size_more a c size room) (omega (arith, more))
      ∙ ap (λ (k : List ℕ). k ++ take (most - count (after a c)) l) (kept_more a c size room)
      ∙ append_assoc (kept a) (c ∷ []) (take (most - count (after a c)) l)
      ∙ ap (λ (n : ℕ). kept a ++ take n (c ∷ l)) (sym left))
      (λ (f : ltb (count a) most ≡ false).
      let full : most ≤ count a = ltb-false (count a) most f in
      let none : most - count a ≡ 0 = omega arith in
      ap kept (full_through a (c ∷ l) full)
      ∙ sym (append-nil (kept a))
      ∙ ap (λ (n : ℕ). kept a ++ take n (c ∷ l)) (sym none))
      (either_way (ltb (count a) most))
