-- A queue that is offered one more holds the list with one more.
use Prim.Native.Nat.{ℕ, suc, ◌<◌, ◌≤◌}
use Rattle.std.specs.Prelude.{Bool, false, List, [], ◌∷◌, ◌++◌, map, ◌≡◌, ltb}
use Rattle.std.proofs.lemmas.List.{map-append, length-map}
use Rattle.std.proofs.Common.{append-nil, ap₂, sym, subst, ◌∙◌, arith, lt-ltb, le-ltb}
use Rattle.std.proofs.Math.Path.{ap}
use Rattle.std.proofs.Math.Numerals.{add-one}
use Rattle.std.proofs.Math.Dec.{eqb}
use Rattle.std.proofs.Math.ListN.{length, length-append}
use Rattle.base.specs.Pick.{pick}
use Rattle.base.specs.PickLaws.{pick_true, pick_false, pick_either, pick_through}
use Rattle.base.specs.Subsequences.{Subsequence}
use Rattle.base.specs.SubsequenceLaws.{nothing_of, itself, behind, before}
use Rattle.queue.specs.declared.Character.{Character}
use Rattle.queue.specs.declared.Queue.{Queue}
use Rattle.queue.specs.declared.Put.{Put}
use Rattle.queue.specs.Queue.{capacity, accepted}
use Rattle.queue.proofs.QueueLaws.{holding}
use Rattle.queue.proofs.AcceptLaws.{capacity_small, accept_cases, accept_some}
use Rattle.queue.specs.Joining.{places, joined}

pub joined_room : {A : Type 0} (mode : Bool) (l : List A) (x : A) → length l < places mode → joined mode l x ≡ l ++ (x ∷ [])
unfolding joined
joined_room mode l x less = pick_true _ _ _ (lt-ltb _ _ less)

pub joined_full : {A : Type 0} (mode : Bool) (l : List A) (x : A) → places mode ≤ length l → joined mode l x ≡ pick mode l (x ∷ [])
unfolding joined
joined_full mode l x more = pick_false _ _ _ (le-ltb _ _ more)

-- what is told of each, of the list with one more
pub joined_each : {A B : Type 0} (f : A → B) (mode : Bool) (l : List A) (x : A) → map f (joined mode l x) ≡ joined mode (map f l) (f x)
unfolding joined
joined_each f mode l x =
    pick_through (map f) (ltb (length l) (places mode)) _ _
    ∙ ap₂ (pick (ltb (length l) (places mode))) (map-append f l (x ∷ [])) (pick_through (map f) mode _ _)
    ∙ ap (λ (n : ℕ). pick (ltb n (places mode)) (map f l ++ (f x ∷ [])) (pick mode (map f l) (f x ∷ []))) (sym (length-map l f))

-- whichever are left, they stand in the order in which they came
pub joined_in_order : {A : Type 0} (mode : Bool) (l : List A) (x : A) → Subsequence (joined mode l x) (l ++ (x ∷ []))
unfolding joined
joined_in_order {A} mode l x =
    let P : List A → Type 0 = λ k. Subsequence k (l ++ (x ∷ [])) in
    pick_either P (ltb (length l) (places mode)) _ _ (itself (l ++ (x ∷ [])))
    (pick_either P mode _ _ (subst P (append-nil l) (behind l (nothing_of (x ∷ [])))) (before (x ∷ []) (nothing_of l)))

module _ (mode : Bool) (l : List Character) (ch : Character) (within : length l ≤ places mode) where
  -- a queue that takes one more holds that list
  pub takes : (accepted mode (holding l) ch).queue ≡ holding (joined mode l ch)
  unfolding capacity
  takes =
      accept_cases mode l ch (λ (p : Put). p.queue ≡ holding (joined mode l ch)) within
      (λ less. ap holding (sym (joined_room mode l ch less)))
      (λ more on. ap holding (sym (joined_full mode l ch more ∙ pick_true _ _ _ on)))
      (λ old more off one. ap holding (sym (joined_full mode l ch more ∙ pick_false _ _ _ off)))

  -- which is never empty
  pub joined_some : eqb (length (joined mode l ch)) 0 ≡ false
  unfolding capacity
  joined_some = ap (λ (q : Queue). eqb q.count 0) (sym takes) ∙ accept_some mode l ch within

  -- nor longer than the queue
  pub joined_fits : length (joined mode l ch) ≤ 16
  unfolding capacity pick
  joined_fits =
      let most : places mode ≤ 16 = capacity_small mode in
      accept_cases mode l ch (λ (p : Put). length (joined mode l ch) ≤ 16) within
      (λ less.
      let n : length (l ++ (ch ∷ [])) ≡ suc (length l) = length-append l (ch ∷ []) ∙ add-one (length l) in
      let e : length (joined mode l ch) ≡ length (l ++ (ch ∷ [])) = ap length (joined_room mode l ch less) in
      omega arith)
      (λ more on.
      let e : length (joined mode l ch) ≡ length l = ap length (joined_full mode l ch more ∙ pick_true _ _ _ on) in
      omega arith)
      (λ old more off one.
      let e : length (joined mode l ch) ≡ 1 = ap length (joined_full mode l ch more ∙ pick_false _ _ _ off) in
      omega arith)
