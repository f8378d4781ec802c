-- Two records that agree on the bytes their kind uses are decoded alike.
use Rattle.std.specs.Prelude.{ℕ, zero, suc, ◌<◌, ◌≡◌, refl}
use Rattle.std.proofs.Common.{ap, ap₂, ◌∙◌, arith, lt-ltb}
use Rattle.base.specs.Pick.{pick}
use Rattle.base.specs.Refusals.{first_of, refusal_by}
use Rattle.records.specs.Events.{whole, early, event_of, decoded, Decoded}
use Rattle.records.specs.Uses.{Agree}

-- a record of a kind, as a function of the bytes that its kind uses
abbrev dec : ℕ → ℕ → ℕ → ℕ → Decoded
dec k s n v = decoded (whole k s n v)

-- a kind above 8 is refused whatever the bytes
no_kind : (k s n v s' n' v' : ℕ) → 8 < k → dec k s n v ≡ dec k s' n' v'
unfolding decoded early refusal_by first_of pick
no_kind k s n v s' n' v' above = rw (lt-ltb 8 k above)

pub decoded_alike : (k s n v s' n' v' : ℕ) → Agree k s n v s' n' v' → dec k s n v ≡ dec k s' n' v'
unfolding decoded early event_of refusal_by first_of pick
decoded_alike zero s n v s' n' v' a = ap₂ (λ x y. dec 0 x y v) (a.seats refl) (a.numbers refl)
decoded_alike (suc zero) s n v s' n' v' a = ap₂ (λ x y. dec 1 x y v) (a.seats refl) (a.numbers refl) ∙ ap (λ z. dec 1 s' n' z) (a.values refl)
decoded_alike (suc (suc zero)) s n v s' n' v' a = ap₂ (λ x y. dec 2 x y v) (a.seats refl) (a.numbers refl) ∙ ap (λ z. dec 2 s' n' z) (a.values refl)
decoded_alike (suc (suc (suc zero))) s n v s' n' v' a = ap₂ (λ x z. dec 3 x n z) (a.seats refl) (a.values refl)
decoded_alike (suc (suc (suc (suc zero)))) s n v s' n' v' a = ap (λ x. dec 4 x n v) (a.seats refl)
decoded_alike (suc (suc (suc (suc (suc zero))))) s n v s' n' v' a = refl
decoded_alike (suc (suc (suc (suc (suc (suc zero)))))) s n v s' n' v' a = ap (λ y. dec 6 s y v) (a.numbers refl)
decoded_alike (suc (suc (suc (suc (suc (suc (suc zero))))))) s n v s' n' v' a = ap₂ (λ y z. dec 7 s y z) (a.numbers refl) (a.values refl)
decoded_alike (suc (suc (suc (suc (suc (suc (suc (suc zero)))))))) s n v s' n' v' a = refl
decoded_alike (suc (suc (suc (suc (suc (suc (suc (suc (suc k))))))))) s n v s' n' v' a =
    no_kind (suc (suc (suc (suc (suc (suc (suc (suc (suc k))))))))) s n v s' n' v' (omega arith)
