-- A part of the bytes from a place on, read from its own start; and what a function's values make of it.
use Rattle.std.specs.Prelude.{ℕ, zero, suc, ◌+◌, ◌<◌, Bool, ◌&&◌, ◌||◌, List, ◌≡◌, refl, leb, ltb, length, get_or, take, drop, replicate}
use Rattle.std.proofs.Common.{ap, ap₂, sym, ◌∙◌, arith, get_or-take, get_or-drop}
use Rattle.base.specs.Every.{every}
use Rattle.base.specs.ListLaws.{listed, listed_same, written_out}
use Rattle.channel_image.specs.Allowed.{small_from, sixteen_small}
use Rattle.channel_image.specs.Places.{at}
use Rattle.channel_image.specs.Read.{slots_from}

-- a list is its elements, each a value of a function
pub listed_by : {A : Type 0} (n : ℕ) (l : List A) (f : ℕ → A) (d : A) → length l ≡ n → ((k : ℕ) → k < n → get_or l k d ≡ f k) → l ≡ listed n f
listed_by n l f d long each = sym (written_out n l d long) ∙ listed_same n (λ k. get_or l k d) f each

-- two tests that agree below n
pub every_same : (n : ℕ) (f g : ℕ → Bool) → ((k : ℕ) → k < n → f k ≡ g k) → every n f ≡ every n g
every_same zero f g same = refl
every_same (suc n) f g same = ap₂ ◌&&◌ (same n (omega arith)) (every_same n f g (λ k below. same k (omega (arith, below))))

pub at_part : (l : List ℕ) (place n k : ℕ) → k < n → at (take n (drop place l)) (0 + k) ≡ at l (place + k)
at_part l place n k below =
    ap (at (take n (drop place l))) (omega arith) ∙ get_or-take n (drop place l) k 0 below ∙ get_or-drop place l k 0

-- bytes of nothing but 0
pub no_mark : (m k : ℕ) → ◌≡◌ {A = ℕ} (get_or (replicate m 0) k 0) 0
no_mark zero k = refl
no_mark (suc m) zero = refl
no_mark (suc m) (suc k) = no_mark m k

-- sixteen bytes are small in a part as in the whole
pub small_part : (l part : List ℕ) (place n most : ℕ) → ((k : ℕ) → k < 16 → at part (0 + k) ≡ at l (place + k))
    → sixteen_small part 0 n most ≡ sixteen_small l place n most
unfolding sixteen_small
small_part l part place n most same =
    every_same 16 (small_from part 0 n most) (small_from l place n most)
    (λ k below. ap (λ (x : ℕ). ltb k n || leb x most) (same k below))

-- and say the same slots
pub slots_part : (l part m marks : List ℕ) (place from : ℕ) → ((k : ℕ) → k < 16 → at part (0 + k) ≡ at l (place + k)) → ((k : ℕ) → k < 16 → at marks (0 + k) ≡ at m (from + k))
    → slots_from part 0 marks 0 ≡ slots_from l place m from
unfolding slots_from
slots_part l part m marks place from same told =
    listed_same 16 _ _ (λ k below i. record { «data» = same k below i; marks = told k below i })
