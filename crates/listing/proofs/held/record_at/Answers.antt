use Rattle.std.proofs.Common.{ℕ, ◌≡◌, ◌+◌, ◌-◌, ◌≤◌, ◌<◌, List, length, get_or, take, drop, sym, ◌∙◌, arith, add-zero, le-ltb, lt-ltb}
use Rattle.std.proofs.lemmas.List.{get_or-drop, get_or-take, length-drop, length-take}
use Rattle.base.specs.PickLaws.{pick_true, pick_false}
use Rattle.listing.specs.Places.{record_at}
use Rattle.listing.proofs.held.record_at.Goals as goal

-- what is left of a list from a place on
abbrev rest : List ℕ → ℕ → List ℕ
rest s at = take (length s - at) (drop at s)

rest_length : (s : List ℕ) (at : ℕ) → length (rest s at) ≡ length s - at
rest_length s at = omega (arith, length-take (length s - at) (drop at s), length-drop at s)

rest_at : (s : List ℕ) (at k : ℕ) → k < length s - at → get_or (rest s at) k 0 ≡ get_or s (at + k) 0
rest_at s at k less = get_or-take (length s - at) (drop at s) k 0 less ∙ get_or-drop at s k 0

pub returns-in_default : goal.returns-in_default
unfolding record_at
returns-in_default c =
    let few : length c.args.input.now - c.args.at < 4 = omega (arith, rest_length c.args.input.now c.args.at) in
    sym (pick_true _ _ _ (lt-ltb _ 4 few))

pub returns : goal.returns
unfolding record_at
returns c =
    let s = c.args.input.now in
    let at = c.args.at in
    let enough : 4 ≤ length s - at = omega (arith, rest_length s at) in
    let zero : get_or (rest s at) 0 0 ≡ get_or s at 0 = rest_at s at 0 (omega arith) ∙ rw (add-zero at) in
    rw (zero, rest_at s at 1 (omega arith), rest_at s at 2 (omega arith), rest_at s at 3 (omega arith)) (sym (pick_false _ _ _ (le-ltb _ 4 enough)))
