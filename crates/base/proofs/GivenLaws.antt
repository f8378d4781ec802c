-- The numbers of the refusals: none is 0, no two are the same, and what is done where one is given, or none.
use Rattle.std.specs.Prelude.{ℕ, Bool, false, true, Option, Some, None, List, [], ◌∷◌, ◌≡◌, refl, eqb, get_or}
use Rattle.std.proofs.Common.{ap, sym, subst, ◌∙◌}
use Rattle.base.specs.PickLaws.{pick_true, pick_false}
use Rattle.base.specs.Refusals.{number_of, number_given, joined}
use Rattle.base.specs.declared.Refusal.{Refusal}
use Rattle.base.specs.declared.Refusal.TheVariants.{SeatAbove, NumberAbove, KindAbove, Short, NoDivisor, MarksAbove, LevelsAbove, NotReady, NotServed, NotListed, NoSetting, NoRoom, WrongMark, UnknownVersion, NoSuchBench, BeyondWord, ParityUnasked, BreakWithData, TallyFull}

-- no refusal has the number 0, which is that of none
pub some_number : (r : Refusal) → eqb (number_of r) 0 ≡ false
unfolding number_of
some_number SeatAbove = refl
some_number NumberAbove = refl
some_number KindAbove = refl
some_number Short = refl
some_number NoDivisor = refl
some_number MarksAbove = refl
some_number LevelsAbove = refl
some_number NotReady = refl
some_number NotServed = refl
some_number NotListed = refl
some_number NoSetting = refl
some_number NoRoom = refl
some_number WrongMark = refl
some_number UnknownVersion = refl
some_number NoSuchBench = refl
some_number BeyondWord = refl
some_number ParityUnasked = refl
some_number BreakWithData = refl
some_number TallyFull = refl

-- the refusals by their numbers, 0 for none
abbrev pub by_number : List (Option Refusal)
by_number =
    None
    ∷ Some SeatAbove
    ∷ Some NumberAbove
    ∷ Some KindAbove
    ∷ Some Short
    ∷ Some NoDivisor
    ∷ Some MarksAbove
    ∷ Some LevelsAbove
    ∷ Some NotReady
    ∷ Some NotServed
    ∷ Some NotListed
    ∷ Some NoSetting
    ∷ Some NoRoom
    ∷ Some WrongMark
    ∷ Some UnknownVersion
    ∷ Some NoSuchBench
    ∷ Some BeyondWord
    ∷ Some ParityUnasked
    ∷ Some BreakWithData
    ∷ Some TallyFull
    ∷ []

pub found_again : (o : Option Refusal) → get_or by_number (number_given o) None ≡ o
unfolding number_given number_of
found_again None = refl
found_again (Some SeatAbove) = refl
found_again (Some NumberAbove) = refl
found_again (Some KindAbove) = refl
found_again (Some Short) = refl
found_again (Some NoDivisor) = refl
found_again (Some MarksAbove) = refl
found_again (Some LevelsAbove) = refl
found_again (Some NotReady) = refl
found_again (Some NotServed) = refl
found_again (Some NotListed) = refl
found_again (Some NoSetting) = refl
found_again (Some NoRoom) = refl
found_again (Some WrongMark) = refl
found_again (Some UnknownVersion) = refl
found_again (Some NoSuchBench) = refl
found_again (Some BeyondWord) = refl
found_again (Some ParityUnasked) = refl
found_again (Some BreakWithData) = refl
found_again (Some TallyFull) = refl

-- no two have the same number
pub given_once : (a b : Option Refusal) → number_given a ≡ number_given b → a ≡ b
given_once a b same = sym (found_again a) ∙ ap (λ n. get_or by_number n None) same ∙ found_again b

-- where none is given, the thing is done
pub none_done : {A : Type 0} (n : ℕ) (done : A) (left : ℕ → A) → number_given None ≡ n → done ≡ joined n done left
unfolding number_given
none_done n done left none = sym (pick_true (eqb n 0) done (left n) (ap (λ k. eqb k 0) (sym none)))

-- where one is given, its number tells what is left
pub some_left : {A : Type 0} (r : Refusal) (n : ℕ) (done : A) (left : ℕ → A)
    → number_given (Some r) ≡ n
    → left (number_of r) ≡ joined n done left
unfolding number_given
some_left r n done left one =
    subst (λ k. left (number_of r) ≡ joined k done left) one
    (sym (pick_false (eqb (number_of r) 0) done (left (number_of r)) (some_number r)))
