-- What a record's conversion to an event tells: the event, or which refusal comes first.
use Rattle.std.specs.Prelude.{true, false, ◌≡◌, refl, Result, Ok, Err, Some, eqb}
use Rattle.std.specs.Result.{result_err}
use Rattle.std.proofs.Common.{sym, ap, ◌∙◌, ⊎_elim, eqb-true}
use Rattle.base.specs.PickLaws.{pick_true, pick_false, either_way}
use Rattle.base.specs.Refusals.{number_given, number_of}
use Rattle.base.proofs.GivenLaws.{given_once}
use Rattle.base.specs.declared.Refusal.{Refusal}
use Rattle.base.specs.declared.Whole.{Whole}
use Rattle.records.specs.declared.Event.{Event}
use Rattle.records.specs.Events.{Record, record_of, early, decoded, refused_number, numbered}
use Rattle.records.proofs.events.EventTryFromWhole.try_from.Reads as try_from

-- the refusal has the number that is told of the record, "0 for none"
pub number_same : (d : Result Event Refusal) → number_given (result_err d) ≡ refused_number (numbered d)
unfolding number_given refused_number numbered
number_same (Ok e) = refl
number_same (Err r) = refl

pub decoded_number : (r : Record) → refused_number (decoded r) ≡ early r
unfolding decoded refused_number
decoded_number r =
    ⊎_elim (λ (none : eqb (early r) 0 ≡ true). ap refused_number (pick_true _ _ _ none) ∙ sym (eqb-true _ _ none))
    (λ (some : eqb (early r) 0 ≡ false). ap refused_number (pick_false _ _ _ some)) (either_way (eqb (early r) 0))

-- "The order is 4, 3, 1, 2": a record that is decoded tells which of the first three it is refused by, "0 for none"; `refused_early` has the rest
pub number_told : (κ e : _) (w : Whole) (d : Result Event Refusal) → try_from.Post κ (w, tt) d e → number_given (result_err d) ≡ early (record_of w)
number_told κ e w d p = number_same d ∙ ap refused_number p ∙ decoded_number (record_of w)

numbered_once : (d d' : Result Event Refusal) → numbered d ≡ numbered d' → d ≡ d'
unfolding numbered number_given
numbered_once (Ok e) (Ok e') same = cc
numbered_once (Ok e) (Err r') same = cc
numbered_once (Err r) (Ok e') same = cc
numbered_once (Err r) (Err r') same = let one : Some r ≡ Some r' = given_once (Some r) (Some r') (cc) in cc

-- Show that no second outcome satisfies it: the conversion's contract leaves one answer, of a refusal too.
pub decoded_once : (κ κ' e e' : _) (w : Whole) (d d' : Result Event Refusal) → try_from.Post κ (w, tt) d e → try_from.Post κ' (w, tt) d' e' → d ≡ d'
decoded_once κ κ' e e' w d d' p p' = numbered_once d d' (p ∙ sym p')
