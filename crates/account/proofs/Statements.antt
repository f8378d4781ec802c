-- All statements of this room hold.
use Prim.Native.Nat.{ℕ}
use mathlib.Core.List.{List}
use mathlib.Core.Path.{sym, ap, subst, ◌∙◌}
use native.Mathlib.Omega.{arith}
use lib.ListN.{length, take}
use Rattle.page.specs.Pages.{shown, headed, joined_all, ended}
use Rattle.page.specs.Notes.{commented}
use Rattle.page.specs.FitLaws.{head_stands, all_stand, commented_stands, Ending, ending, fits_terminal}
use Rattle.bench.specs.Steps.{outcome}
use Rattle.account.specs.HeadLaws.{front, head_front, unended_line}
use Rattle.account.specs.Told.{pieces, told}
use Rattle.account.specs.Kept.{head_of, KeepsWidth, EndsLine, ListingFirst}
use Rattle.account.specs.Statements.{Statements}
use Rattle.names.specs.FitLaws.{all_one_line}
use Rattle.account.proofs.Fit.{pieces_fit, head_width, head_line}
use Rattle.account.proofs.Counts.{all_stand_there}
use Rattle.account.proofs.Begins.{Begins, page_begins, shown_front}
use Rattle.account.proofs.Still.{refused_moves_nothing}
use Rattle.account.proofs.Exemplified.{worked_example, ingredients, commented_example}

keeps_width : KeepsWidth
unfolding told
keeps_width b n r comment s =
    fits_terminal (head_of b n r) (pieces b r) comment (head_line b n r s) (omega (arith, head_width b n r s)) (all_one_line 68 (pieces b r) (pieces_fit b n r s))

ends_line : EndsLine
unfolding told
ends_line b n r comment s =
    let e : Ending (commented (joined_all (headed (head_of b n r)) (pieces b r)) comment) =
    ending _
    (commented_stands _ comment
    (all_stand _ (pieces b r) (head_stands (head_of b n r) (head_line b n r s) (omega (arith, head_width b n r s))) (all_one_line 68 (pieces b r) (pieces_fit b n r s)))) in
    record { front = e.front; is = e.is }

listing_first : ListingFirst
unfolding told
listing_first b n r comment s =
    let shows : List ℕ = shown (ended (commented (joined_all (headed (head_of b n r)) (pieces b r)) comment)) in
    let own : _ = unended_line n (outcome b r).answer (outcome b r).output in
    let begins : Begins (head_of b n r) (ended (commented (joined_all (headed (head_of b n r)) (pieces b r)) comment)) =
    page_begins (head_of b n r) (pieces b r) comment (omega (arith, head_width b n r s)) in
    ap (λ (l : List ℕ). take (length l) shows) own
    ∙ shown_front (front n (outcome b r).answer (outcome b r).output) _ _
    (subst (λ (l : List ℕ). Begins l (ended (commented (joined_all (headed (head_of b n r)) (pieces b r)) comment))) (head_front n (outcome b r).answer (outcome b r).output) begins)
    ∙ sym own

pub statements : Statements
statements =
    record {
      worked_example = worked_example;
      ingredients = ingredients;
      commented = commented_example;
      none_cut = record { each = pieces_fit; all = all_stand_there };
      keeps_width = keeps_width;
      ends_line = ends_line;
      listing_first = listing_first;
      refused_moves_nothing = refused_moves_nothing;
    }
