-- How long a word is; and a comment from a place on, as a loop goes through it.
use Rattle.std.proofs.Common.{ℕ, suc, ◌+◌, ◌≤◌, ◌<◌, Bool, true, false, cond, List, ◌≡◌, refl, sym, ◌∙◌, arith, length, get_or, drop, drop_of_length-le, drop-cons, add-one, nat_lt, ◌==◌, position, unwrap_or, Some, None}
use Rattle.std.specs.List.{position_or_len}
use Rattle.std.proofs.lemmas.List.Recursion.{is_position_or_len}
use Rattle.std.proofs.lemmas.List.Sums.{prefix_len-le-length}
use Rattle.base.specs.Pick.{pick}
use Rattle.page.specs.Notes.{plain, word_length, note_byte, noted}
use Rattle.page.specs.declared.Page.{Page}

-- a word ends at the first blank, or with the text
step : (b : Bool) (n : ℕ) → pick b 0 (suc n) ≡ cond b 0 (1 + n)
unfolding pick
step true n = refl
step false n = omega arith

word_is : (text : List ℕ) → word_length text ≡ position_or_len (λ c. plain c == 32) text
unfolding word_length
word_is text = is_position_or_len word_length (λ c. plain c == 32) refl (λ c rest. step (plain c == 32) (word_length rest)) text

here_or_end : (at all : ℕ) → at ≤ all → unwrap_or (cond (nat_lt at all) (Some at) None) all ≡ at
here_or_end at all few = grind arith

pub word_ends : (text : List ℕ) → unwrap_or (position (λ c. plain c == 32) text) (length text) ≡ word_length text
word_ends text = here_or_end (position_or_len (λ c. plain c == 32) text) (length text) (prefix_len-le-length _ text) ∙ sym (word_is text)

-- and the comment from a place on
module _ (p : Page) (text : List ℕ) (i : ℕ) where
  pub noted_on : i < length text → noted p (drop i text) ≡ noted (note_byte p (get_or text i 0) (word_length (drop (i + 1) text))) (drop (i + 1) text)
  unfolding noted
  noted_on h = rw (drop-cons text i 0 h, add-one i)

  pub noted_end : length text ≤ i → noted p (drop i text) ≡ p
  unfolding noted
  noted_end h = rw (drop_of_length-le text h)
