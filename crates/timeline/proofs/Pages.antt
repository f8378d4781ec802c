-- Head, first and steps of a timeline stand on a page whole.
use Prim.Native.Nat.{ℕ, zero, suc, ◌+◌, ◌*◌, ◌^◌, ◌≤◌, ◌<◌}
use mathlib.Core.Bool.{Bool, true, false}
use mathlib.Core.List.{List, [], ◌∷◌, ◌++◌}
use mathlib.Core.Path.{◌≡◌, refl, ◌∙◌}
use native.Mathlib.Omega.{arith}
use lib.ListN.{length, length-append}
use lib.Seq.{take_all}
use Rattle.text.specs.Line.{decimal}
use Rattle.text.specs.DecimalLaws.{length_small, decimal_length}
use Rattle.text.specs.Quoted.{quoted}
use Rattle.page.specs.Pages.{page_most, no_page, shown}
use Rattle.page.specs.PageLaws.{shown_put}
use Rattle.sight.specs.Sights.{look_at}
use Rattle.timeline.specs.Variables.{Variable, each, down_from, of_number, of_seat, line_variables, scope_count, scope_variables, variables}
use Rattle.timeline.specs.Dump.{declaration, declarations, scope, scoped, line_head, head_words, seat_head, head_end, change, told, time, first_words, step_words}
use Rattle.timeline.specs.Told.{Stands, NothingCut}
use Rattle.sight.specs.declared.Sight.{Sight}
use Rattle.timeline.proofs.Lengths.{time_length, change_length, scope_most, told_length}
use Rattle.timeline.proofs.Scopes.{told_append}

stands : (words : List ℕ) → length words ≤ page_most → Stands words
unfolding no_page shown
stands words few = shown_put no_page words refl (omega arith) ∙ take_all page_most words few

-- ---- many scopes

each_length : {A : Type 0} (n most : ℕ) (f : ℕ → List A) → ((k : ℕ) → k < n → length (f k) ≤ most) → length (each n f) ≤ n * most
unfolding each
each_length zero most f few = omega arith
each_length (suc n) most f few =
    rw (length-append (each n f) (f n)) (omega (arith, each_length n most f (λ k below. few k (omega arith)), few n (omega arith)))

told_each : (all : Bool) (before now : Sight) (n : ℕ) (f : ℕ → List Variable)
    → told all before now (each n f) ≡ each n (λ k. told all before now (f k))
unfolding each told
told_each all before now zero f = refl
told_each all before now (suc n) f = told_append all before now (each n f) (f n) ∙ rw (told_each all before now n f)

-- ---- the steps

told_few : (all : Bool) (before now : Sight) (used : ℕ) → length (told all before now (variables used)) ≤ 3 + scope_count * scope_most
unfolding told variables
told_few all before now used =
    let scopes = each_length scope_count scope_most (λ k. told all before now (scope_variables used k)) (λ k below. told_length all before now used k below) in
    let output = change_length all before.output now.output (quoted "o") in
    rw (length-append (change all before.output now.output (quoted "o")), told_each all before now scope_count (scope_variables used)) (omega arith)

-- ---- the head

declaration_length : (name word : List ℕ) → length (declaration name word) ≡ length name + length word + 19
unfolding declaration
declaration_length name word = rw (length-append name, length-append word) (omega arith)

-- so many bytes for these declarations
abbrev most : List Variable → ℕ
most [] = 0
most (v ∷ vs) = length v.name + length v.word + 19 + most vs

declarations_length : (vs : List Variable) → length (declarations vs) ≡ most vs
unfolding declarations
declarations_length [] = refl
declarations_length (v ∷ vs) = rw (length-append (declaration v.name v.word), declaration_length v.name v.word, declarations_length vs)

scope_length : (word : List ℕ) (n : ℕ) → length (scope word n) ≡ length word + length (decimal n) + 20
unfolding scope
scope_length word n = rw (length-append (word ++ decimal n), length-append word) (omega arith)

scoped_length : (word : List ℕ) (n : ℕ) (vs : List Variable) → length (scoped word n vs) ≡ length word + length (decimal n) + most vs + 34
unfolding scoped
scoped_length word n vs =
    rw (length-append (scope word n), scope_length word n, length-append (declarations vs), declarations_length vs) (omega arith)

most_append : (vs ws : List Variable) → most (vs ++ ws) ≡ most vs + most ws
most_append [] ws = omega arith
most_append (v ∷ vs) ws = rw (most_append vs ws) (omega arith)

module _ (n : ℕ) (few : n < 10 ^ 3) where
  digits : length (decimal n) ≤ 3
  digits = decimal_length 2 n few

  line_head_length : length (line_head n) ≤ 200
  unfolding line_head line_variables
  line_head_length = rw (scoped_length (quoted "line") n (line_variables n)) (omega (arith, digits))

  bits_length : (letter word : List ℕ) (number : Sight → ℕ) (width : ℕ) → width ≤ 10
      → most (of_number letter word number n width) ≤ width * (length letter + length word + 29)
  unfolding down_from
  bits_length letter word number zero ten = omega arith
  bits_length letter word number (suc k) ten =
      let one = length_small k (omega arith) in
      rw (length-append (letter ++ decimal n), length-append letter, length-append (word ++ decimal n), length-append word, length-append (decimal k))
      (omega (arith, bits_length letter word number k (omega arith), digits))

  seat_head_length : length (seat_head n) ≤ 600
  unfolding seat_head of_seat
  seat_head_length =
      let lsr = bits_length (quoted "L") (quoted "lsr") (λ s. (look_at s n).lsr) 8 (omega arith) in
      let queued = bits_length (quoted "q") (quoted "queued") (λ s. (look_at s n).queued) 5 (omega arith) in
      rw (scoped_length (quoted "seat") n (of_seat n), most_append (of_number (quoted "L") (quoted "lsr") (λ s. (look_at s n).lsr) n 8)) (omega (arith, digits))

head_few : length head_words ≤ page_most
unfolding head_words declarations declaration
head_few = omega (arith, each_length 8 200 line_head (λ n below. line_head_length n (omega arith)))

pub nothing_cut : NothingCut
unfolding head_end first_words step_words
nothing_cut = record {
  head = stands head_words head_few;
  seat = λ n below. stands (seat_head n) (omega (arith, seat_head_length n (omega arith)));
  end = stands head_end (omega arith);
  first = λ used now.
      stands (first_words used now)
      (rw (length-append (time 0)) (omega (arith, time_length 0 (omega arith), told_few true now now used)));
  step = λ used n before now below.
      stands (step_words used n before now)
      (rw (length-append (time n)) (omega (arith, time_length n (omega arith), told_few false before now used)));
  last = λ n below. stands (time n) (omega (arith, time_length n (omega arith)));
}
