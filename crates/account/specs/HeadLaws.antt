-- A head is the listing's own line, and blanks; and it is short.
use Rattle.std.specs.Prelude.{ℕ, ◌+◌, ◌-◌, ◌≤◌, ◌<◌, ◌^◌, Bool, List, [], ◌∷◌, ◌++◌, ◌≡◌, refl, length, take}
use Rattle.std.proofs.Common.{append_assoc, sym, ap, ◌∙◌, arith, length-append, take_at}
use Rattle.std.proofs.lemmas.List.{length-replicate}
use Rattle.base.specs.Answers.{refusal_of, value_of}
use Rattle.base.specs.declared.Answer.{Answer}
use Rattle.text.specs.Line.{space, newline, decimal, line}
use Rattle.text.specs.DecimalLaws.{decimal_length}
use Rattle.text.specs.LineLaws.{line_length}
use Rattle.account.specs.Head.{figures_shown, unended, blanks, head_words}

-- the line in front of its line feed
abbrev pub front : ℕ → Answer → Bool → List ℕ
front n a output = decimal n ++ (space ∷ (decimal (refusal_of a) ++ figures_shown (value_of a) output))

pub line_front : (n : ℕ) (a : Answer) (output : Bool) → line n a output ≡ front n a output ++ (newline ∷ [])
unfolding line figures_shown
line_front n a output =
    sym (append_assoc (decimal n) _ (newline ∷ [])
    ∙ ap (λ (l : List ℕ). decimal n ++ (space ∷ l)) (append_assoc (decimal (refusal_of a)) _ (newline ∷ [])))

unended_last : (l : List ℕ) (c : ℕ) → unended (l ++ (c ∷ [])) ≡ l
unended_last l c =
    let size : length (l ++ (c ∷ [])) - 1 ≡ length l = omega (arith, length-append l (c ∷ [])) in
    ap (λ (k : ℕ). take k (l ++ (c ∷ []))) size ∙ take_at l (c ∷ []) (length l) refl

pub unended_line : (n : ℕ) (a : Answer) (output : Bool) → unended (line n a output) ≡ front n a output
unended_line n a output = ap unended (line_front n a output) ∙ unended_last (front n a output) newline

pub front_length : (n : ℕ) (a : Answer) (output : Bool) → length (front n a output) ≡ length (decimal n) + length (decimal (refusal_of a)) + 7
front_length n a output =
    omega (arith, line_length n a output, ap length (line_front n a output), length-append (front n a output) (newline ∷ []))

pub blanks_length : (size : ℕ) → length (blanks size) ≤ 12
unfolding blanks
blanks_length size = omega (arith, length-replicate (11 - size) space)

-- a head is its line in front, and blanks
pub head_front : (n : ℕ) (a : Answer) (output : Bool)
    → head_words n a output ≡ front n a output ++ blanks (length (decimal n) + length (decimal (refusal_of a)) + 7)
unfolding head_words
head_front n a output =
    ap (λ (l : List ℕ). l ++ blanks (length l)) (unended_line n a output)
    ∙ ap (λ (k : ℕ). front n a output ++ blanks k) (front_length n a output)

-- that of a 64-bit number and an 8-bit refusal
pub head_short : (n : ℕ) (a : Answer) (output : Bool) → n < 10 ^ 20 → refusal_of a < 10 ^ 3 → length (head_words n a output) ≤ 42
head_short n a output long byte =
    let size : ℕ = length (decimal n) + length (decimal (refusal_of a)) + 7 in
    let both : length (head_words n a output) ≡ length (front n a output) + length (blanks size)
    = ap length (head_front n a output) ∙ length-append (front n a output) (blanks size) in
    omega (arith, both, front_length n a output, blanks_length size, decimal_length 19 n long, decimal_length 2 (refusal_of a) byte)
