-- The length of a line, and the room that it takes.
use Rattle.std.specs.Prelude.{ℕ, ◌+◌, ◌-◌, ◌≤◌, ◌<◌, ◌^◌, ◌≡◌, Bool, true, false, List, leb, length}
use Rattle.std.proofs.Common.{sym, ap, subst, ◌∙◌, append_assoc, ⊎_elim, arith, length-append, le-leb, leb-true, leb-false}
use Rattle.std.proofs.lemmas.List.Edits.{sets}
use Rattle.std.proofs.lemmas.Bool.{lt-leb}
use Rattle.base.specs.PickLaws.{pick_true, pick_false, either_way}
use Rattle.base.specs.Answers.{refusal_of}
use Rattle.base.specs.declared.Answer.{Answer}
use Rattle.text.specs.Line.{decimal, line, Put, Puts}
use Rattle.text.specs.Front.{front, line_after, rest}
use Rattle.text.specs.DecimalLaws.{decimal_length, decimal_front, front_length}

pub line_length : (n : ℕ) (a : Answer) (o : Bool) → length (line n a o) ≡ length (decimal n) + length (decimal (refusal_of a)) + 8
unfolding line
line_length n a o = simp length-append (omega arith)

pub line_some : (n : ℕ) (a : Answer) (o : Bool) → 0 < length (line n a o)
line_some n a o = omega (arith, line_length n a o)

-- ---- by the digits before the last

pub after_length : (l : List ℕ) (n : ℕ) (a : Answer) (o : Bool) → length (line_after l n a o) ≡ length l + length (decimal (refusal_of a)) + 9
unfolding line_after
after_length l n a o = simp length-append (omega arith)

pub after_short : (l : List ℕ) (n : ℕ) (a : Answer) (o : Bool) → refusal_of a < 10 ^ 3 → length (line_after l n a o) ≤ length l + rest
after_short l n a o byte = omega (arith, after_length l n a o, decimal_length 2 (refusal_of a) byte)

-- the room that is left holds so many bytes exactly if they end inside
pub room_left : (at m size : ℕ) → at ≤ size → leb m (size - at) ≡ leb (at + m) size
room_left at m size inside =
    ⊎_elim
    (λ (t : leb (at + m) size ≡ true).
    let h : at + m ≤ size = leb-true (at + m) size t in le-leb m (size - at) (omega arith) ∙ sym t)
    (λ (f : leb (at + m) size ≡ false).
    let h : size < at + m = leb-false (at + m) size f in lt-leb m (size - at) (omega arith) ∙ sym f)
    (either_way (leb (at + m) size))

pub room_after : (at size r : ℕ) (l : List ℕ) (n : ℕ) (a : Answer) (o : Bool) → r ≡ refusal_of a → at ≤ size
    → leb (length l + length (decimal r) + 9) (size - at) ≡ leb (at + length (line_after l n a o)) size
room_after at size r l n a o is inside =
    room_left at (length l + length (decimal r) + 9) size inside
    ∙ ap (λ (m : ℕ). leb (at + m) size)
    (ap (λ (x : ℕ). length l + length (decimal x) + 9) is ∙ sym (after_length l n a o))

line_after_lem : (n : ℕ) (a : Answer) (o : Bool) → line_after (front n) n a o ≡ line n a o
unfolding line line_after
line_after_lem n a o = rw (decimal_front n, append_assoc)

-- so the line of a 64-bit number is put by putting what follows those of its own
pub puts_after : (l : List ℕ) (n : ℕ) (a : Answer) (o : Bool) (d d' : List ℕ) (place r : ℕ) → l ≡ front n → n < 10 ^ 20
    → Put (line_after l n a o) (length l + rest) d d' place r → Puts n a o d d' place r
puts_after l n a o d d' place r is small p =
    let same : line_after l n a o ≡ line n a o = ap (λ (x : List ℕ). line_after x n a o) is ∙ line_after_lem n a o in
    let few : length l + 1 ≤ 20 = omega (arith, ap length is, front_length n, decimal_length 19 n small) in
    let q : Put (line n a o) (length l + rest) d d' place r = subst (λ (x : List ℕ). Put x (length l + rest) d d' place r) same p in
    record { next = q.next; bytes = q.bytes; short = omega (arith, q.short, few) }

-- ---- room for a line

module _ (n : ℕ) (a : Answer) (o : Bool) (d d' : List ℕ) (place r : ℕ) (p : Puts n a o d d' place r) where
  -- exactly as much as the line is enough
  pub line_put : place + length (line n a o) ≤ length d → (r ≡ place + length (line n a o)) × (d' ≡ sets d place (line n a o))
  line_put enough =
      let yes : leb (place + length (line n a o)) (length d) ≡ true = le-leb _ _ enough in
      (p.next ∙ pick_true _ _ _ yes, p.bytes ∙ pick_true _ _ _ yes)

  pub line_left : length d < place + length (line n a o) → (r ≡ place) × (d' ≡ d)
  line_left full =
      let no : leb (place + length (line n a o)) (length d) ≡ false = lt-leb _ _ full in
      (p.next ∙ pick_false _ _ _ no, p.bytes ∙ pick_false _ _ _ no)
