-- The packing can be undone, and a letter and an acknowledge be read from it.
use mir.Val.{bool_byte}
use Rattle.std.specs.Prelude.{ℕ, ◌+◌, ◌*◌, ◌/◌, ◌%◌, ◌^◌, ◌<◌, Bool, true, false, ◌≡◌, refl, eqb}
use Rattle.std.proofs.Common.{sym, subst, ap, ◌∙◌, arith, ne_eqb}
use Rattle.base.specs.Pick.{pick}
use Rattle.base.specs.Bits.{bit, digit}
use Rattle.base.proofs.BitLaws.{digit_le}
use Rattle.base.specs.Answers.{refusal_of, value_of, is_letter, figures_of}
use Rattle.base.specs.AnswerLaws.{no_figures_lem}
use Rattle.base.specs.declared.Answer.{Answer}
use Rattle.base.specs.declared.Figures.{Figures}
use Rattle.base.specs.declared.Answer.TheVariants.{Letter, Vector, Spurious, Refused}
use Rattle.c_word.specs.Word.{word_of, answer_in, marks_in, behind_in, vector_in, spurious_in, Reads, Tells}

-- an answer of 16 bits, and a refusal, marks and a number behind of 8: each has room in a word
pub record Fits (a : Answer) : Type 0 where
  pub answer : value_of a < 0x10000
  pub refusal : refusal_of a < 0x100
  pub marks : (figures_of a).marks < 0x100
  pub behind : (figures_of a).behind < 0x100

-- five numbers in one, and each read back from it
abbrev packed : ℕ → ℕ → ℕ → ℕ → ℕ → ℕ
packed v r d m b = v + 0x10000 * r + 0x1000000 * d + 0x100000000 * m + 0x10000000000 * b

module _ (v r d m b : ℕ) (value : v < 0x10000) (refusal : r < 0x100) (output : d < 2) (marks : m < 0x100) (behind : b < 0x100) where
  lower_packed : (packed v r d m b % 0x10000 ≡ v) × (packed v r d m b / 0x10000 % 0x100 ≡ r) × (packed v r d m b / 0x1000000 % 2 ≡ d)
  lower_packed = (omega (arith, value), omega (arith, value, refusal), omega (arith, value, refusal, output))

  marks_packed : packed v r d m b / 0x100000000 % 0x100 ≡ m
  marks_packed =
      let e : packed v r d m b / 0x100000000 ≡ m + 0x100 * b = omega (arith, value, refusal, output) in
      rw e (omega (arith, marks))

  behind_packed : packed v r d m b / 0x10000000000 % 0x100 ≡ b
  behind_packed =
      let e : packed v r d m b / 0x10000000000 ≡ b = omega (arith, value, refusal, output, marks) in
      rw e (omega (arith, behind))

  upper_packed : packed v r d m b / 0x1000000000000 ≡ 0
  upper_packed = omega (arith, value, refusal, output, marks, behind)

digit_back : (b : Bool) → eqb (digit b) 1 ≡ b
unfolding digit pick
digit_back true = refl
digit_back false = refl

-- what has room in a word is read back from it, and the output with it
pub undone : (a : Answer) (high : Bool) → Fits a → Reads (word_of a high) a high
unfolding word_of bit
undone a high fits =
    let one : digit high < 2 = let e = digit_le high in omega (arith, e) in
    let lower = lower_packed _ _ (digit high) (figures_of a).marks (figures_of a).behind fits.answer fits.refusal one fits.marks fits.behind in
    record {
      upper = upper_packed _ _ _ _ _ fits.answer fits.refusal one fits.marks fits.behind;
      behind = behind_packed _ _ _ _ _ fits.answer fits.refusal one fits.marks fits.behind;
      marks = marks_packed _ _ _ _ _ fits.answer fits.refusal one fits.marks fits.behind;
      refusal = lower.1;
      answer = lower.0;
      output = rw lower.2 (digit_back high);
    }

-- a yes or no as the code has it in a byte
pub as_digit : (b : Bool) → bool_byte b ≡ digit b
unfolding digit pick
as_digit true = refl
as_digit false = refl

-- the word put together from its five parts
pub put_together : (a : Answer) (high : Bool) (v r d m b : ℕ) → v ≡ value_of a → r ≡ refusal_of a → d ≡ bool_byte high → m ≡ (figures_of a).marks → b ≡ (figures_of a).behind
    → v < 0x10000 → r < 0x100 → m < 0x100 → b < 0x100
    → Tells (v + 0x10000 * r + 0x1000000 * d + 0x100000000 * m + 0x10000000000 * b) a high
unfolding word_of
put_together a high v r d m b ev er ed em eb value refusal marks behind =
    let e : packed v r d m b ≡ word_of a high = rw (ev, er, ed, as_digit, em, eb) in
    let fits : Fits a =
    record {
      answer = subst (λ (n : ℕ). n < 0x10000) ev value;
      refusal = subst (λ (n : ℕ). n < 0x100) er refusal;
      marks = subst (λ (n : ℕ). n < 0x100) em marks;
      behind = subst (λ (n : ℕ). n < 0x100) eb behind;
    } in
    (e, subst (λ (w : ℕ). Reads w a high) (sym e) (undone a high fits))

-- and from three, where it is no letter
pub put_together_plain : (a : Answer) (high : Bool) (v r d : ℕ) → v ≡ value_of a → r ≡ refusal_of a → d ≡ bool_byte high → is_letter a ≡ false
    → v < 0x10000 → r < 0x100
    → Tells (v + 0x10000 * r + 0x1000000 * d) a high
put_together_plain a high v r d ev er ed other value refusal =
    let none = sym (no_figures_lem a other) in
    let e : v + 0x10000 * r + 0x1000000 * d + 0x100000000 * 0 + 0x10000000000 * 0 ≡ v + 0x10000 * r + 0x1000000 * d = omega arith in
    subst (λ (w : ℕ). Tells w a high) e
    (put_together a high v r d 0 0 ev er ed (ap (λ (f : Figures). f.marks) none) (ap (λ (f : Figures). f.behind) none) value refusal (omega arith) (omega arith))

-- and of a letter, which is no refusal, from four
pub put_together_letter : (a : Answer) (high : Bool) (byte d : ℕ) (f : Figures) → Letter byte f ≡ a → d ≡ bool_byte high
    → byte < 0x100 → f.marks < 0x100 → f.behind < 0x100
    → Tells (byte + 0x1000000 * d + 0x100000000 * f.marks + 0x10000000000 * f.behind) a high
unfolding value_of refusal_of figures_of
put_together_letter a high byte d f is ed value marks behind =
    let parts = put_together a high byte 0 d f.marks f.behind (ap value_of is) (ap refusal_of is) ed (ap (λ (x : Answer). (figures_of x).marks) is) (ap (λ (x : Answer). (figures_of x).behind) is) in
    let e : byte + 0x10000 * 0 + 0x1000000 * d + 0x100000000 * f.marks + 0x10000000000 * f.behind ≡ byte + 0x1000000 * d + 0x100000000 * f.marks + 0x10000000000 * f.behind
    = omega arith in
    subst (λ (w : ℕ). Tells w a high) e (parts (omega (arith, value)) (omega arith) marks behind)

-- the byte is read back from the word of a read of RBR, and so are, ticket 6: "its marks and how many remain behind it"
pub letter_back : (w b : ℕ) (f : Figures) (high : Bool) → Tells w (Letter b f) high → (answer_in w ≡ b) × (marks_in w ≡ f.marks) × (behind_in w ≡ f.behind)
unfolding value_of figures_of
letter_back w b f high told = (told.1.answer, told.1.marks, told.1.behind)

-- ticket 6: "The RBR answer gains these figures": the word of any other answer has no marks, and none behind
pub no_letter_back : (w : ℕ) (a : Answer) (high : Bool) → is_letter a ≡ false → Tells w a high → (marks_in w ≡ 0) × (behind_in w ≡ 0)
no_letter_back w a high other told =
    let none = no_figures_lem a other in
    (told.1.marks ∙ ap (λ (f : Figures). f.marks) none, told.1.behind ∙ ap (λ (f : Figures). f.behind) none)

-- "the vector; 100 + vector if spurious": both are read back from the word of an acknowledge, and no vector is above FF
pub vector_back : (w v : ℕ) (high : Bool) → v < 0x100 → Tells w (Vector v) high → (vector_in w ≡ v) × (spurious_in w ≡ false)
unfolding value_of refusal_of bit
vector_back w v high small told =
    let e : v / 2 ^ 8 % 2 ≡ 0 = omega (arith, small) in
    (rw told.1.answer (omega (arith, small)), rw (told.1.refusal, told.1.answer, e))

pub spurious_back : (w v : ℕ) (high : Bool) → v < 0x100 → Tells w (Spurious v) high → (vector_in w ≡ v) × (spurious_in w ≡ true)
unfolding value_of refusal_of bit
spurious_back w v high small told =
    let e : (0x100 + v) / 2 ^ 8 % 2 ≡ 1 = omega (arith, small) in
    (rw told.1.answer (omega (arith, small)), rw (told.1.refusal, told.1.answer, e))

-- a refused one was not spurious
pub refused_not_spurious : (w n : ℕ) (high : Bool) → 0 < n → Tells w (Refused n) high → spurious_in w ≡ false
unfolding refusal_of
refused_not_spurious w n high some told =
    let e : eqb n 0 ≡ false = ne_eqb n 0 (λ (none : n ≡ 0). omega (arith, some)) in
    rw (told.1.refusal, e)

-- "The answer of every refusal is FFF and nothing changes.": cut to a byte it is FF, as on a bus where nobody answers
pub refused_byte : (w n : ℕ) (high : Bool) → Tells w (Refused n) high → answer_in w % 0x100 ≡ 0xFF
unfolding value_of
refused_byte w n high told = rw told.1.answer
