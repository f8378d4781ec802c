-- One word for C: the answer in its low four hexadecimal digits, the refusal in the two above them, the output in the two above these;
-- above all that, in two digits each, the marks of a character that was read, and how many remain behind it.
use Rattle.std.specs.Prelude.{ℕ, ◌+◌, ◌*◌, ◌/◌, ◌%◌, Bool, ◌&&◌, ◌≡◌, eqb}
use Rattle.base.specs.Bits.{bit, digit}
use Rattle.base.specs.Answers.{refusal_of, value_of, figures_of}
use Rattle.base.specs.declared.Answer.{Answer}

-- "refusal number (0 for none), answer in three hex capitals, output after the event", as one number;
-- ticket 6: "The RBR answer gains these figures": "its marks and how many remain behind it", above the rest
unfoldable pub word_of : Answer → Bool → ℕ
word_of a high = value_of a + 0x10000 * refusal_of a + 0x1000000 * digit high + 0x100000000 * (figures_of a).marks + 0x10000000000 * (figures_of a).behind

-- how each is read back from a word
abbrev pub answer_in : ℕ → ℕ
answer_in w = w % 0x10000

abbrev pub refusal_in : ℕ → ℕ
refusal_in w = w / 0x10000 % 0x100

abbrev pub output_in : ℕ → Bool
output_in w = bit 24 w

-- ticket 6: "its marks"
abbrev pub marks_in : ℕ → ℕ
marks_in w = w / 0x100000000 % 0x100

-- ticket 6: "how many remain behind it"
abbrev pub behind_in : ℕ → ℕ
behind_in w = w / 0x10000000000 % 0x100

-- the top four digits of a word, which are kept free
abbrev pub upper_in : ℕ → ℕ
upper_in w = w / 0x1000000000000

-- "the vector; 100 + vector if spurious": how an acknowledge is read back
abbrev pub vector_in : ℕ → ℕ
vector_in w = answer_in w % 0x100

-- a refused one was not spurious
abbrev pub spurious_in : ℕ → Bool
spurious_in w = eqb (refusal_in w) 0 && bit 8 (answer_in w)

-- this answer and this output are read back from a word, and nothing else is in it
pub record Reads (w : ℕ) (a : Answer) (high : Bool) : Type 0 where
  pub upper : upper_in w ≡ 0
  pub behind : behind_in w ≡ (figures_of a).behind
  pub marks : marks_in w ≡ (figures_of a).marks
  pub refusal : refusal_in w ≡ refusal_of a
  pub answer : answer_in w ≡ value_of a
  pub output : output_in w ≡ high

-- a word is the one of this answer and this output, and both can be read back from it
abbrev pub Tells : ℕ → Answer → Bool → Type 0
Tells w a high = (w ≡ word_of a high) × Reads w a high
