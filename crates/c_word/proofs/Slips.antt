-- Closed words and numbers: what they are is false under the slips of must-fail/.
use mathlib.Core.Bool.{true, false}
use mathlib.Core.Path.{◌≡◌, refl}
use Rattle.base.specs.Pick.{pick}
use Rattle.base.specs.Bits.{bit, digit}
use Rattle.base.specs.Answers.{refusal_of, value_of, figures_of}
use Rattle.base.specs.declared.Answer.TheVariants.{Letter, Vector, Spurious, Refused}
use Rattle.c_word.specs.Word.{word_of, vector_in, spurious_in}
use Rattle.c_word.specs.Numbers.{up_to, as_byte, as_divisor}

-- `undone`: the refusal stands above the answer's four digits
word_of_a_refusal : word_of (Refused 1) false ≡ 0x10FFF
unfolding word_of refusal_of value_of figures_of digit pick
word_of_a_refusal = refl

-- `undone`: the output stands above both
word_of_a_vector : word_of (Vector 0x43) true ≡ 0x1000043
unfolding word_of refusal_of value_of figures_of digit pick
word_of_a_vector = refl

-- `undone`: the marks stand above the output, and the number behind above them
word_of_a_letter : word_of (Letter 0x41 (record { marks = 5; behind = 3 })) true ≡ 0x30501000041
unfolding word_of refusal_of value_of figures_of digit pick
word_of_a_letter = refl

-- `spurious_back`: "147"
vector_of_147 : vector_in (word_of (Spurious 0x47) false) ≡ 0x47
unfolding word_of refusal_of value_of figures_of digit pick
vector_of_147 = refl

spurious_147 : spurious_in (word_of (Spurious 0x47) false) ≡ true
unfolding word_of refusal_of value_of figures_of digit pick bit
spurious_147 = refl

-- `refused_not_spurious`: "controller not ready"
refused_8_not_spurious : spurious_in (word_of (Refused 8) false) ≡ false
unfolding word_of refusal_of value_of figures_of digit pick bit
refused_8_not_spurious = refl

-- `up_to_past`: 258, which is no seat, is not cut to 2
number_258_is_not_2 : as_byte 258 ≡ 255
unfolding up_to
number_258_is_not_2 = refl

-- `up_to_past`: 65548, which is no divisor, is not cut to 12
divisor_65548_is_not_12 : as_divisor 65548 ≡ 65535
unfolding up_to
divisor_65548_is_not_12 = refl
