-- Nothing that is said with the names is too long for a piece.
use Rattle.std.specs.Prelude.{ℕ, ◌%◌, ◌^◌, ◌<◌, Bool, refl, ltb, eqb}
use Rattle.std.proofs.Common.{arith}
use Rattle.text.specs.Quoted.{quoted}
use Rattle.names.specs.Names.{registers_read, registers_written, registers_divisor, cause_words, no_cause, refusals_first, refusals_later, no_refusal, lsr_words, msr_words, mark_words, level_words, line_numbers}
use Rattle.names.specs.Words.{later_words, refusal_words, name_read, name_written, name_of, name_at_divisor, register_words, cause_said, iir_words, bits_said, lsr_said, msr_said, marks_named, marks_said, levels_said, lines_in, line_list, lines_said}
use Rattle.names.specs.Fits.{Fits}
use Rattle.names.specs.FitLaws.{fits_quoted, fits_none, fits_more, fits_append, fits_behind, fits_pick, fits_byte, fits_hex, fits_by, fits_names}

pub refusal_fits : (number : ℕ) → Fits 50 (refusal_words number)
unfolding refusal_words later_words
refusal_fits number =
    fits_by 50 refusals_first number refl (fits_by 50 refusals_later number refl (fits_more (fits_quoted (quoted no_refusal) refl) (omega arith)))

read_fits : (number : ℕ) → Fits 12 (name_read number)
unfolding name_read
read_fits number = fits_by 12 registers_read number refl (fits_none 12)

named_fits : (number : ℕ) (write : Bool) → Fits 12 (name_of number write)
unfolding name_of name_written
named_fits number write = fits_pick write (fits_by 12 registers_written number refl (read_fits number)) (read_fits number)

pub register_fits : (number : ℕ) (divisor write : Bool) → number < 256 → Fits 12 (register_words number divisor write)
unfolding register_words name_at_divisor
register_fits number divisor write byte =
    fits_pick (ltb 7 number) (fits_behind (quoted "register ") refl (fits_byte number byte))
    (fits_pick divisor (fits_by 12 registers_divisor number refl (named_fits number write)) (named_fits number write))

pub iir_fits : (byte : ℕ) → Fits 68 (iir_words byte)
unfolding iir_words cause_said
iir_fits byte =
    fits_more
    (fits_behind (quoted "IIR ") refl
    (fits_append _ _ (fits_hex byte)
    (fits_behind (quoted ": ") refl (fits_by 20 cause_words (byte % 2 ^ 4) refl (fits_more (fits_quoted (quoted no_cause) refl) (omega arith))))))
    (omega arith)

-- all eight words of the LSR fill a piece
pub lsr_fits : (byte : ℕ) → Fits 68 (lsr_said byte)
unfolding lsr_said bits_said
lsr_fits byte =
    fits_behind (quoted "LSR ") refl
    (fits_append _ _ (fits_hex byte)
    (fits_behind (quoted ":") refl
    (fits_pick (eqb byte 0) (fits_more (fits_quoted (quoted " none") refl) (omega arith)) (fits_names 0 lsr_words byte refl))))

pub msr_fits : (byte : ℕ) → Fits 68 (msr_said byte)
unfolding msr_said bits_said
msr_fits byte =
    fits_more
    (fits_behind (quoted "MSR ") refl
    (fits_append _ _ (fits_hex byte)
    (fits_behind (quoted ":") refl
    (fits_pick (eqb byte 0) (fits_more (fits_quoted (quoted " none") refl) (omega arith)) (fits_names 0 msr_words byte refl)))))
    (omega arith)

pub marks_named_fit : (marks : ℕ) → Fits 21 (marks_named marks)
unfolding marks_named
marks_named_fit marks = fits_names 0 mark_words marks refl

pub marks_fit_lem : (marks : ℕ) → Fits 26 (marks_said marks)
unfolding marks_said
marks_fit_lem marks =
    fits_pick (ltb 7 marks) (fits_more (fits_behind (quoted " with marks ") refl (fits_hex marks)) (omega arith))
    (fits_pick (eqb marks 0) (fits_none 26) (fits_behind (quoted " with") refl (marks_named_fit marks)))

pub levels_fit : (levels : ℕ) → Fits 15 (levels_said levels)
unfolding levels_said bits_said
levels_fit levels =
    fits_pick (ltb 15 levels) (fits_more (fits_behind (quoted " ") refl (fits_hex levels)) (omega arith))
    (fits_pick (eqb levels 0) (fits_more (fits_quoted (quoted " none") refl) (omega arith)) (fits_names 0 level_words levels refl))

list_fits : (set : ℕ) → Fits 16 (line_list set)
unfolding line_list
list_fits set = fits_names 0 line_numbers set refl

pub lines_fit : (set : ℕ) → Fits 21 (lines_said set)
unfolding lines_said
lines_fit set =
    fits_pick (eqb set 0) (fits_more (fits_quoted (quoted "no line") refl) (omega arith))
    (fits_pick (eqb (lines_in set) 1)
    (fits_more (fits_behind (quoted "line") refl (list_fits set)) (omega arith))
    (fits_behind (quoted "lines") refl (list_fits set)))
