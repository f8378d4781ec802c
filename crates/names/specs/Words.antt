-- What is said with the names.
use Rattle.std.specs.Prelude.{ℕ, suc, ◌+◌, ◌%◌, ◌^◌, Bool, List, [], ◌∷◌, ◌++◌, ltb, eqb}
use Prim.Native.String.{String}
use denote.Ref.{Bor}
use Rattle.base.specs.Pick.{pick}
use Rattle.base.specs.Bits.{bit, digit}
use Rattle.text.specs.Quoted.{quoted}
use Rattle.text.specs.Line.{decimal}
use Rattle.page.specs.Pieces.{hex}
use Rattle.names.specs.Names.{Row, registers_read, registers_written, registers_divisor, cause_words, no_cause, refusals_first, refusals_later, no_refusal, lsr_words, msr_words, mark_words, level_words, line_numbers}

-- ---- by a table

-- the words of a number, or others where the table does not have it
abbrev pub words_by : List Row → ℕ → List ℕ → List ℕ
words_by [] n others = others
words_by (r ∷ rows) n others = pick (eqb n r.number) (quoted r.words) (words_by rows n others)

-- "the words of the bits that are set, each behind a blank, lowest first": from bit k on
abbrev pub words_from : ℕ → List String → ℕ → List ℕ
words_from k [] byte = []
words_from k (name ∷ names) byte = pick (bit k byte) (quoted " " ++ quoted name) [] ++ words_from (suc k) names byte

-- the same of words that stand in the program, each behind its blank
abbrev pub names_from : ℕ → List (Bor (List ℕ)) → ℕ → List ℕ
names_from k [] byte = []
names_from k (name ∷ names) byte = pick (bit k byte) name.now [] ++ names_from (suc k) names byte

abbrev pub words_of : List String → ℕ → List ℕ
words_of names byte = words_from 0 names byte

-- how many bits are set, of as many as there are names
abbrev pub set_from : ℕ → List String → ℕ → ℕ
set_from k [] byte = 0
set_from k (name ∷ []) byte = digit (bit k byte)
set_from k (name ∷ (next ∷ names)) byte = digit (bit k byte) + set_from (suc k) (next ∷ names) byte

-- ---- refusals

unfoldable pub later_words : ℕ → List ℕ
later_words number = words_by refusals_later number (quoted no_refusal)

-- "the words of the refusals"
unfoldable pub refusal_words : ℕ → List ℕ
refusal_words number = words_by refusals_first number (later_words number)

-- ---- registers

unfoldable pub name_read : ℕ → List ℕ
name_read number = words_by registers_read number []

-- "of a write THR and FCR for RBR and IIR"
unfoldable pub name_written : ℕ → List ℕ
name_written number = words_by registers_written number (name_read number)

unfoldable pub name_of : ℕ → Bool → List ℕ
name_of number write = pick write (name_written number) (name_read number)

-- "with LCR bit 7 set DLL and DLM for numbers 0 and 1"
unfoldable pub name_at_divisor : ℕ → Bool → List ℕ
name_at_divisor number write = words_by registers_divisor number (name_of number write)

-- "N above 7": "register N"
unfoldable pub register_words : ℕ → Bool → Bool → List ℕ
register_words number divisor write =
    pick (ltb 7 number) (quoted "register " ++ decimal number) (pick divisor (name_at_divisor number write) (name_of number write))

-- ---- what a register shows

-- "by bits 3 to 0"
unfoldable pub cause_said : ℕ → List ℕ
cause_said byte = words_by cause_words (byte % 2 ^ 4) (quoted no_cause)

-- "`IIR B: WORDS`"
unfoldable pub iir_words : ℕ → List ℕ
iir_words byte = quoted "IIR " ++ (hex byte ++ (quoted ": " ++ cause_said byte))

-- "` none` where none is"
unfoldable pub bits_said : List String → ℕ → List ℕ
bits_said names byte = pick (eqb byte 0) (quoted " none") (words_of names byte)

-- "`LSR B:` and the words of the bits that are set"
unfoldable pub lsr_said : ℕ → List ℕ
lsr_said byte = quoted "LSR " ++ (hex byte ++ (quoted ":" ++ bits_said lsr_words byte))

-- "so `MSR B:`"
unfoldable pub msr_said : ℕ → List ℕ
msr_said byte = quoted "MSR " ++ (hex byte ++ (quoted ":" ++ bits_said msr_words byte))

-- ---- marks and levels

-- the words of the marks, each behind a blank
unfoldable pub marks_named : ℕ → List ℕ
marks_named marks = words_of mark_words marks

-- "none, or ` with` and the words of the bits that are set, each behind a blank, lowest first; N above 7: ` with marks` and, behind a
-- blank, N as a byte"
unfoldable pub marks_said : ℕ → List ℕ
marks_said marks =
    pick (ltb 7 marks) (quoted " with marks " ++ hex marks) (pick (eqb marks 0) [] (quoted " with" ++ marks_named marks))

-- "the words of the levels in V that are set, each behind a blank, lowest first; none: ` none`; V above 15: V as a byte, behind a blank"
unfoldable pub levels_said : ℕ → List ℕ
levels_said levels = pick (ltb 15 levels) (quoted " " ++ hex levels) (bits_said level_words levels)

-- ---- lines of a set

-- how many lines are in a set
unfoldable pub lines_in : ℕ → ℕ
lines_in set = set_from 0 line_numbers set

-- "the numbers of the lines whose bits are set, upward", each behind a blank
unfoldable pub line_list : ℕ → List ℕ
line_list set = words_of line_numbers set

-- "`line 2` where it is one, `lines 2 5` where there are more, `no line` where there is none"
unfoldable pub lines_said : ℕ → List ℕ
lines_said set =
    pick (eqb set 0) (quoted "no line")
    (pick (eqb (lines_in set) 1) (quoted "line" ++ line_list set) (quoted "lines" ++ line_list set))
