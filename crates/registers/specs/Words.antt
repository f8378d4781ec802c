-- The trigger, the word length, and what a character that arrives may be.
use Rattle.std.specs.Prelude.{ℕ, ◌+◌, ◌%◌, ◌^◌, Bool, not, ◌&&◌, ltb, leb, eqb}
use Rattle.base.specs.Pick.{pick}
use Rattle.base.specs.Bits.{bit}
use Rattle.base.specs.Marks.{mark_parity, mark_break}
use Rattle.base.specs.declared.Answer.{Answer}
use Rattle.registers.specs.Loopback.{looped}
use Rattle.base.specs.declared.Answer.TheVariants.{Sent, Idle, Break}

-- "bits 7-6 choose trigger 1, 4, 8 or 14"
unfoldable pub trigger : ℕ → ℕ
trigger fcr = pick (bit 7 fcr) (pick (bit 6 fcr) 14 8) (pick (bit 6 fcr) 4 1)

-- the word length: LCR bits 1-0 stand for five to eight bits
abbrev pub word_bits : ℕ → ℕ
word_bits lcr = 5 + lcr % 4

-- "cut to the word length"
unfoldable pub cut : ℕ → ℕ → ℕ
cut lcr byte = byte % 2 ^ word_bits lcr

-- "the byte sent; 100 idle; 200 break". "With LCR bit 6 set the answer is 200, and all else goes on." Ticket 7: in loopback "the answer is 100,
-- even with break set"
abbrev pub wire_answer : ℕ → ℕ → Bool → ℕ → Answer
wire_answer mcr lcr busy shift = pick (looped mcr) Idle (pick (bit 6 lcr) Break (pick busy (Sent (cut lcr shift)) Idle))

-- parity is off where LCR bit 3 is clear
abbrev pub parity_off : ℕ → Bool
parity_off lcr = not (bit 3 lcr)

-- ticket 4: "6 is now marks above 7 only"
abbrev pub marks_above : ℕ → Bool
marks_above marks = ltb 7 marks

-- ticket 4: "data beyond the word length"
abbrev pub beyond_word : ℕ → ℕ → Bool
beyond_word lcr byte = leb (2 ^ word_bits lcr) byte

-- ticket 4: "parity mark with parity off"
abbrev pub parity_unasked : ℕ → ℕ → Bool
parity_unasked lcr marks = bit mark_parity marks && parity_off lcr

-- ticket 4: "break with data", other than 0
abbrev pub break_with_data : ℕ → ℕ → Bool
break_with_data marks byte = bit mark_break marks && not (eqb byte 0)
