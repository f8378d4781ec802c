-- What was done, in words: one piece, by the record's four bytes, and by what stood before it.
use Rattle.std.specs.Prelude.{ℕ, Bool, true, false, not, ◌&&◌, List, ◌++◌, ltb, eqb}
use Rattle.base.specs.Pick.{pick}
use Rattle.base.specs.Bits.{bit}
use Rattle.text.specs.Quoted.{quoted}
use Rattle.text.specs.Line.{decimal}
use Rattle.page.specs.Pieces.{hex, letter}
use Rattle.names.specs.Words.{register_words, marks_said, levels_said}
use Rattle.controller.specs.declared.Controller.{Controller}
use Rattle.records.specs.Kinds as kinds
use Rattle.records.specs.Events.{Record, whole, short}

-- ---- a seat; `divisor` tells whether LCR bit 7 stood before the record

-- "seat S"
unfoldable pub seat_words : ℕ → List ℕ
seat_words seat = quoted "seat " ++ decimal seat

-- "`seat S reads NAME`; N above 7: `seat S reads register N`"
unfoldable pub read_done : ℕ → ℕ → Bool → List ℕ
read_done seat number divisor = seat_words seat ++ (quoted " reads " ++ register_words number divisor false)

-- "V of THR is a letter, else a byte"
unfoldable pub value_written : ℕ → ℕ → Bool → List ℕ
value_written number value divisor = pick (eqb number 0 && not divisor) (letter value) (hex value)

-- "`seat S writes NAME V`; N above 7: `seat S writes register N V`"
unfoldable pub write_done : ℕ → ℕ → ℕ → Bool → List ℕ
write_done seat number value divisor =
    seat_words seat ++ (quoted " writes " ++ (register_words number divisor true ++ (quoted " " ++ value_written number value divisor)))

-- "`V arrives at seat S`, V a letter; behind it the marks N"
unfoldable pub arrival_done : ℕ → ℕ → ℕ → List ℕ
arrival_done seat marks value = letter value ++ (quoted " arrives at " ++ (seat_words seat ++ marks_said marks))

-- "`modem inputs of seat S:` and the words of the levels in V that are set"
unfoldable pub levels_done : ℕ → ℕ → List ℕ
levels_done seat levels = quoted "modem inputs of " ++ (seat_words seat ++ (quoted ":" ++ levels_said levels))

-- "a character time at seat S"
unfoldable pub time_done : ℕ → List ℕ
time_done seat = quoted "a character time at " ++ seat_words seat

-- ---- the controller. `selected` has port 0 read in service, and `stage` is its stage before the record

-- "N is 0: `controller reads requests`, or `controller reads in service` where that is selected; N is 1: `controller reads mask`; N above 1:
-- `controller reads port N`"
unfoldable pub controller_read_done : ℕ → Bool → List ℕ
controller_read_done port selected =
    pick (eqb port 0) (pick selected (quoted "controller reads in service") (quoted "controller reads requests"))
    (pick (eqb port 1) (quoted "controller reads mask") (quoted "controller reads port " ++ decimal port))

-- "WORD at port 0 is `ICW1` where bit 4 of V is set, else `OCW3` where bit 3 is, else `OCW2`"
unfoldable pub word_at0 : ℕ → List ℕ
word_at0 value = pick (bit 4 value) (quoted "ICW1") (pick (bit 3 value) (quoted "OCW3") (quoted "OCW2"))

-- "at port 1 `ICW2` at stage 1, `ICW4` at stage 2, `OCW1` at stage 3, and `port 1` at stage 0"
unfoldable pub word_at1 : ℕ → List ℕ
word_at1 stage =
    pick (eqb stage 1) (quoted "ICW2") (pick (eqb stage 2) (quoted "ICW4") (pick (eqb stage 3) (quoted "OCW1") (quoted "port 1")))

-- "N above 1": "port N"
unfoldable pub word_written : ℕ → ℕ → ℕ → List ℕ
word_written port value stage =
    pick (eqb port 0) (word_at0 value) (pick (eqb port 1) (word_at1 stage) (quoted "port " ++ decimal port))

-- "controller writes WORD V"
unfoldable pub controller_write_done : ℕ → ℕ → ℕ → List ℕ
controller_write_done port value stage = quoted "controller writes " ++ (word_written port value stage ++ (quoted " " ++ hex value))

-- ---- a record

-- of the kinds that use a seat
unfoldable pub seat_done : ℕ → ℕ → ℕ → ℕ → Bool → List ℕ
seat_done kind seat number value divisor =
    pick (eqb kind kinds.read_register_kind) (read_done seat number divisor)
    (pick (eqb kind kinds.write_register_kind) (write_done seat number value divisor)
    (pick (eqb kind kinds.arrival_kind) (arrival_done seat number value)
    (pick (eqb kind kinds.modem_inputs_kind) (levels_done seat value)
    (time_done seat))))

-- of the others; "above 8": "a record of kind K"
unfoldable pub other_done : ℕ → ℕ → ℕ → Controller → List ℕ
other_done kind number value c =
    pick (eqb kind kinds.master_reset_kind) (quoted "master reset of all eight seats")
    (pick (eqb kind kinds.read_controller_kind) (controller_read_done number c.operation.selected)
    (pick (eqb kind kinds.write_controller_kind) (controller_write_done number value c.setup.stage)
    (pick (eqb kind kinds.acknowledge_kind) (quoted "acknowledge")
    (quoted "a record of kind " ++ decimal kind))))

unfoldable pub whole_done : ℕ → ℕ → ℕ → ℕ → Bool → Controller → List ℕ
whole_done kind seat number value divisor c =
    pick (ltb kind kinds.master_reset_kind) (seat_done kind seat number value divisor) (other_done kind number value c)

-- "cut off at the end": "a record cut off"
unfoldable pub cut_done : List ℕ
cut_done = quoted "a record cut off"

abbrev pub record_done : Record → Bool → Controller → List ℕ
record_done (whole kind seat number value) divisor c = whole_done kind seat number value divisor c
record_done short divisor c = cut_done
