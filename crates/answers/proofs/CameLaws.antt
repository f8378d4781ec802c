-- Nothing that is told of what came of a record is too long for a piece. Numbers are bytes.
use Rattle.std.specs.Prelude.{ℕ, ◌%◌, ◌^◌, ◌<◌, Bool, false, refl, eqb}
use Rattle.std.proofs.Common.{arith}
use Rattle.text.specs.Quoted.{quoted}
use Rattle.names.specs.Fits.{Fits}
use Rattle.names.specs.FitLaws.{fits_quoted, fits_none, fits_more, fits_append, fits_behind, fits_pick, fits_byte, fits_hex, fits_letter}
use Rattle.names.specs.WordLaws.{refusal_fits, register_fits, iir_fits, lsr_fits, msr_fits, marks_fit_lem, lines_fit}
use Rattle.base.specs.Answers.{refusal_of, figures_of}
use Rattle.base.specs.declared.Answer.{Answer}
use Rattle.base.specs.declared.Figures.{Figures}
use Rattle.base.specs.declared.Answer.TheVariants.{Byte, Letter, Done, Sent, Idle, Break, Vector, Spurious, Place, Divisor, Refused}
use Rattle.records.specs.Kinds as kinds
use Rattle.answers.specs.Came.{refused_came, behind_said, figures_said, letter_came, plain_came, register_came, port_name, port_came, byte_came, sent_came, vector_came, spurious_came, came_of}

refused_fits : (number : ℕ) → number < 256 → Fits 63 (refused_came number)
unfolding refused_came
refused_fits number byte =
    fits_behind (quoted "refused ") refl (fits_append _ _ (fits_byte number byte) (fits_behind (quoted ": ") refl (refusal_fits number)))

behind_fits : (behind : ℕ) → behind < 256 → Fits 12 (behind_said behind)
unfolding behind_said
behind_fits behind byte =
    fits_pick (eqb behind 0) (fits_none 12)
    (fits_behind (quoted ", ") refl (fits_append _ _ (fits_byte behind byte) (fits_quoted (quoted " behind") refl)))

letter_fits : (byte : ℕ) (f : Figures) (empty : Bool) → f.behind < 256 → Fits 48 (letter_came byte f empty)
unfolding letter_came figures_said
letter_fits byte f empty few =
    fits_behind (quoted "RBR ") refl
    (fits_append _ _ (fits_letter byte)
    (fits_pick empty (fits_more (fits_quoted (quoted " again: nothing waits") refl) (omega arith))
    (fits_append _ _ (marks_fit_lem f.marks) (behind_fits f.behind few))))

register_came_fits : (number : ℕ) (divisor : Bool) (byte : ℕ) → number < 256 → Fits 68 (register_came number divisor byte)
unfolding register_came plain_came
register_came_fits number divisor byte small =
    fits_pick (eqb number 2) (iir_fits byte)
    (fits_pick (eqb number 5) (lsr_fits byte)
    (fits_pick (eqb number 6) (msr_fits byte)
    (fits_more (fits_append _ _ (register_fits number divisor false small) (fits_behind (quoted " ") refl (fits_hex byte))) (omega arith))))

port_fits : (port : ℕ) (selected : Bool) (byte : ℕ) → Fits 36 (port_came port selected byte)
unfolding port_came port_name
port_fits port selected byte =
    fits_append _ _
    (fits_pick (eqb port 0)
    (fits_pick selected (fits_quoted (quoted "in service ") refl) (fits_more (fits_quoted (quoted "requests ") refl) (omega arith)))
    (fits_more (fits_quoted (quoted "mask ") refl) (omega arith)))
    (fits_append _ _ (fits_hex byte) (fits_behind (quoted ": ") refl (lines_fit byte)))

byte_fits : (kind number : ℕ) (divisor selected : Bool) (byte : ℕ) → number < 256 → Fits 68 (byte_came kind number divisor selected byte)
unfolding byte_came
byte_fits kind number divisor selected byte small =
    fits_pick (eqb kind kinds.read_controller_kind) (fits_more (port_fits number selected byte) (omega arith)) (register_came_fits number divisor byte small)

sent_fits : (byte : ℕ) → Fits 11 (sent_came byte)
unfolding sent_came
sent_fits byte = fits_behind (quoted "sent ") refl (fits_letter byte)

vector_fits : (vector : ℕ) → Fits 19 (vector_came vector)
unfolding vector_came
vector_fits vector =
    fits_behind (quoted "vector ") refl
    (fits_append _ _ (fits_hex vector) (fits_behind (quoted ": line ") refl (fits_byte (vector % 2 ^ 3) (omega arith))))

spurious_fits : (vector : ℕ) → Fits 19 (spurious_came vector)
unfolding spurious_came
spurious_fits vector = fits_behind (quoted "vector ") refl (fits_append _ _ (fits_hex vector) (fits_quoted (quoted ": spurious") refl))

pub came_fits : (kind number : ℕ) (divisor selected empty : Bool) (a : Answer) → number < 256 → refusal_of a < 256 → (figures_of a).behind < 256
    → Fits 68 (came_of kind number divisor selected empty a)
unfolding refusal_of figures_of
came_fits kind number divisor selected empty (Byte byte) small refusal behind = byte_fits kind number divisor selected byte small
came_fits kind number divisor selected empty (Letter byte f) small refusal behind = fits_more (letter_fits byte f empty behind) (omega arith)
came_fits kind number divisor selected empty Done small refusal behind = fits_none 68
came_fits kind number divisor selected empty (Sent byte) small refusal behind = fits_more (sent_fits byte) (omega arith)
came_fits kind number divisor selected empty Idle small refusal behind = fits_more (fits_quoted (quoted "nothing is sent") refl) (omega arith)
came_fits kind number divisor selected empty Break small refusal behind = fits_more (fits_quoted (quoted "break is sent") refl) (omega arith)
came_fits kind number divisor selected empty (Vector v) small refusal behind = fits_more (vector_fits v) (omega arith)
came_fits kind number divisor selected empty (Spurious v) small refusal behind = fits_more (spurious_fits v) (omega arith)
came_fits kind number divisor selected empty (Place p) small refusal behind = fits_none 68
came_fits kind number divisor selected empty (Divisor d) small refusal behind = fits_none 68
came_fits kind number divisor selected empty (Refused n) small refusal behind = fits_more (refused_fits n refusal) (omega arith)
