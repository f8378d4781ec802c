-- Nothing that is told of a deed is too long for a piece. Numbers are bytes.
use Rattle.std.specs.Prelude.{ℕ, ◌<◌, Bool, ◌&&◌, ltb, eqb}
use Rattle.std.proofs.Math.Bool.{true, false, not}
use mathlib.Core.List.{List}
use Rattle.std.proofs.Math.Path.{refl}
use Rattle.std.proofs.Common.{arith}
use Rattle.base.specs.Bits.{bit}
use Rattle.text.specs.Quoted.{quoted}
use Rattle.names.specs.Fits.{Fits}
use Rattle.names.specs.FitLaws.{fits_quoted, fits_more, fits_append, fits_behind, fits_pick, fits_byte, fits_hex, fits_letter}
use Rattle.names.specs.WordLaws.{register_fits, marks_fit_lem, levels_fit}
use Rattle.controller.specs.declared.Controller.{Controller}
use Rattle.records.specs.Kinds as kinds
use Rattle.deeds.specs.Done.{seat_words, read_done, value_written, write_done, arrival_done, levels_done, time_done, controller_read_done, word_at0, word_at1, word_written, controller_write_done, seat_done, other_done, whole_done, cut_done}

module _ (seat number value : ℕ) (byte-seat : seat < 256) (byte-number : number < 256) (byte-value : value < 256) where
  at_seat_lem : Fits 8 (seat_words seat)
  unfolding seat_words
  at_seat_lem = fits_behind (quoted "seat ") refl (fits_byte seat byte-seat)

  read_fits : (divisor : Bool) → Fits 27 (read_done seat number divisor)
  unfolding read_done
  read_fits divisor = fits_append _ _ at_seat_lem (fits_behind (quoted " reads ") refl (register_fits number divisor false byte-number))

  write_fits : (divisor : Bool) → Fits 35 (write_done seat number value divisor)
  unfolding write_done value_written
  write_fits divisor =
      fits_append _ _ at_seat_lem
      (fits_behind (quoted " writes ") refl
      (fits_append _ _ (register_fits number divisor true byte-number)
      (fits_behind (quoted " ") refl
      (fits_pick (eqb number 0 && not divisor) (fits_letter value) (fits_more (fits_hex value) (omega arith))))))

  arrival_fits : Fits 52 (arrival_done seat number value)
  unfolding arrival_done
  arrival_fits = fits_append _ _ (fits_letter value) (fits_behind (quoted " arrives at ") refl (fits_append _ _ at_seat_lem (marks_fit_lem number)))

  levels_done_fit : Fits 40 (levels_done seat value)
  unfolding levels_done
  levels_done_fit =
      fits_behind (quoted "modem inputs of ") refl (fits_append _ _ at_seat_lem (fits_behind (quoted ":") refl (levels_fit value)))

  time_fits : Fits 28 (time_done seat)
  unfolding time_done
  time_fits = fits_behind (quoted "a character time at ") refl at_seat_lem

  seat_fits : (kind : ℕ) (divisor : Bool) → Fits 52 (seat_done kind seat number value divisor)
  unfolding seat_done
  seat_fits kind divisor =
      fits_pick (eqb kind kinds.read_register_kind) (fits_more (read_fits divisor) (omega arith))
      (fits_pick (eqb kind kinds.write_register_kind) (fits_more (write_fits divisor) (omega arith))
      (fits_pick (eqb kind kinds.arrival_kind) arrival_fits
      (fits_pick (eqb kind kinds.modem_inputs_kind) (fits_more levels_done_fit (omega arith))
      (fits_more time_fits (omega arith)))))

  port_read_fits : (selected : Bool) → Fits 27 (controller_read_done number selected)
  unfolding controller_read_done
  port_read_fits selected =
      fits_pick (eqb number 0)
      (fits_pick selected (fits_quoted (quoted "controller reads in service") refl) (fits_more (fits_quoted (quoted "controller reads requests") refl) (omega arith)))
      (fits_pick (eqb number 1) (fits_more (fits_quoted (quoted "controller reads mask") refl) (omega arith))
      (fits_more (fits_behind (quoted "controller reads port ") refl (fits_byte number byte-number)) (omega arith)))

  word_fits : (stage : ℕ) → Fits 8 (word_written number value stage)
  unfolding word_written word_at0 word_at1
  word_fits stage =
      let four : (words : List ℕ) → Fits 4 words → Fits 8 words = λ words f. fits_more f (omega arith) in
      fits_pick (eqb number 0)
      (fits_pick (bit 4 value) (four _ (fits_quoted (quoted "ICW1") refl))
      (fits_pick (bit 3 value) (four _ (fits_quoted (quoted "OCW3") refl)) (four _ (fits_quoted (quoted "OCW2") refl))))
      (fits_pick (eqb number 1)
      (fits_pick (eqb stage 1) (four _ (fits_quoted (quoted "ICW2") refl))
      (fits_pick (eqb stage 2) (four _ (fits_quoted (quoted "ICW4") refl))
      (fits_pick (eqb stage 3) (four _ (fits_quoted (quoted "OCW1") refl))
      (fits_more (fits_quoted (quoted "port 1") refl) (omega arith)))))
      (fits_behind (quoted "port ") refl (fits_byte number byte-number)))

  port_write_fits : (stage : ℕ) → Fits 29 (controller_write_done number value stage)
  unfolding controller_write_done
  port_write_fits stage =
      fits_behind (quoted "controller writes ") refl
      (fits_append _ _ (word_fits stage) (fits_behind (quoted " ") refl (fits_hex value)))

  other_fits : (kind : ℕ) (c : Controller) → kind < 256 → Fits 31 (other_done kind number value c)
  unfolding other_done
  other_fits kind c byte =
      fits_pick (eqb kind kinds.master_reset_kind) (fits_quoted (quoted "master reset of all eight seats") refl)
      (fits_pick (eqb kind kinds.read_controller_kind) (fits_more (port_read_fits c.operation.selected) (omega arith))
      (fits_pick (eqb kind kinds.write_controller_kind) (fits_more (port_write_fits c.setup.stage) (omega arith))
      (fits_pick (eqb kind kinds.acknowledge_kind) (fits_more (fits_quoted (quoted "acknowledge") refl) (omega arith))
      (fits_more (fits_behind (quoted "a record of kind ") refl (fits_byte kind byte)) (omega arith)))))

  pub done_fits : (kind : ℕ) (divisor : Bool) (c : Controller) → kind < 256 → Fits 52 (whole_done kind seat number value divisor c)
  unfolding whole_done
  done_fits kind divisor c byte =
      fits_pick (ltb kind kinds.master_reset_kind) (seat_fits kind divisor) (fits_more (other_fits kind c byte) (omega arith))

pub cut_fits : Fits 16 cut_done
unfolding cut_done
cut_fits = fits_quoted (quoted "a record cut off") refl
