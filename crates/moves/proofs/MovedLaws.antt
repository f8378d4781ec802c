-- Every piece of what moved fits, and there are few of them.
use Rattle.std.specs.Prelude.{ℕ, ◌≤◌, ◌<◌, Bool, true, ◌&&◌, not, List, [], ◌∷◌, ◌≡◌, eqb, length}
use Rattle.std.proofs.Math.Path.{refl}
use Rattle.std.proofs.Common.{arith}
use Rattle.base.specs.PickLaws.{pick_either}
use Rattle.base.specs.Bits.{bit}
use Rattle.text.specs.Quoted.{quoted}
use Rattle.text.specs.Line.{decimal}
use Rattle.page.specs.FitLaws.{no_feed}
use Rattle.receiver.specs.Receiver.{timeout_stands}
use Rattle.registers.specs.Loopback.{looped}
use Rattle.channel.specs.declared.Channel.{Channel}
use Rattle.channel.specs.Status.{lsr, msr}
use Rattle.controller.specs.declared.Controller.{Controller}
use Rattle.records.specs.Events.{uses_seat, seat_above}
use Rattle.names.specs.Fits.{Fits, AllFit}
use Rattle.names.specs.FitLaws.{fits_quoted, fits_none, fits_more, fits_append, fits_behind, fits_pick, fits_byte, all_fit_append}
use Rattle.moves.specs.Moved.{counted, turned, bit_turned, queues_moved, troubles_moved, flags_moved, changes_moved, loopback_moved, channel_moved, seat_moved, line_words, line_turned, lines_turned, first_moved, ready_moved, output_moved, controller_moved, first_line}

-- ---- what moved

counted_fits : (words : List ℕ) (before after : ℕ) → Fits 8 words → after < 256 → Fits 68 (counted words before after)
unfolding counted
counted_fits words before after f byte =
    fits_pick (eqb before after) (fits_none 68) (fits_more (fits_append words (decimal after) f (fits_byte after byte)) (omega arith))

turned_fits : (before after : Bool) (on off : List ℕ) → Fits 68 on → Fits 68 off → Fits 68 (turned before after on off)
unfolding turned
turned_fits before after on off f g = fits_pick after (fits_pick before (fits_none 68) f) (fits_pick before g (fits_none 68))

-- words in quotation marks that are not longer
within : (words : List ℕ) → no_feed words ≡ true → length words ≤ 68 → Fits 68 words
within words clear few = fits_more (fits_quoted words clear) few

module _ (c c' : Channel) (queued : c'.receiver.queue.count < 256) (waiting : c'.transmitter.queue.count < 256) where
  queues_fit : AllFit 68 (queues_moved c c')
  unfolding queues_moved
  queues_fit = (
    counted_fits (quoted "queued ") c.receiver.queue.count c'.receiver.queue.count (fits_more (fits_quoted (quoted "queued ") refl) (omega arith)) queued,
    (
      counted_fits (quoted "to send ") c.transmitter.queue.count c'.transmitter.queue.count (fits_quoted (quoted "to send ") refl) waiting,
      (
        turned_fits c.transmitter.busy c'.transmitter.busy _ _
            (within (quoted "shift register loaded") refl (omega arith))
            (within (quoted "shift register empty") refl (omega arith)),
        tt,
      ),
    ),
  )

  flags_fit : AllFit 68 (flags_moved c c')
  unfolding flags_moved
  flags_fit = (
    turned_fits (timeout_stands c.receiver) (timeout_stands c'.receiver) _ _
        (within (quoted "time-out set") refl (omega arith)) (within (quoted "time-out cleared") refl (omega arith)),
    (
      turned_fits c.transmitter.flag c'.transmitter.flag _ _
          (within (quoted "holding-empty flag set") refl (omega arith))
          (within (quoted "holding-empty flag cleared") refl (omega arith)),
      tt,
    ),
  )

  loopback_fits : Fits 68 (loopback_moved c c')
  unfolding loopback_moved
  loopback_fits =
      turned_fits (looped c.settings.mcr) (looped c'.settings.mcr) _ _
      (within (quoted "loopback on") refl (omega arith)) (within (quoted "loopback off") refl (omega arith))

four_bits : (k l m n before after : ℕ) (on off on₂ off₂ on₃ off₃ on₄ off₄ : List ℕ)
    → AllFit 68 (on ∷ off ∷ on₂ ∷ off₂ ∷ on₃ ∷ off₃ ∷ on₄ ∷ off₄ ∷ [])
    → AllFit 68 (bit_turned k before after on off ∷ bit_turned l before after on₂ off₂ ∷ bit_turned m before after on₃ off₃ ∷ bit_turned n before after on₄ off₄ ∷ [])
four_bits k l m n before after on off on₂ off₂ on₃ off₃ on₄ off₄ (a, (b, (c, (d, (e, (f, (g, (h, t)))))))) = (
  turned_fits (bit k before) (bit k after) on off a b,
  (
    turned_fits (bit l before) (bit l after) on₂ off₂ c d,
    (
      turned_fits (bit m before) (bit m after) on₃ off₃ e f,
      (turned_fits (bit n before) (bit n after) on₄ off₄ g h, tt),
    ),
  ),
)

troubles_fit : (before after : ℕ) → AllFit 68 (troubles_moved before after)
unfolding troubles_moved
troubles_fit before after =
    four_bits 1 2 3 4 before after _ _ _ _ _ _ _ _ (
      within (quoted "overrun set") refl (omega arith),
      (
        within (quoted "overrun cleared") refl (omega arith),
        (
          within (quoted "parity set") refl (omega arith),
          (
            within (quoted "parity cleared") refl (omega arith),
            (
              within (quoted "framing set") refl (omega arith),
              (
                within (quoted "framing cleared") refl (omega arith),
                (within (quoted "break set") refl (omega arith), (within (quoted "break cleared") refl (omega arith), tt)),
              ),
            ),
          ),
        ),
      ),
    )

changes_fit : (before after : ℕ) → AllFit 68 (changes_moved before after)
unfolding changes_moved
changes_fit before after =
    four_bits 0 1 2 3 before after _ _ _ _ _ _ _ _ (
      within (quoted "CTS-changed set") refl (omega arith),
      (
        within (quoted "CTS-changed cleared") refl (omega arith),
        (
          within (quoted "DSR-changed set") refl (omega arith),
          (
            within (quoted "DSR-changed cleared") refl (omega arith),
            (
              within (quoted "RI-ended set") refl (omega arith),
              (
                within (quoted "RI-ended cleared") refl (omega arith),
                (within (quoted "DCD-changed set") refl (omega arith), (within (quoted "DCD-changed cleared") refl (omega arith), tt)),
              ),
            ),
          ),
        ),
      ),
    )

channel_fits : (c c' : Channel) → c'.receiver.queue.count < 256 → c'.transmitter.queue.count < 256 → AllFit 68 (channel_moved c c')
unfolding channel_moved
channel_fits c c' queued waiting =
    all_fit_append 68 (queues_moved c c') _ (queues_fit c c' queued waiting)
    (all_fit_append 68 (troubles_moved (lsr c) (lsr c')) _ (troubles_fit (lsr c) (lsr c'))
    (all_fit_append 68 (flags_moved c c') _ (flags_fit c c' queued waiting)
    (all_fit_append 68 (changes_moved (msr c) (msr c')) _ (changes_fit (msr c) (msr c')) (loopback_fits c c' queued waiting, tt))))

line_fits : (n : ℕ) (words : List ℕ) → n < 256 → Fits 15 words → Fits 68 (line_words n words)
unfolding line_words
line_fits n words byte f = fits_more (fits_behind (quoted "line ") refl (fits_append _ _ (fits_byte n byte) f)) (omega arith)

module _ (before after : ℕ) (on off : List ℕ) (f : Fits 15 on) (g : Fits 15 off) where
  line_turned_fits : (n : ℕ) → n < 256 → Fits 68 (line_turned n before after on off)
  unfolding line_turned
  line_turned_fits n byte = turned_fits (bit n before) (bit n after) _ _ (line_fits n on byte f) (line_fits n off byte g)

  lines_fit : AllFit 68 (lines_turned before after on off)
  unfolding lines_turned
  lines_fit = (
    line_turned_fits 0 (omega arith),
    (
      line_turned_fits 1 (omega arith),
      (
        line_turned_fits 2 (omega arith),
        (
          line_turned_fits 3 (omega arith),
          (line_turned_fits 4 (omega arith), (line_turned_fits 5 (omega arith), (line_turned_fits 6 (omega arith), (line_turned_fits 7 (omega arith), tt)))),
        ),
      ),
    ),
  )

pub controller_fits : (k k' : Controller) → AllFit 68 (controller_moved k k')
unfolding controller_moved ready_moved first_moved output_moved
controller_fits k k' =
    let first : first_line k' < 256 = omega arith in (
      turned_fits _ _ _ _ (within (quoted "controller ready") refl (omega arith)) (within (quoted "controller not ready") refl (omega arith)),
      all_fit_append 68 (lines_turned k.lines.levels k'.lines.levels (quoted " rises") (quoted " falls")) _
          (lines_fit k.lines.levels k'.lines.levels _ _ (fits_more (fits_quoted (quoted " rises") refl) (omega arith)) (fits_more (fits_quoted (quoted " falls") refl) (omega arith)))
          (all_fit_append 68 (lines_turned k.operation.service k'.operation.service (quoted " in service") (quoted " out of service")) _
          (lines_fit k.operation.service k'.operation.service _ _ (fits_more (fits_quoted (quoted " in service") refl) (omega arith)) (fits_quoted (quoted " out of service") refl)) (
            fits_pick (eqb (first_line k) (first_line k')) (fits_none 68)
                (line_fits (first_line k') (quoted " ranks first") first (fits_more (fits_quoted (quoted " ranks first") refl) (omega arith))),
            (turned_fits _ _ _ _ (within (quoted "output rises") refl (omega arith)) (within (quoted "output falls") refl (omega arith)), tt),
          )),
    )

pub seat_fits : (c c' : Channel) (kind n : ℕ) → c'.receiver.queue.count < 256 → c'.transmitter.queue.count < 256 → AllFit 68 (seat_moved c c' kind n)
unfolding seat_moved
seat_fits c c' kind n queued waiting =
    pick_either (AllFit 68) (uses_seat kind && not (seat_above n)) (channel_moved c c') [] (channel_fits c c' queued waiting) tt

-- ---- how many pieces there are

channel_pieces_lem : (c c' : Channel) → length (channel_moved c c') ≡ 14
unfolding channel_moved queues_moved troubles_moved flags_moved changes_moved
channel_pieces_lem c c' = refl

pub controller_pieces_lem : (k k' : Controller) → length (controller_moved k k') ≡ 19
unfolding controller_moved lines_turned
controller_pieces_lem k k' = refl

pub seat_pieces_lem : (c c' : Channel) (kind n : ℕ) → length (seat_moved c c' kind n) ≤ 14
unfolding seat_moved
seat_pieces_lem c c' kind n =
    pick_either (λ (l : List (List ℕ)). length l ≤ 14) (uses_seat kind && not (seat_above n)) (channel_moved c c') [] (omega (arith, channel_pieces_lem c c')) (omega arith)
