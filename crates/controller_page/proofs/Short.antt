-- Each piece of the controller fits, and so does its page.
use Prim.Native.Nat.{ℕ, ◌+◌, ◌*◌, ◌≤◌}
use mathlib.Core.Bool.{Bool, true}
use mathlib.Core.List.{List, [], ◌∷◌, ◌++◌}
use mathlib.Core.Path.{◌≡◌, refl}
use native.Mathlib.Omega.{arith}
use lib.ListN.{length}
use Rattle.base.specs.Pick.{pick}
use Rattle.text.specs.Line.{decimal}
use Rattle.text.specs.Quoted.{quoted}
use Rattle.page.specs.Pieces.{hex}
use Rattle.page.specs.Pages.{headed}
use Rattle.page.specs.CountLaws.{all_count, head_count}
use Rattle.page.specs.FitLaws.{no_feed, one_line, pieces_fit_terminal}
use Rattle.names.specs.Words.{lines_said}
use Rattle.names.specs.Fits.{Fits, AllFit}
use Rattle.names.specs.FitLaws.{fits_quoted, fits_none, fits_more, fits_append, fits_behind, fits_pick, fits_decimal, fits_hex, all_fit_append, all_one_line}
use Rattle.names.specs.WordLaws.{lines_fit}
use Rattle.rank.specs.Sets.{line}
use Rattle.rank.specs.Rank.{order}
use Rattle.controller.specs.declared.Controller.{Controller}
use Rattle.controller.specs.State.{ready}
use Rattle.controller.specs.Turns.{requests, output_of}
use Rattle.controller_page.specs.ControllerPages.{controller_head, base_words, setup_pieces, set_words, set_pieces, behind_blanks, rank_words, mode_pieces, output_words, controller_pieces, controller_page}
use Rattle.controller_page.specs.HeadLaws.{controller_head_short}
use Rattle.controller_page.specs.Uncut.{NoneCut, Whole, OnTerminal}

either : (test : Bool) (words others : List ℕ) → no_feed words ≡ true → no_feed others ≡ true → length words ≤ 68 → length others ≤ 68
    → Fits 68 (pick test words others)
either test words others clear clear-others few few-others =
    fits_pick test (fits_more (fits_quoted words clear) few) (fits_more (fits_quoted others clear-others) few-others)

set_fits : (words : List ℕ) (set : ℕ) → no_feed words ≡ true → length words ≤ 43 → Fits 68 (set_words words set)
unfolding set_words
set_fits words set clear few =
    fits_more
    (fits_behind words clear (fits_append (hex set) (quoted ": " ++ lines_said set) (fits_hex set) (fits_behind (quoted ": ") refl (lines_fit set))))
    (omega arith)

-- lines that are one digit each
abbrev Lines : List ℕ → Type 0
Lines [] = Unit {0}
Lines (n ∷ rest) = Fits 1 (decimal n) × Lines rest

lines_one : (l : List ℕ) → Lines l → Fits (2 * length l) (behind_blanks l)
lines_one [] all = fits_none 0
lines_one (n ∷ rest) all =
    fits_more (fits_behind (quoted " ") refl (fits_append (decimal n) (behind_blanks rest) all.0 (lines_one rest all.1))) (omega arith)

rank_fits : (first : ℕ) → Fits 68 (rank_words first)
unfolding rank_words
rank_fits first =
    let f = line first in
    let one : (n : ℕ) → Fits 1 (decimal (line n)) = λ n. fits_decimal 0 (line n) (omega arith) in
    fits_more
    (fits_behind (quoted "rank") refl
    (lines_one (order first) (one first, (one (f + 1), (one (f + 2), (one (f + 3), (one (f + 4), (one (f + 5), (one (f + 6), (one (f + 7), tt))))))))))
    (omega arith)

module _ (c : Controller) where
  setup_fits : AllFit 68 (setup_pieces c.setup)
  unfolding setup_pieces base_words
  setup_fits = (
    either (ready c.setup) (quoted "ready") (quoted "not ready") refl refl (omega arith) (omega arith),
    (
      either c.setup.level (quoted "level mode") (quoted "edge mode") refl refl (omega arith) (omega arith),
      (fits_more (fits_behind (quoted "base ") refl (fits_hex c.setup.base)) (omega arith), tt),
    ),
  )

  sets_fit : AllFit 68 (set_pieces c)
  unfolding set_pieces
  sets_fit = (
    set_fits (quoted "requests ") (requests c) refl (omega arith),
    (
      set_fits (quoted "mask ") c.operation.mask refl (omega arith),
      (set_fits (quoted "in service ") c.operation.service refl (omega arith), tt),
    ),
  )

  modes_fit : AllFit 68 (mode_pieces c)
  unfolding mode_pieces
  modes_fit = (
    either c.operation.special (quoted "special mask") [] refl refl (omega arith) (omega arith),
    (
      either c.setup.automatic (quoted "automatic end") [] refl refl (omega arith) (omega arith),
      (
        either c.operation.rotation (quoted "rotation") [] refl refl (omega arith) (omega arith),
        (either c.operation.selected (quoted "port 0 reads in service") [] refl refl (omega arith) (omega arith), tt),
      ),
    ),
  )

  output_fits : Fits 68 (output_words c)
  unfolding output_words
  output_fits = either (output_of c) (quoted "output high") (quoted "output low") refl refl (omega arith) (omega arith)

  pieces_fit : AllFit 68 (controller_pieces c)
  unfolding controller_pieces
  pieces_fit =
      let last : List (List ℕ) = output_words c ∷ [] in
      let ranked : List (List ℕ) = rank_words c.operation.first ∷ (mode_pieces c ++ last) in
      all_fit_append 68 (setup_pieces c.setup) (set_pieces c ++ ranked) setup_fits
      (all_fit_append 68 (set_pieces c) ranked sets_fit
      (rank_fits c.operation.first, all_fit_append 68 (mode_pieces c) last modes_fit (output_fits, tt)))

  pieces_few : length (controller_pieces c) ≤ 12
  unfolding controller_pieces setup_pieces set_pieces mode_pieces
  pieces_few = omega arith

pub none_cut : NoneCut
none_cut = pieces_fit

pub whole : Whole
whole c = omega (arith, all_count (headed controller_head) (controller_pieces c), head_count controller_head, controller_head_short, pieces_few c)

pub on_terminal : OnTerminal
unfolding controller_page controller_head
on_terminal c =
    pieces_fit_terminal controller_head (controller_pieces c) (one_line controller_head refl) (omega arith) (all_one_line 68 (controller_pieces c) (pieces_fit c))
