-- A line has one answer: neither text nor length can be another.
use Rattle.std.specs.Prelude.{ℕ, true, false, List, ◌≡◌, replicate, Option, Some}
use Rattle.std.proofs.Common.{⊎_elim, sym, ap, subst, ◌∙◌}
use Rattle.base.specs.PickLaws.{either_way}
use Rattle.setting_lines.specs.Writing.{Left}
use Rattle.setting_lines.proofs.LineLaws.{read_one, write_one}
use Rattle.sheets.specs.Texts.{setting_text, written_text, AtStart}
use Rattle.sheets.specs.Numbers.{number, byte, room, four}
use Rattle.sheets.specs.Replies.{LineReply, FourReply, NumbersReply}
use Rattle.sheets.specs.declared.Numbers.{Numbers}

text_one : (text d d' d'' : List ℕ) (r q : ℕ) → AtStart text d d' r → AtStart text d d'' q → (r ≡ q) × (d' ≡ d'')
text_one text d d' d'' r q a b = (a.size ∙ sym b.size, a.bytes ∙ sym b.bytes)

module _ (line : List ℕ) (clock : ℕ) (d d' d'' : List ℕ) (r q : ℕ) where
  pub line_one : LineReply line clock d d' r → LineReply line clock d d'' q → (r ≡ q) × (d' ≡ d'')
  line_one a b =
      let same : a.setting ≡ b.setting = read_one line clock a.setting b.setting a.read b.read in
      text_one (setting_text b.setting) d d' d'' r q (subst (λ s. AtStart (setting_text s) d d' r) same a.told) b.told

module _ (s : Numbers) (d d' d'' : List ℕ) where
  abbrev text_of : Left → List ℕ
  text_of l = written_text l.written l.buffer

  four_one : (r q : ℕ) → FourReply s d d' r → FourReply s d d'' q → (r ≡ q) × (d' ≡ d'')
  four_one r q a b =
      let same : _ =
      write_one (byte (number 0 s)) (number 1 s) (byte (number 2 s)) (replicate (room (number 3 s)) 0) a.buffer b.buffer a.written b.written
      a.writes b.writes in
      text_one _ d d' d'' r q (subst (λ (l : List ℕ). AtStart l d d' r) (ap text_of same) a.told) b.told

  pub numbers_one : (r q : Option ℕ) → NumbersReply s d d' r → NumbersReply s d d'' q → (r ≡ q) × (d' ≡ d'')
  numbers_one r q a b =
      ⊎_elim
      (λ (yes : four s ≡ true).
      let one = a.answer yes in
      let two = b.answer yes in
      let same = four_one one.0 two.0 one.2 two.2 in
      (one.1 ∙ ap Some same.0 ∙ sym two.1, same.1))
      (λ (no : four s ≡ false). ((a.none no).1 ∙ sym (b.none no).1, (a.none no).0 ∙ sym (b.none no).0))
      (either_way (four s))
