-- The column behind a text; and a page whose column is that of its text, and whose lines keep to the width, as bytes are put on it.
use Rattle.std.specs.Prelude.{ℕ, suc, ◌+◌, ◌-◌, ◌≤◌, ◌<◌, true, false, ◌⊎◌, ◌≡◌, refl, ltb, length}
use mathlib.Core.List.{List, [], ◌∷◌, ◌++◌}
use Rattle.std.proofs.Common.{inl, inr, sym, ◌∙◌, arith, length-set, take_all, lt-ltb, ne_eqb, eq-eqb, ltb-true, ltb-false}
use Rattle.std.proofs.Math.Logic.{⊎_elim}
use Rattle.std.proofs.Math.Path.{ap, subst}
use Rattle.std.proofs.Math.Dec.{eqb}
use Rattle.std.proofs.lemmas.Bool.{eqb-false}
use Rattle.base.specs.Pick.{pick}
use Rattle.base.specs.PickLaws.{pick_true, pick_false, either_way, both_hold}
use Rattle.text.specs.Line.{newline}
use Rattle.page.specs.Pages.{page_most, width, column_after, put_byte, put, shown}
use Rattle.page.specs.PageLaws.{put_more, put_full, put_full_all, shown_put}
use Rattle.page.specs.Columns.{keeps, OneLine}
use Rattle.page.specs.declared.Page.{Page}

-- ---- one byte behind a text

-- the column behind a text that begins in this one
unfoldable pub column_behind : ℕ → List ℕ → ℕ
column_behind column [] = column
column_behind column (c ∷ rest) = column_behind (pick (eqb c newline) 0 (column + 1)) rest

column_more : (c column : ℕ) (l : List ℕ) → column_behind column (l ++ (c ∷ [])) ≡ pick (eqb c newline) 0 (column_behind column l + 1)
unfolding column_behind
column_more c column [] = refl
column_more c column (x ∷ l) = column_more c (pick (eqb x newline) 0 (column + 1)) l

module _ (c : ℕ) where
  keeps_one : (column : ℕ) → ((c ≡ newline → ⊥) → column < width) → keeps column (c ∷ []) ≡ true
  unfolding keeps
  keeps_one column room =
      ⊎_elim
      (λ (t : eqb c newline ≡ true). pick_true _ _ _ t)
      (λ (f : eqb c newline ≡ false). pick_false _ _ _ f ∙ rw (lt-ltb column width (room (eqb-false c newline f))))
      (either_way (eqb c newline))

  pub keeps_more : (column : ℕ) (l : List ℕ) → keeps column l ≡ true → ((c ≡ newline → ⊥) → column_behind column l < width)
      → keeps column (l ++ (c ∷ [])) ≡ true
  unfolding keeps column_behind
  keeps_more column [] k room = keeps_one column room
  keeps_more column (x ∷ l) k room =
      ⊎_elim
      (λ (t : eqb x newline ≡ true).
      pick_true _ _ _ t
      ∙ keeps_more 0 l (sym (pick_true _ _ _ t) ∙ k) (λ o. subst (λ (n : ℕ). column_behind n l < width) (pick_true _ _ _ t) (room o)))
      (λ (f : eqb x newline ≡ false).
      let both : _ = both_hold (ltb column width) (keeps (column + 1) l) (sym (pick_false _ _ _ f) ∙ k) in
      pick_false _ _ _ f
      ∙ rw both.0
      (keeps_more (column + 1) l both.1 (λ o. subst (λ (n : ℕ). column_behind n l < width) (pick_false _ _ _ f) (room o))))
      (either_way (eqb x newline))

-- ---- a page as it is filled

pub record Stands (p : Page) : Type 0 where
  pub size : length p.bytes ≡ page_most
  pub few : p.count ≤ page_most
  pub column : p.column ≡ column_behind 0 (shown p)
  pub inside : p.column ≤ width
  pub keeps : keeps 0 (shown p) ≡ true

module _ (p : Page) (c : ℕ) (s : Stands p) where
  pub shown_byte : p.count < page_most → shown (put_byte p c) ≡ shown p ++ (c ∷ [])
  unfolding put
  shown_byte room =
      shown_put p (c ∷ []) s.size s.few ∙ ap (λ (l : List ℕ). shown p ++ l) (take_all (page_most - p.count) (c ∷ []) (omega arith))

  column_byte : p.count < page_most → (put_byte p c).column ≡ pick (eqb c newline) 0 (p.column + 1)
  unfolding column_after
  column_byte room =
      ap (λ (q : Page). q.column) (put_more p c room)
      ∙ ap (λ (n : ℕ). pick (eqb c newline) 0 n) (pick_true _ _ _ (lt-ltb p.column page_most (omega (arith, s.inside))))

  column_inside : p.count < page_most → ((c ≡ newline → ⊥) → p.column < width) → (put_byte p c).column ≤ width
  column_inside room fits =
      ⊎_elim
      (λ (t : eqb c newline ≡ true). omega (arith, column_byte room ∙ pick_true _ _ _ t))
      (λ (f : eqb c newline ≡ false).
      let low : p.column < width = fits (eqb-false c newline f) in omega (arith, column_byte room ∙ pick_false _ _ _ f))
      (either_way (eqb c newline))

  pub byte_stands : ((c ≡ newline → ⊥) → p.column < width) → Stands (put_byte p c)
  byte_stands fits =
      ⊎_elim
      (λ (t : ltb p.count page_most ≡ true).
      let room : p.count < page_most = ltb-true p.count page_most t in
      let more : _ = put_more p c room in
      record {
        size = ap (λ (q : Page). length q.bytes) more ∙ length-set p.bytes p.count c ∙ s.size;
        few = omega (arith, ap (λ (q : Page). q.count) more);
        column =
            column_byte room
            ∙ ap (λ (n : ℕ). pick (eqb c newline) 0 (n + 1)) s.column
            ∙ sym (column_more c 0 (shown p))
            ∙ ap (column_behind 0) (sym (shown_byte room));
        inside = column_inside room fits;
        keeps = ap (keeps 0) (shown_byte room) ∙ keeps_more c 0 (shown p) s.keeps (λ o. subst (λ (n : ℕ). n < width) s.column (fits o));
      })
      (λ (f : ltb p.count page_most ≡ false). subst Stands (sym (put_full p c (ltb-false p.count page_most f))) s)
      (either_way (ltb p.count page_most))

-- ---- a line that goes on, and a new one

-- so many columns are left on the line; or the page is full, and what is put then is left out
abbrev pub Left : Page → ℕ → Type 0
Left p n = (page_most ≤ p.count) ⊎ (p.column + n ≤ width)

column_step : (p : Page) (c n : ℕ) → Stands p → p.column + suc n ≤ width → (c ≡ newline → ⊥) → (put_byte p c).column + n ≤ width
column_step p c n s room other =
    ⊎_elim
    (λ (t : ltb p.count page_most ≡ true).
    omega (arith, column_byte p c s (ltb-true p.count page_most t) ∙ pick_false _ _ _ (ne_eqb c newline other)))
    (λ (f : ltb p.count page_most ≡ false).
    omega (arith, ap (λ (q : Page). q.column) (put_full p c (ltb-false p.count page_most f))))
    (either_way (ltb p.count page_most))

line_put : (p : Page) (words : List ℕ) (n : ℕ) → Stands p → OneLine words → p.column + (length words + n) ≤ width
    → Stands (put p words) × ((put p words).column + n ≤ width)
unfolding put
line_put p [] n s one room = (s, omega arith)
line_put p (c ∷ words) n s one room =
    line_put (put_byte p c) words n (byte_stands p c s (λ o. omega arith)) one.1
    (column_step p c (length words + n) s (omega arith) one.0)

-- words on a line, with room for n more bytes behind them
pub line_stands : (p : Page) (words : List ℕ) (n : ℕ) → Stands p → OneLine words → Left p (length words + n)
    → Stands (put p words) × Left (put p words) n
line_stands p words n s one (inl full) =
    let same : put p words ≡ p = put_full_all p words full in
    subst (λ (q : Page). Stands q × Left q n) (sym same) (s, inl full)
line_stands p words n s one (inr room) = let q : _ = line_put p words n s one room in (q.0, inr q.1)

-- on a new line all of it is left
pub feed_stands : (p : Page) → Stands p → Stands (put_byte p newline) × Left (put_byte p newline) width
feed_stands p s =
    let stands : Stands (put_byte p newline) = byte_stands p newline s (λ other. absurd (other refl)) in (
      stands,
      ⊎_elim
          (λ (t : ltb p.count page_most ≡ true).
          inr (omega (arith, column_byte p newline s (ltb-true p.count page_most t) ∙ pick_true _ _ _ (eq-eqb newline newline refl))))
          (λ (f : ltb p.count page_most ≡ false).
          let full : page_most ≤ p.count = ltb-false p.count page_most f in
          inl (omega (arith, ap (λ (q : Page). q.count) (put_full p newline full))))
          (either_way (ltb p.count page_most)),
    )
