-- What is kept of a line is its beginning, and that is enough to answer it.
use Rattle.std.specs.Prelude.{ℕ, suc, ◌+◌, ◌-◌, ◌≤◌, ◌<◌, true, false, List, [], ◌∷◌, ◌++◌, ◌≡◌, refl, eqb, ltb, leb, length, take, set, Result}
use Rattle.std.proofs.Common.{append_assoc, append-nil, inl, inr, ⊎_elim, sym, ap, subst, ◌∙◌, add-one, take_all, take-suc-set, length-take-le, ltb-true, ltb-false, lt-ltb, le-ltb, leb-true, leb-false, eqb-true}
use native.Mathlib.Omega.{arith}
use Rattle.std.proofs.Math.ListN.{length-set}
use Rattle.std.proofs.Math.Seq.{take-nil}
use Rattle.base.specs.PickLaws.{pick_true, pick_false, either_way}
use Rattle.setting_lines.specs.Reading.{NoLine, Reads}
use Rattle.setting_lines.proofs.LineLaws.{none_longer}
use Rattle.setting_lines.specs.declared.Setting.{Setting}
use Rattle.base.specs.declared.Refusal.{Refusal}
use Rattle.sheets.specs.Replies.{LineReply}
use Rattle.sheets.specs.Kept.{most, no_bytes, kept, line_after, line_behind}
use Rattle.sheets.specs.declared.Line.{Line}

-- ---- as far as there is room

record Room (l : Line) : Type 0 where
  size : length l.bytes ≡ most
  few : l.count ≤ most

after_full : (l : Line) (c : ℕ) → most ≤ l.count → line_after l c ≡ l
unfolding line_after
after_full l c full = pick_false _ _ _ (le-ltb l.count most full)

behind_full : (l : Line) (text : List ℕ) → most ≤ l.count → line_behind l text ≡ l
behind_full l [] full = refl
behind_full l (c ∷ text) full = rw (after_full l c full) (behind_full l text full)

module _ (l : Line) (c : ℕ) (h : Room l) (room : l.count < most) where
  more : Line
  more = record { bytes = set l.bytes l.count c; count = l.count + 1 }

  after_room : line_after l c ≡ more
  unfolding line_after more
  after_room = pick_true _ _ _ (lt-ltb l.count most room)

  room_more : Room more
  unfolding more
  room_more = record { size = length-set l.bytes l.count c ∙ h.size; few = omega arith }

  left : most - l.count ≡ suc (most - more.count)
  unfolding more
  left = omega arith

  kept_more : kept more ≡ kept l ++ (c ∷ [])
  unfolding more
  kept_more = rw (add-one l.count) (take-suc-set l.bytes l.count c (omega (arith, h.size)))

kept_behind : (l : Line) (text : List ℕ) → Room l → kept (line_behind l text) ≡ kept l ++ take (most - l.count) text
kept_behind l [] h = rw (take-nil {A = ℕ} (most - l.count)) (sym (append-nil (kept l)))
kept_behind l (c ∷ text) h =
    ⊎_elim
    (λ (t : ltb l.count most ≡ true).
    let room : l.count < most = ltb-true l.count most t in
    ap (λ (k : Line). kept (line_behind k text)) (after_room l c h room)
    ∙ kept_behind (more l c h room) text (room_more l c h room)
    ∙ ap (λ (k : List ℕ). k ++ take (most - (more l c h room).count) text) (kept_more l c h room)
    ∙ append_assoc (kept l) (c ∷ []) (take (most - (more l c h room).count) text)
    ∙ ap (λ (n : ℕ). kept l ++ take n (c ∷ text)) (sym (left l c h room)))
    (λ (f : ltb l.count most ≡ false).
    let full : most ≤ l.count = ltb-false l.count most f in
    let none : most - l.count ≡ 0 = omega arith in
    ap (λ (k : Line). kept (line_behind k text)) (after_full l c full)
    ∙ ap kept (behind_full l text full)
    ∙ sym (append-nil (kept l))
    ∙ ap (λ (n : ℕ). kept l ++ take n (c ∷ text)) (sym none))
    (either_way (ltb l.count most))

-- of a line its first 14 bytes are kept
pub kept_first : (text : List ℕ) → kept (line_behind no_bytes text) ≡ take most text
kept_first text = kept_behind no_bytes text (record { size = refl; few = omega arith })

-- so of one of at most 14 all are
pub kept_all : (text : List ℕ) → length text ≤ most → kept (line_behind no_bytes text) ≡ text
kept_all text few = kept_first text ∙ take_all most text few

-- a line is empty exactly if it has no byte
pub none_empty : eqb (line_behind no_bytes []).count 0 ≡ true
none_empty = refl

pub empty_none : (text : List ℕ) → eqb (line_behind no_bytes text).count 0 ≡ true → text ≡ []
empty_none [] e = refl
empty_none (c ∷ text) e =
    let zero : (line_behind no_bytes (c ∷ text)).count ≡ 0 = eqb-true _ 0 e in
    let none : [] ≡ take most (c ∷ text) =
    ap (λ (n : ℕ). take n (line_behind no_bytes (c ∷ text)).bytes) (sym zero) ∙ kept_first (c ∷ text) in
    absurd (omega (arith, ap length none))

-- ---- the answer of the whole line

module _ (text : List ℕ) (long : most < length text) where
  none_kept : NoLine (take most text)
  none_kept = none_longer (take most text) (omega (arith, length-take-le most text (omega arith)))

  pub long_as_kept : (clock : ℕ) (r : Result Setting Refusal) → Reads (take most text) clock r → Reads text clock r
  long_as_kept clock r (inl a) = absurd (none_kept a.rate a.shape a.rated a.sized a.is)
  long_as_kept clock r (inr o) = inr (record { other = none_longer text (omega arith); told = o.told })

  pub kept_as_long : (clock : ℕ) (r : Result Setting Refusal) → Reads text clock r → Reads (take most text) clock r
  kept_as_long clock r (inl a) = absurd (none_longer text (omega arith) a.rate a.shape a.rated a.sized a.is)
  kept_as_long clock r (inr o) = inr (record { other = none_kept; told = o.told })

module _ (text : List ℕ) (clock : ℕ) (r : Result Setting Refusal) where
  -- what is kept of a line is read as the whole of it
  pub whole_read : Reads (kept (line_behind no_bytes text)) clock r → Reads text clock r
  whole_read p =
      ⊎_elim
      (λ (t : leb (length text) most ≡ true). subst (λ (l : List ℕ). Reads l clock r) (kept_all text (leb-true _ _ t)) p)
      (λ (f : leb (length text) most ≡ false).
      long_as_kept text (leb-false _ _ f) clock r (subst (λ (l : List ℕ). Reads l clock r) (kept_first text) p))
      (either_way (leb (length text) most))

  pub read_whole : Reads text clock r → Reads (kept (line_behind no_bytes text)) clock r
  read_whole p =
      ⊎_elim
      (λ (t : leb (length text) most ≡ true). subst (λ (l : List ℕ). Reads l clock r) (sym (kept_all text (leb-true _ _ t))) p)
      (λ (f : leb (length text) most ≡ false).
      subst (λ (l : List ℕ). Reads l clock r) (sym (kept_first text)) (kept_as_long text (leb-false _ _ f) clock r p))
      (either_way (leb (length text) most))

-- so its answer is that of the whole line
module _ (text : List ℕ) (clock : ℕ) (d d' : List ℕ) (r : ℕ) where
  pub whole_reply : LineReply (kept (line_behind no_bytes text)) clock d d' r → LineReply text clock d d' r
  whole_reply p = record { setting = p.setting; read = whole_read text clock p.setting p.read; told = p.told }

  pub reply_whole : LineReply text clock d d' r → LineReply (kept (line_behind no_bytes text)) clock d d' r
  reply_whole p = record { setting = p.setting; read = read_whole text clock p.setting p.read; told = p.told }
