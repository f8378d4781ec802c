-- Lines of words, option by option.
use Prim.Native.Nat.{ℕ, suc, ◌<◌}
use mathlib.Core.Bool.{true, false}
use mathlib.Core.List.{List, [], ◌∷◌}
use mathlib.Core.Logic.{◌⊎◌, inl, inr, ⊎_elim}
use mathlib.Core.Path.{◌≡◌, refl, sym, ap, ◌∙◌}
use native.Mathlib.Omega.{arith}
use lib.ListN.{length, get_or, set}
use Rattle.std.specs.Prelude.{Option, Some, None}
use Rattle.std.specs.Option.{is_some}
use Rattle.base.specs.Pick.{pick}
use Rattle.base.specs.PickLaws.{pick_true, pick_false, pick_either, either_way, not_both}
use Rattle.text.specs.Quoted.{quoted}
use Rattle.options.specs.Moments.{same_bytes, moment_of}
use Rattle.options.specs.SameLaws.{same_only}
use Rattle.options.specs.Asked as asked
use Rattle.options.specs.Words.{option, moment, nothing, when, placed, no_words, awaiting, stopped, place_of, once, with_moment, with_when, dashed, Row, table, read_by, option_read, words_after, words_behind, whole}
use Rattle.options.specs.WordsRead.{between, Free, Taken, Reads, NoneOf, OptionsRead, NotUnderstood, TableFollowed}
use Rattle.options.specs.declared.Moment.{Moment}
use Rattle.options.specs.declared.Moment.TheVariants.{Behind, End}
use Rattle.options.specs.declared.Awaited.{Awaited}
use Rattle.options.specs.declared.Words.{Words}

-- a word that is another is not this one
other : (text word : List ℕ) → (word ≡ text → ⊥) → same_bytes word text ≡ false
other text word differs =
    ⊎_elim
    (λ (t : same_bytes word text ≡ true). absurd (differs (same_only word text t)))
    (λ (f : same_bytes word text ≡ false). f)
    (either_way (same_bytes word text))

-- each option begins with `-`
abbrev AllDashed : List Row → Type 0
AllDashed [] = Unit {0}
AllDashed (r ∷ rows) = (dashed (quoted r.word) ≡ true) × AllDashed rows

table_dashed : AllDashed table
unfolding dashed pick
table_dashed = (refl, (refl, (refl, (refl, (refl, (refl, (refl, tt)))))))

-- so a word that does not is none
plain : (rows : List Row) (name : List ℕ) → AllDashed rows → dashed name ≡ false → NoneOf rows name
plain [] name all f = tt
plain (r ∷ rows) name all f = ((λ e. not_both (ap dashed e ∙ all.0) f), plain rows name all.1 f)

module _ (s : Words) (place : ℕ) (word : List ℕ) where
  no_option : (rows : List Row) → NoneOf rows word → read_by rows s place word ≡ pick (dashed word) (stopped s place) (once asked.lesson option s place)
  no_option [] none = refl
  no_option (r ∷ rows) none = pick_false _ _ _ (other (quoted r.word) word none.0) ∙ no_option rows none.1

  name_read_lem : dashed word ≡ false → option_read s place word ≡ once asked.lesson option s place
  unfolding option_read
  name_read_lem f = no_option table (plain table word table_dashed f) ∙ pick_false _ _ _ f

-- ---- once

some_taken : (o : Option ℕ) → (o ≡ None → ⊥) → is_some o ≡ true
some_taken None taken = absurd (taken refl)
some_taken (Some place) taken = refl

module _ (m : Option Moment) (places : List (Option ℕ)) (what : ℕ) (next : Awaited) (place : ℕ) where
  asks : Free places what → once what next (between m places) place ≡ record { awaited = next; moment = m; asked = set places what (placed place); wrong = None }
  unfolding once place_of
  asks free = pick_false _ _ _ (ap is_some free)

  asks_twice : Taken places what → once what next (between m places) place ≡ stopped (between m places) place
  unfolding once place_of
  asks_twice taken = pick_true _ _ _ (some_taken _ taken)

module _ (m : Option Moment) (places : List (Option ℕ)) (place : ℕ) where
  save_read_lem : (count : ℕ) (when file : List ℕ) → moment_of when ≡ Some (Behind count)
      → Reads m places place (quoted "--save-at" ∷ when ∷ file ∷ []) (between (Some (Behind count)) places)
  unfolding words_after option_read same_bytes pick
  save_read_lem count when file e = rw e

  save_end_read : (when file : List ℕ) → moment_of when ≡ Some End → Reads m places place (quoted "--save-at" ∷ when ∷ file ∷ []) (between (Some End) places)
  unfolding words_after option_read same_bytes pick
  save_end_read when file e = rw e

  moment_stops : (when : List ℕ) → moment_of when ≡ None → Reads m places place (quoted "--save-at" ∷ when ∷ []) (stopped (between m places) (suc place))
  unfolding words_after option_read same_bytes pick
  moment_stops when e = rw e

  -- each of these is read by `once`, at this place or the next
  restore_once : (file : List ℕ) → Reads m places place (quoted "--restore" ∷ file ∷ []) (once asked.image option (between m places) (suc place))
  unfolding words_after option_read same_bytes pick once place_of
  restore_once file = refl

  timeline_once : (file : List ℕ) → Reads m places place (quoted "--vcd" ∷ file ∷ []) (once asked.timeline option (between m places) (suc place))
  unfolding words_after option_read same_bytes pick once place_of
  timeline_once file = refl

  tallies_once : Reads m places place (quoted "--tallies" ∷ []) (once asked.tallies option (between m places) place)
  unfolding words_after option_read same_bytes pick
  tallies_once = refl

  explain_once : Reads m places place (quoted "--explain" ∷ []) (once asked.explain option (between m places) place)
  unfolding words_after option_read same_bytes pick
  explain_once = refl

  show_once : Reads m places place (quoted "--show" ∷ []) (once asked.show when (between m places) place)
  unfolding words_after option_read same_bytes pick
  show_once = refl

  lesson_once : (name : List ℕ) → dashed name ≡ false → Reads m places place (name ∷ []) (once asked.lesson option (between m places) place)
  unfolding words_after pick
  lesson_once name f = name_read_lem (between m places) place name f

  named_once : (name : List ℕ) → Reads m places place (quoted "--" ∷ name ∷ []) (once asked.lesson option (between m places) (suc place))
  unfolding words_after option_read same_bytes pick once place_of
  named_once name = refl

  -- behind `--show` its moment is read
  show_read_lem : Free places asked.show → (word : List ℕ)
      → Reads m places place (quoted "--show" ∷ word ∷ []) (with_when (record { awaited = when; moment = m; asked = set places asked.show (placed place); wrong = None }) (suc place) word)
  unfolding words_after option_read same_bytes pick
  show_read_lem free word = rw (asks m places asked.show when place free)

  option_stops : (word : List ℕ) → dashed word ≡ true → NoneOf table word → words_after (between m places) place word ≡ stopped (between m places) place
  unfolding words_after option_read pick
  option_stops word t none = no_option (between m places) place word table none ∙ pick_true _ _ _ t

each_read : (m : Option Moment) (places : List (Option ℕ)) (place : ℕ) → Free places asked.show → Free (set places asked.show (placed place)) asked.each
    → Reads m places place (quoted "--show" ∷ quoted "each" ∷ []) (between m (set (set places asked.show (placed place)) asked.each (Some (suc place))))
unfolding with_when same_bytes pick once place_of
each_read m places place free never = show_read_lem m places place free (quoted "each") ∙ rw never

end_read : (m : Option Moment) (places : List (Option ℕ)) (place : ℕ) → Free places asked.show
    → Reads m places place (quoted "--show" ∷ quoted "end" ∷ []) (between m (set places asked.show (placed place)))
unfolding with_when same_bytes pick
end_read m places place free = show_read_lem m places place free (quoted "end")

pub options_read : OptionsRead
options_read = record {
  save = λ m places place. save_read_lem m places place;
  save_end = λ m places place. save_end_read m places place;
  restore = λ m places place file free. restore_once m places place file ∙ asks m places asked.image option (suc place) free;
  timeline = λ m places place file free. timeline_once m places place file ∙ asks m places asked.timeline option (suc place) free;
  tallies = λ m places place free. tallies_once m places place ∙ asks m places asked.tallies option place free;
  explain = λ m places place free. explain_once m places place ∙ asks m places asked.explain option place free;
  show_end = end_read;
  show_each = each_read;
  lesson = λ m places place name f free. lesson_once m places place name f ∙ asks m places asked.lesson option place free;
  named = λ m places place name free. named_once m places place name ∙ asks m places asked.lesson option (suc place) free;
}

-- ---- not understood

when_stops : (m : Option Moment) (places : List (Option ℕ)) (place : ℕ) (word : List ℕ) → Free places asked.show
    → (word ≡ quoted "each" → ⊥) → (word ≡ quoted "end" → ⊥)
    → Reads m places place (quoted "--show" ∷ word ∷ []) (stopped (between m (set places asked.show (placed place))) (suc place))
unfolding with_when
when_stops m places place word free each end =
    show_read_lem m places place free word ∙ pick_false _ _ _ (other (quoted "each") word each) ∙ pick_false _ _ _ (other (quoted "end") word end)

-- one that awaits nothing
abbrev over : Option Moment → List (Option ℕ) → Option ℕ → Words
over m places wrong = record { awaited = nothing; moment = m; asked = places; wrong = wrong }

over_stays : (m : Option Moment) (places : List (Option ℕ)) (wrong : Option ℕ) (place : ℕ) (words : List (List ℕ)) → words_behind (over m places wrong) place words ≡ over m places wrong
unfolding words_after pick
over_stays m places wrong place [] = refl
over_stays m places wrong place (word ∷ words) = over_stays m places wrong (suc place) words

stays : (s : Words) (place : ℕ) (words : List (List ℕ)) → s.awaited ≡ nothing → words_behind s place words ≡ s
stays s place words e =
    let same : s ≡ over s.moment s.asked s.wrong = λ i. record { awaited = e i; moment = s.moment; asked = s.asked; wrong = s.wrong } in
    ap (λ (t : Words). words_behind t place words) same ∙ over_stays s.moment s.asked s.wrong place words ∙ sym same

pub not_understood : NotUnderstood
not_understood = record {
  moment = λ m places place. moment_stops m places place;
  when = when_stops;
  restore = λ m places place file taken. restore_once m places place file ∙ asks_twice m places asked.image option (suc place) taken;
  timeline = λ m places place file taken. timeline_once m places place file ∙ asks_twice m places asked.timeline option (suc place) taken;
  tallies = λ m places place taken. tallies_once m places place ∙ asks_twice m places asked.tallies option place taken;
  explain = λ m places place taken. explain_once m places place ∙ asks_twice m places asked.explain option place taken;
  show = λ m places place taken. show_once m places place ∙ asks_twice m places asked.show when place taken;
  lesson = λ m places place name f taken. lesson_once m places place name f ∙ asks_twice m places asked.lesson option place taken;
  named = λ m places place name taken. named_once m places place name ∙ asks_twice m places asked.lesson option (suc place) taken;
  option = λ m places place. option_stops m places place;
  stays = stays;
}

-- ---- how many words follow

abbrev Ended : Words → Type 0
Ended s = (s.awaited ≡ option) ⊎ (s.awaited ≡ nothing)

-- the save is read, and its moment is next
abbrev save_read : Words
save_read = awaiting no_words moment

file_missing : (place : ℕ) (m : Option Moment) → whole (with_moment save_read place m) ≡ false
unfolding whole
file_missing place (Some m) = refl
file_missing place None = refl

save_ended : (place : ℕ) (m : Option Moment) (file : List ℕ) → Ended (words_after (with_moment save_read place m) (suc place) file)
unfolding words_after pick
save_ended place (Some m) file = inl refl
save_ended place None file = inr refl

save_fewer : (place : ℕ) (words : List (List ℕ)) → length words < 2 → whole (words_behind no_words place (quoted "--save-at" ∷ words)) ≡ false
unfolding words_after option_read same_bytes pick whole
save_fewer place [] h = refl
save_fewer place (when ∷ []) h = file_missing (suc place) (moment_of when)
save_fewer place (when ∷ file ∷ words) h = absurd (omega arith)

save_followed : (place : ℕ) (words : List (List ℕ)) → length words ≡ 2 → Ended (words_behind no_words place (quoted "--save-at" ∷ words))
unfolding words_after option_read same_bytes pick
save_followed place [] h = absurd (omega arith)
save_followed place (when ∷ []) h = absurd (omega arith)
save_followed place (when ∷ file ∷ []) h = save_ended (suc place) (moment_of when) file
save_followed place (when ∷ file ∷ other ∷ words) h = absurd (omega arith)

-- where no word follows, one is not missing
none_fewer : (text : List ℕ) (place : ℕ) (words : List (List ℕ)) → length words < 0 → whole (words_behind no_words place (text ∷ words)) ≡ false
none_fewer text place words h = absurd (omega arith)

-- one word follows: without it one is missing, and behind it the next option may stand
one_fewer : (text : List ℕ) → ((place : ℕ) → whole (words_after no_words place text) ≡ false)
    → (place : ℕ) (words : List (List ℕ)) → length words < 1 → whole (words_behind no_words place (text ∷ words)) ≡ false
one_fewer text missing place [] h = missing place
one_fewer text missing place (word ∷ words) h = absurd (omega arith)

one_followed : (text : List ℕ) → ((place : ℕ) (word : List ℕ) → Ended (words_after (words_after no_words place text) (suc place) word))
    → (place : ℕ) (words : List (List ℕ)) → length words ≡ 1 → Ended (words_behind no_words place (text ∷ words))
one_followed text ended place [] h = absurd (omega arith)
one_followed text ended place (word ∷ []) h = ended place word
one_followed text ended place (word ∷ other ∷ words) h = absurd (omega arith)

none_followed : (text : List ℕ) → ((place : ℕ) → Ended (words_after no_words place text))
    → (place : ℕ) (words : List (List ℕ)) → length words ≡ 0 → Ended (words_behind no_words place (text ∷ words))
none_followed text ended place [] h = ended place
none_followed text ended place (other ∷ words) h = absurd (omega arith)

restore_missing : (place : ℕ) → whole (words_after no_words place (quoted "--restore")) ≡ false
unfolding words_after option_read same_bytes pick whole
restore_missing place = refl

restore_ended : (place : ℕ) (file : List ℕ) → Ended (words_after (words_after no_words place (quoted "--restore")) (suc place) file)
unfolding words_after option_read once place_of same_bytes pick
restore_ended place file = inl refl

timeline_missing : (place : ℕ) → whole (words_after no_words place (quoted "--vcd")) ≡ false
unfolding words_after option_read same_bytes pick whole
timeline_missing place = refl

timeline_ended : (place : ℕ) (file : List ℕ) → Ended (words_after (words_after no_words place (quoted "--vcd")) (suc place) file)
unfolding words_after option_read once place_of same_bytes pick
timeline_ended place file = inl refl

dashes_missing : (place : ℕ) → whole (words_after no_words place (quoted "--")) ≡ false
unfolding words_after option_read same_bytes pick whole
dashes_missing place = refl

dashes_ended : (place : ℕ) (name : List ℕ) → Ended (words_after (words_after no_words place (quoted "--")) (suc place) name)
unfolding words_after option_read once place_of same_bytes pick
dashes_ended place name = inl refl

tallies_ended : (place : ℕ) → Ended (words_after no_words place (quoted "--tallies"))
unfolding words_after option_read once place_of same_bytes pick
tallies_ended place = inl refl

explain_ended : (place : ℕ) → Ended (words_after no_words place (quoted "--explain"))
unfolding words_after option_read once place_of same_bytes pick
explain_ended place = inl refl

show_missing : (place : ℕ) → whole (words_after no_words place (quoted "--show")) ≡ false
unfolding words_after option_read once place_of same_bytes pick whole
show_missing place = refl

-- the state is asked for, and its moment is next
abbrev show_read : ℕ → Words
show_read place = record { awaited = when; moment = None; asked = set no_words.asked asked.show (placed place); wrong = None }

when_ended : (place : ℕ) (word : List ℕ) → Ended (with_when (show_read place) (suc place) word)
unfolding with_when once place_of
when_ended place word =
    pick_either Ended (same_bytes word (quoted "each")) _ _
    (pick_either Ended (is_some (get_or (show_read place).asked asked.each None)) _ _ (inr refl) (inl refl))
    (pick_either Ended (same_bytes word (quoted "end")) _ _ (inl refl) (inr refl))

show_ended : (place : ℕ) (word : List ℕ) → Ended (words_after (words_after no_words place (quoted "--show")) (suc place) word)
unfolding words_after option_read once place_of same_bytes pick
show_ended place word = when_ended place word

pub table_followed : TableFollowed
table_followed = (
  (save_fewer, save_followed),
  (
    (one_fewer (quoted "--restore") restore_missing, one_followed (quoted "--restore") restore_ended),
    (
      (none_fewer (quoted "--tallies"), none_followed (quoted "--tallies") tallies_ended),
      (
        (none_fewer (quoted "--explain"), none_followed (quoted "--explain") explain_ended),
        (
          (one_fewer (quoted "--show") show_missing, one_followed (quoted "--show") show_ended),
          (
            (one_fewer (quoted "--vcd") timeline_missing, one_followed (quoted "--vcd") timeline_ended),
            ((one_fewer (quoted "--") dashes_missing, one_followed (quoted "--") dashes_ended), tt),
          ),
        ),
      ),
    ),
  ),
)
