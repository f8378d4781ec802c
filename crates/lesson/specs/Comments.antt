-- Where the comment of a record stands in a text, by docs/TELLING.md: it follows the last digit of its record on the same line, with nothing but
-- white space between, so that of several records on a line the last one has it. One on a line of its own belongs to no record.
use Rattle.std.specs.Prelude.{ℕ, suc, ◌+◌, ◌-◌, Bool, true, false, not, ◌||◌, List, [], ◌∷◌, ltb, eqb, length, drop}
use Rattle.std.proofs.Math.Seq.{slice}
use Rattle.base.specs.Pick.{pick}
use Rattle.lesson.specs.Text.{space, tab, carriage_return, line_feed, number_sign, is_digit, commented}
use Rattle.lesson.specs.Cause.{character_at}
use Rattle.lesson.specs.declared.Comment.{Comment}

-- a place of the text; any behind its end is its end
unfoldable pub in_text : List ℕ → ℕ → ℕ
in_text text at = pick (ltb (length text) at) (length text) at

-- ---- right behind so many digits

-- how many digits are due behind a character, given whether a comment has it
unfoldable pub due_behind : Bool → ℕ → ℕ → ℕ
due_behind comment c due = pick comment due (pick (is_digit c) (due - 1) due)

-- how many characters a text has up to right behind the digits that are due, given whether it begins within a comment; all of them, where it has
-- fewer digits
unfoldable pub reach : Bool → ℕ → List ℕ → ℕ
reach comment due [] = 0
reach comment due (c ∷ rest) = pick (eqb due 0) 0 (suc (reach (commented comment c) (due_behind (commented comment c) c due) rest))

-- the place right behind them, from a place on
unfoldable pub reached : Bool → ℕ → List ℕ → ℕ → ℕ
reached comment due text at = at + reach comment due (drop at text)

-- the place right behind so many more digits, from a place that no comment has
unfoldable pub place_after : List ℕ → ℕ → ℕ → ℕ
place_after text from digits = reached false digits text (in_text text from)

-- ---- the comment behind a place

-- white space that ends no line: "on the same line, with nothing but white space between"
abbrev pub gap : ℕ → Bool
gap c = eqb c space || eqb c tab || eqb c carriage_return

-- "ends before the first carriage return or line feed"
abbrev pub closes : ℕ → Bool
closes c = eqb c carriage_return || eqb c line_feed

-- whether a character goes on with what stands there: with the comment, or with the white space before it
unfoldable pub goes_on : Bool → ℕ → Bool
goes_on comment c = pick comment (not (closes c)) (gap c)

-- how many characters of a text's start do so
unfoldable pub run : Bool → List ℕ → ℕ
run comment [] = 0
run comment (c ∷ rest) = pick (goes_on comment c) (suc (run comment rest)) 0

-- where what begins at a place ends
unfoldable pub run_end : Bool → List ℕ → ℕ → ℕ
run_end comment text at = at + run comment (drop at text)

-- "It begins with its `#`": where the comment behind a place begins, if there is one
unfoldable pub comment_from : List ℕ → ℕ → ℕ
comment_from text at = run_end false text (in_text text at)

unfoldable pub comment_at : List ℕ → ℕ → Comment
comment_at text at =
    record {
      from = comment_from text at;
      end = pick (eqb (character_at text (comment_from text at)) number_sign) (run_end true text (comment_from text at)) (comment_from text at);
    }

-- the comment itself; nothing, where there is none
unfoldable pub comment_of : List ℕ → ℕ → List ℕ
comment_of text at = slice (comment_at text at).from (comment_at text at).end text
