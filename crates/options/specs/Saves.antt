-- Which saves are due where a run stands, and how far it may go before the next, by the words of the program:
--  1. A save is due exactly where the run stands behind as many records as its word says, or at the end if it says so.
--  2. At the end a save is missed whose record the run did not come to.
use Rattle.std.specs.Prelude.{ℕ, eqb, ltb, Option, Some, None}
use Rattle.base.specs.Pick.{pick}
use Rattle.options.specs.declared.Moment.{Moment}
use Rattle.options.specs.declared.Moment.TheVariants as moment
use Rattle.options.specs.declared.Now.{Now}
use Rattle.options.specs.declared.Now.TheVariants as stands
use Rattle.options.specs.declared.Due.{Due}
use Rattle.options.specs.declared.Due.TheVariants.{No, Save, Missed}
use Rattle.options.specs.declared.Awaited.{Awaited}
use Rattle.options.specs.declared.Awaited.TheVariants as awaited
use Rattle.options.specs.declared.Words.{Words}

-- a save at a moment, where the run stands behind n records
abbrev pub due_behind : Moment → ℕ → Due
due_behind (moment.Behind count) n = pick (eqb count n) Save No
due_behind moment.End n = No

-- and where it ends with n behind it
abbrev pub due_end : Moment → ℕ → Due
due_end (moment.Behind count) n = pick (ltb n count) Missed No
due_end moment.End n = Save

abbrev pub due_at : Moment → Now → Due
due_at m (stands.Behind n) = due_behind m n
due_at m (stands.End n) = due_end m n

-- the moment of a save whose file is the next word
abbrev pub moment_next : Awaited → Option Moment → Option Moment
moment_next awaited.File m = m
moment_next awaited.Word m = None
moment_next awaited.Moment m = None
moment_next awaited.Image m = None
moment_next awaited.Lesson m = None
moment_next awaited.When m = None
moment_next awaited.Timeline m = None
moment_next awaited.Nothing m = None

unfoldable pub save_next : Words → Option Moment
save_next s = moment_next s.awaited s.moment

-- where there is one
abbrev pub due_by : Option Moment → Now → Due
due_by None now = No
due_by (Some m) now = due_at m now

unfoldable pub due_of : Words → Now → Due
due_of s now = due_by (save_next s) now

-- ---- how many records may be behind a run before it stops for a save

-- a run that stands behind `from` records and was to stop behind `most`: a save that is due between the two stops it sooner
unfoldable pub stop_behind : ℕ → ℕ → ℕ → ℕ
stop_behind count from most = pick (ltb from count) (pick (ltb count most) count most) most

abbrev pub stop_at : Moment → ℕ → ℕ → ℕ
stop_at (moment.Behind count) from most = stop_behind count from most
stop_at moment.End from most = most

abbrev pub stop_by : Option Moment → ℕ → ℕ → ℕ
stop_by None from most = most
stop_by (Some m) from most = stop_at m from most

unfoldable pub stop_of : Words → ℕ → ℕ → ℕ
stop_of s from most = stop_by (save_next s) from most
