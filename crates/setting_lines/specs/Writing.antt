-- What writing a divisor and an LCR byte at a clock answers, and what it leaves in the buffer.
use Rattle.std.specs.Prelude.{ℕ, List, ◌++◌, ◌⊎◌, ◌≡◌, leb, length, drop, Result, Ok, Err}
use Rattle.base.specs.Pick.{pick}
use Rattle.base.specs.declared.Refusal.{Refusal}
use Rattle.base.specs.declared.Refusal.TheVariants.{NoSetting, NoRoom}
use Rattle.rates.specs.Rates.{rate_of}
use Rattle.setting_lines.specs.Fields.{Shape, Sized, line_of, lcr_of}

-- the length of the line that is written, 0 where it is refused
abbrev pub length_in : Result ℕ Refusal → ℕ
length_in (Ok n) = n
length_in (Err r) = 0

-- the length or the refusal, and the bytes of the lent buffer afterwards
pub record Left : Type 0 where
  pub written : Result ℕ Refusal
  pub buffer : List ℕ

abbrev pub left : Result ℕ Refusal → List ℕ → Left
left w d = record { written = w; buffer = d }

-- ticket 1: in a refusal too "bytes not written stay"
abbrev pub left_by : List ℕ → Refusal → Left
left_by d r = left (Err r) d

-- ticket 1: "then 12 for a lent buffer too short; bytes not written stay": a line at the start of the buffer d, with its length
abbrev pub put_into : List ℕ → List ℕ → Left
put_into d line =
    pick (leb (length line) (length d))
    (left (Ok (length line)) (line ++ drop (length line) d))
    (left_by d NoRoom)

-- ticket 1: "then 10 (also for a divisor not listed at the clock)": the line of the rate, where the list has one for the divisor
abbrev pub written_by : Result ℕ Refusal → (ℕ → List ℕ) → List ℕ → Left
written_by (Ok rate) line d = put_into d (line rate)
written_by (Err r) line d = left_by d r

-- ticket 1: "and written back from the two": the LCR byte is that of a shape, and the line that of the divisor's rate and this shape
pub record WrittenAs (clock divisor lcr : ℕ) (d : List ℕ) (l : Left) : Type 0 where
  pub shape : Shape
  pub sized : Sized shape
  pub is : lcr ≡ lcr_of shape
  pub told : l ≡ written_by (rate_of divisor clock) (λ rate. line_of rate shape) d

-- it is that of none
abbrev pub NoShape : ℕ → Type 0
NoShape lcr = (shape : Shape) → Sized shape → lcr ≡ lcr_of shape → ⊥

-- ticket 1: "11 for any other line or an LCR byte that no line gives"
pub record OtherByte (lcr : ℕ) (d : List ℕ) (l : Left) : Type 0 where
  pub other : NoShape lcr
  pub told : l ≡ left_by d NoSetting

-- a divisor and an LCR byte are written at a clock into the buffer d, which is d' then
abbrev pub Writes : ℕ → ℕ → ℕ → List ℕ → List ℕ → Result ℕ Refusal → Type 0
Writes clock divisor lcr d d' r = WrittenAs clock divisor lcr d (left r d') ⊎ OtherByte lcr d (left r d')
