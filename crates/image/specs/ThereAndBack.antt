-- A bench saved and restored, and an image restored and saved.
use Rattle.std.specs.Prelude.{ℕ, ◌+◌, ◌*◌, ◌<◌, ◌≤◌, true, List, [], ◌∷◌, ◌++◌, ◌≡◌, length, get_or, take, drop, replicate}
use Rattle.base.specs.declared.Answer.{Answer}
use Rattle.base.specs.declared.Answer.TheVariants.{Done, Refused}
use Rattle.base.specs.Answers.{refusal_of}
use Rattle.base.specs.Bits.{digit}
use Rattle.seat.specs.Seats.{no_seat}
use Rattle.controller.specs.Steps.{placed}
use Rattle.records.specs.Events.{Record}
use Rattle.bench.specs.declared.Bench.{Bench}
use Rattle.bench.specs.Runs.{outcomes}
use Rattle.bench.specs.Seats.{lines, power_up}
use Rattle.bench.specs.Valid.{valid}
use Rattle.channel_image.specs.Fields.{byte_at}
use Rattle.seat_image.specs.Read.{new_record}
use Rattle.seat_image.specs.Written.{record_of}
use Rattle.image.specs.Items.{Item, item_outcomes, after_items}
use Rattle.image.specs.Layout.{length_in, place_in, version_of}
use Rattle.image.specs.Refusals.{refusal, restored}
use Rattle.image.specs.Written.{newest, image_of, Saves}

-- ticket 2: "House format: the three letters `BEN`, a 16-bit version (1, low byte first), the controller, then eight seat records of one fixed
-- length. Each seat record goes into its own stretch of the buffer": of every bench, valid or not
pub record Stretches (b : Bench) : Type 0 where
  pub whole : length (image_of b) ≡ 704
  pub header : take 5 (image_of b) ≡ 0x42 ∷ 0x45 ∷ 0x4E ∷ 2 ∷ 0 ∷ []
  pub stage_5 : byte_at (image_of b) 5 ≡ b.controller.setup.stage
  pub level_6 : byte_at (image_of b) 6 ≡ digit b.controller.setup.level
  pub base_7 : byte_at (image_of b) 7 ≡ b.controller.setup.base
  pub first_8 : byte_at (image_of b) 8 ≡ b.controller.operation.first
  pub mask_9 : byte_at (image_of b) 9 ≡ b.controller.operation.mask
  pub service_10 : byte_at (image_of b) 10 ≡ b.controller.operation.service
  pub special_11 : byte_at (image_of b) 11 ≡ digit b.controller.operation.special
  pub automatic_12 : byte_at (image_of b) 12 ≡ digit b.controller.setup.automatic
  pub rotation_13 : byte_at (image_of b) 13 ≡ digit b.controller.operation.rotation
  pub selected_14 : byte_at (image_of b) 14 ≡ digit b.controller.operation.selected
  pub latches_15 : byte_at (image_of b) 15 ≡ b.controller.lines.latches
  pub seats : (n : ℕ) → n < 8 → take 86 (drop (16 + 86 * n) (image_of b)) ≡ record_of (get_or b.seats n no_seat)

abbrev pub Placed : Type 0
Placed = (b : Bench) → Stretches b

-- power-up is `BEN`, 2, 0 and nothing but zeros
abbrev pub PowerUpImage : Type 0
PowerUpImage = image_of power_up ≡ 0x42 ∷ 0x45 ∷ 0x4E ∷ 2 ∷ 0 ∷ replicate 699 0

-- ticket 2: "read it back next week": a valid bench that was saved is restored from the same place, over whatever bench
abbrev pub ReadBack : Type 0
ReadBack =
    (b before : Bench) (at : ℕ) (l l' : List ℕ) (r : Answer) → valid b ≡ true → Saves b at l l' r → refusal_of r ≡ 0
    → restored before (drop at l') ≡ record { bench = b; answer = Done }

-- ticket 2: "A bench read back answers every later event as the saved one.": any items, record for record, and what is asked of its controller
pub record Answers (b before : Bench) (at : ℕ) (l : List ℕ) : Type 0 where
  pub items : (is : List Item) → item_outcomes (restored before (drop at l)).bench is ≡ item_outcomes b is
  pub records : (rs : List Record) → outcomes (restored before (drop at l)).bench rs ≡ outcomes b rs
  pub places : (is : List Item) (n : ℕ)
      → placed (after_items (restored before (drop at l)).bench is).controller n ≡ placed (after_items b is).controller n

abbrev pub AnswersAlike : Type 0
AnswersAlike =
    (b before : Bench) (at : ℕ) (l l' : List ℕ) (r : Answer) → valid b ≡ true → Saves b at l l' r → refusal_of r ≡ 0 → Answers b before at l'

-- an image of the newest version that is restored is saved as the same bytes; with `ReadBack`, images and valid benches are one to one
abbrev pub WrittenBack : Type 0
WrittenBack =
    (p : List ℕ) (before : Bench) (at : ℕ) (l l' : List ℕ) (r : Answer) → refusal p ≡ 0 → version_of p ≡ newest
    → ((k : ℕ) → byte_at p k < 256) → Saves (restored before p).bench at l l' r → refusal_of r ≡ 0 → take 704 (drop at l') ≡ take 704 p

-- where the parts of each version stand
pub record Versions : Type 0 where
  pub length_1 : length_in 1 ≡ 544
  pub length_2 : length_in 2 ≡ 704
  pub place_1 : (n : ℕ) → place_in 1 n ≡ 16 + 66 * n
  pub place_2 : (n : ℕ) → place_in 2 n ≡ 16 + 86 * n

-- ticket 8: "version 1 reads with arrived equal to what is queued": an image of version 1 that is restored is saved as version 2, its controller as
-- it was and each record as it reads there
abbrev pub OlderWrittenBack : Type 0
OlderWrittenBack =
    (p : List ℕ) (before : Bench) (at : ℕ) (l l' : List ℕ) (r : Answer) → refusal p ≡ 0 → version_of p ≡ 1
    → Saves (restored before p).bench at l l' r → refusal_of r ≡ 0
    → (take 16 (drop at l') ≡ 0x42 ∷ 0x45 ∷ 0x4E ∷ 2 ∷ 0 ∷ take 11 (drop 5 p))
    × ((n : ℕ) → n < 8 → take 86 (drop (16 + 86 * n) (drop at l')) ≡ new_record 1 (drop (16 + 66 * n) p))

abbrev pub OneToOne : Type 0
OneToOne = (b c : Bench) → valid b ≡ true → valid c ≡ true → image_of b ≡ image_of c → b ≡ c

-- ---- what is left alone

-- ticket 2: "bytes outside the image stay"; "each leaves buffer and bench untouched"
pub record Outside (b : Bench) (at : ℕ) (l l' : List ℕ) (r : Answer) : Type 0 where
  pub before : take at l' ≡ take at l
  pub behind : drop (at + 704) l' ≡ drop (at + 704) l
  pub as_long : length l' ≡ length l
  pub refused : refusal_of r ≡ 12 → l' ≡ l

abbrev pub Stays : Type 0
Stays = (b : Bench) (at : ℕ) (l l' : List ℕ) (r : Answer) → Saves b at l l' r → Outside b at l l' r

pub record Untouched : Type 0 where
  -- a refused restore leaves the bench, and tells the number
  pub bench : (b : Bench) (p : List ℕ) → (refusal p ≡ 0 → ⊥) → restored b p ≡ record { bench = b; answer = Refused (refusal p) }
  -- one that is taken leaves nothing of it
  pub old : (b c : Bench) (p : List ℕ) → refusal p ≡ 0 → restored b p ≡ restored c p
  -- what stands behind the image is not looked at
  pub behind : (b : Bench) (p rest : List ℕ) → length_in (version_of p) ≤ length p → restored b (p ++ rest) ≡ restored b p

-- a restore sets no edge: the lines are those of the seats just read, and the latches are the image's byte
abbrev pub NoEdge : Type 0
NoEdge =
    (b : Bench) (p : List ℕ) → refusal p ≡ 0
    → (restored b p).bench.controller.lines ≡ record { levels = lines (restored b p).bench.seats; latches = byte_at p 15 }

-- ---- what is reached

pub record Reached : Type 0 where
  -- what is taken is a valid bench, whatever it is read over
  pub taken : (b : Bench) (p : List ℕ) → refusal p ≡ 0 → valid (restored b p).bench ≡ true
  -- and so is every bench that power-up, records and restores can make
  pub all : (is : List Item) → valid (after_items power_up is) ≡ true
