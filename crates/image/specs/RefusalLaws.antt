-- What a restore is answered, case by case as the reader meets them.
use Rattle.std.specs.Prelude.{ℕ, ◌+◌, ◌*◌, ◌≤◌, ◌<◌, true, false, ◌||◌, List, [], ◌≡◌, ltb, length, take}
use Rattle.std.proofs.Math.Bool.{not}
use Rattle.std.proofs.Math.Path.{refl}
use Rattle.std.proofs.Common.{⊎_elim, ap, sym, ◌∙◌, arith, eq-eqb, lt-ltb, le-ltb, le-leb, ltb-true, ltb-false, get_or-take}
use Rattle.std.proofs.Math.Dec.{eqb}
use Rattle.std.proofs.lemmas.Bool.{not-true, not-false, lt-leb}
use Rattle.base.specs.declared.Answer.TheVariants.{Done, Refused}
use Rattle.base.specs.ListLaws.{listed}
use Rattle.base.specs.PickLaws.{pick_true, pick_false, both_hold, either_way}
use Rattle.base.specs.Refusals.{no_room_number, wrong_mark_number, unknown_version_number, no_such_bench_number, first_held}
use Rattle.base.specs.RefusalLaws.{none_held, held_behind}
use Rattle.bench.specs.declared.Bench.{Bench}
use Rattle.channel_image.specs.Places.{at}
use Rattle.image.specs.Layout.{header_length, length_in, version_of}
use Rattle.image.specs.Read.{bench_from}
use Rattle.image.specs.Refusals.{marked, known, header_grounds, body_grounds, image_good, refusal, restored}
use Rattle.image.specs.Written.{newest}

-- the mark and the version stand in the first five bytes
pub marked_first : (p : List ℕ) → marked (listed header_length (at p)) ≡ marked p
unfolding marked
marked_first p = refl

pub version_first : (p : List ℕ) → version_of (listed header_length (at p)) ≡ version_of p
unfolding version_of
version_first p = refl

module _ (p h : List ℕ) (first : h ≡ take header_length p) where
  at_first : (k : ℕ) → k < header_length → at h k ≡ at p k
  at_first k below = ap (λ (l : List ℕ). at l k) first ∙ get_or-take header_length p k 0 below

  pub marked_read : marked p ≡ marked h
  unfolding marked
  marked_read = rw (at_first 0 (omega arith), at_first 1 (omega arith), at_first 2 (omega arith))

module _ (p h : List ℕ) (version : ℕ) (first : h ≡ take header_length p) where
  pub version_read_lem : version ≡ at h 3 + at h 4 * 256 → version ≡ version_of p
  unfolding version_of
  version_read_lem is = omega (arith, is, at_first p h first 3 (omega arith), at_first p h first 4 (omega arith))

-- a version that is read, and one that is not
pub known_unless : (version : ℕ) → known version ≡ not (ltb version 1 || ltb newest version)
known_unless version =
    ⊎_elim
    (λ (h : ltb version 1 ≡ true). rw (h, lt-leb 1 version (ltb-true _ _ h)))
    (λ (h : ltb version 1 ≡ false).
    ⊎_elim (λ (g : ltb newest version ≡ true). rw (h, g, le-leb 1 version (ltb-false _ _ h), lt-leb version newest (ltb-true _ _ g)))
    (λ (g : ltb newest version ≡ false). rw (h, g, le-leb 1 version (ltb-false _ _ h), le-leb version newest (ltb-false _ _ g)))
    (either_way (ltb newest version)))
    (either_way (ltb version 1))

-- ---- the header

module _ (p : List ℕ) where
  pub header_short : length p < header_length → first_held (header_grounds p) ≡ no_room_number
  unfolding first_held
  header_short short = pick_true _ _ _ (lt-ltb _ _ short)

  module _ (five : header_length ≤ length p) where
    pub header_unmarked : marked p ≡ false → first_held (header_grounds p) ≡ wrong_mark_number
    unfolding first_held
    header_unmarked none = pick_false _ _ _ (le-ltb _ _ five) ∙ pick_true _ _ _ (ap not none)

    module _ (mark : marked p ≡ true) where
      pub header_unknown : known (version_of p) ≡ false → first_held (header_grounds p) ≡ unknown_version_number
      unfolding first_held
      header_unknown none = pick_false _ _ _ (le-ltb _ _ five) ∙ pick_false _ _ _ (ap not mark) ∙ pick_true _ _ _ (ap not none)

      module _ (version : known (version_of p) ≡ true) where
        pub header_cut : length p < length_in (version_of p) → first_held (header_grounds p) ≡ no_room_number
        unfolding first_held
        header_cut cut =
            pick_false _ _ _ (le-ltb _ _ five) ∙ pick_false _ _ _ (ap not mark) ∙ pick_false _ _ _ (ap not version) ∙ pick_true _ _ _ (lt-ltb _ _ cut)

        pub header_taken : length_in (version_of p) ≤ length p → first_held (header_grounds p) ≡ 0
        unfolding first_held
        header_taken long =
            pick_false _ _ _ (le-ltb _ _ five) ∙ pick_false _ _ _ (ap not mark) ∙ pick_false _ _ _ (ap not version) ∙ pick_false _ _ _ (le-ltb _ _ long)

-- a header that is taken: all of it is as it must be
pub record Header (p : List ℕ) : Type 0 where
  pub mark : marked p ≡ true
  pub version : known (version_of p) ≡ true
  pub long : length_in (version_of p) ≤ length p

pub header_facts : (p : List ℕ) → first_held (header_grounds p) ≡ 0 → Header p
header_facts p none =
    let all = sym (none_held (header_grounds p) refl) ∙ eq-eqb _ 0 none in
    let three = (both_hold (not (ltb (length p) header_length)) _ all).1 in
    let two = both_hold (not (not (marked p))) _ three in
    let one = both_hold (not (not (known (version_of p)))) _ two.1 in
    let last = both_hold (not (ltb (length p) (length_in (version_of p)))) true one.1 in
    record {
      mark = not-false _ (not-true _ two.0);
      version = not-false _ (not-true _ one.0);
      long = ltb-false _ _ (not-true _ last.0);
    }

-- ---- the whole

-- what the header is refused for comes first
pub refusal_first : (p : List ℕ) → eqb (first_held (header_grounds p)) 0 ≡ false → refusal p ≡ first_held (header_grounds p)
unfolding refusal
refusal_first p some = held_behind (header_grounds p) (body_grounds p) refl ∙ pick_false _ _ _ some

module _ (b : Bench) (p : List ℕ) where
  pub restored_refused : eqb (first_held (header_grounds p)) 0 ≡ false
      → restored b p ≡ record { bench = b; answer = Refused (first_held (header_grounds p)) }
  unfolding restored
  restored_refused some =
      let number : refusal p ≡ first_held (header_grounds p) = refusal_first p some in
      pick_false _ _ _ (ap (λ (n : ℕ). eqb n 0) number ∙ some) ∙ (λ i. record { bench = b; answer = Refused (number i) })

  module _ (taken : first_held (header_grounds p) ≡ 0) where
    behind : refusal p ≡ first_held (body_grounds p)
    unfolding refusal
    behind = held_behind (header_grounds p) (body_grounds p) refl ∙ pick_true _ _ _ (eq-eqb _ 0 taken)

    pub refusal_good : image_good p ≡ true → refusal p ≡ 0
    unfolding first_held
    refusal_good good = behind ∙ pick_false _ _ 0 (ap not good)

    pub refusal_bad : image_good p ≡ false → refusal p ≡ no_such_bench_number
    unfolding first_held
    refusal_bad bad = behind ∙ pick_true _ _ 0 (ap not bad)

    pub restored_good : image_good p ≡ true → restored b p ≡ record { bench = bench_from p; answer = Done }
    unfolding restored
    restored_good good = pick_true _ _ _ (eq-eqb _ 0 (refusal_good good))

    pub restored_bad : image_good p ≡ false → restored b p ≡ record { bench = b; answer = Refused no_such_bench_number }
    unfolding restored
    restored_bad bad =
        let number = refusal_bad bad in
        pick_false _ _ _ (ap (λ (n : ℕ). eqb n 0) number) ∙ (λ i. record { bench = b; answer = Refused (number i) })

-- a place past the end: there is nothing to read
pub restored_none : (b : Bench) → restored b [] ≡ record { bench = b; answer = Refused no_room_number }
restored_none b =
    let number = header_short [] (omega arith) in
    restored_refused b [] (ap (λ (n : ℕ). eqb n 0) number) ∙ (λ i. record { bench = b; answer = Refused (number i) })
