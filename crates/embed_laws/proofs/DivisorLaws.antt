-- What the contract of the divisor list for C requires, told by what the word shows.
use Prim.Native.Nat.{ℕ, ◌<◌, ◌≤◌}
use mathlib.Core.List.{Memᴰ}
use mathlib.Core.Path.{◌≡◌, ap, sym, ◌∙◌}
use lib.ListN.{get_or}
use Rattle.base.specs.Answers.{refusal_of, value_of}
use Rattle.rates.specs.Rates.{divisor_of}
use Rattle.rates.proofs.RatesLaws.{clock_refused}
use Rattle.rates.proofs.ListedLaws.{rates, shown, no_other_rate}
use Rattle.bench.specs.FrameLaws.{mapped_at}
use Rattle.c_word.specs.Word.{answer_in, refusal_in}
use Rattle.embed.proofs.hailstoat_divisor.Reads as divisor

-- the divisor list: at each of document 01's rates the word shows what the room `rates` shows, row by row, and any other rate is refused
pub divisor_word : (κ e : _) (i clock r : ℕ) → i < 18 → divisor.Post κ (get_or rates i 0, (clock, tt)) r e → answer_in r ≡ get_or (shown clock) i 0
divisor_word κ e i clock r listed p = p.1.answer ∙ sym (mapped_at (λ rate. value_of (divisor_of rate clock)) rates i 0 0 listed)

pub divisor_word_refused : (κ e : _) (rate clock r : ℕ) → (Memᴰ rate rates → ⊥) → divisor.Post κ (rate, (clock, tt)) r e
    → (refusal_in r ≡ 10) × (answer_in r ≡ 0xFFF)
unfolding refusal_of value_of
divisor_word_refused κ e rate clock r other p =
    (p.1.refusal ∙ ap refusal_of (no_other_rate rate clock other), p.1.answer ∙ ap value_of (no_other_rate rate clock other))

-- no clock above 2 is taken for one that is
pub divisor_word_clock : (κ e : _) (rate clock r : ℕ) → 3 ≤ clock → divisor.Post κ (rate, (clock, tt)) r e → (refusal_in r ≡ 10) × (answer_in r ≡ 0xFFF)
unfolding refusal_of value_of
divisor_word_clock κ e rate clock r above p =
    (p.1.refusal ∙ ap refusal_of (clock_refused rate clock above), p.1.answer ∙ ap value_of (clock_refused rate clock above))
