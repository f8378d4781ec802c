use Rattle.std.proofs.Common.{ℕ, ◌≡◌, ap, subst, ◌∙◌, length, get_or, false, Result, Ok, Err}
use Rattle.base.specs.declared.Refusal.{Refusal}
use Rattle.seat.specs.declared.Five.{Five}
use Rattle.seat.specs.declared.Seat.{Seat}
use Rattle.records.specs.Events.{seat_count}
use Rattle.bench.specs.declared.Bench.{Bench}
use Rattle.bench.specs.Seats.{chair}
use Rattle.bench.specs.Tallies.{Tallied, asked_by, handed, tallied_by, tallies_of}
use Rattle.bench.specs.TalliedLaws.{handed_asked}
use Rattle.c_word.specs.Word.{Tells}
use Rattle.embed.proofs.Chairs.{held_is}
use Rattle.embed.proofs.hailstoat_tallies.Goals as goal

-- what was asked of the seat as the code takes it out
told : (b : Bench) (n : ℕ) (past : Seat) (r : Result Five Refusal) → length b.seats ≡ seat_count → r ≡ asked_by (get_or b.seats (chair n) past) n → handed r ≡ tallies_of b n
unfolding tallies_of
told b n past r full is = ap handed is ∙ handed_asked (get_or b.seats (chair n) past) n ∙ ap (λ (s : Seat). tallied_by s n) (held_is b n past full)

pub returns-in-Ok : goal.returns-in-Ok
unfolding handed
returns-in-Ok c =
    let full : length c.args.bench.now.seats ≡ seat_count = search in
    let is = told c.args.bench.now c.args.seat _ (Ok c.in-Ok.five) full c.in-Ok.ensures in
    (ap (λ (t : Tallied). t.five) is, subst (λ (t : Tallied). Tells c.word.result t.answer false) is c.word.ensures)

pub returns-in-Err : goal.returns-in-Err
unfolding handed
returns-in-Err c =
    let full : length c.args.bench.now.seats ≡ seat_count = search in
    let is = told c.args.bench.now c.args.seat _ (Err c.in-Err.refusal) full c.in-Err.ensures in
    (ap (λ (t : Tallied). t.five) is, subst (λ (t : Tallied). Tells c.refused.result t.answer false) is c.refused.ensures)
