use Rattle.std.proofs.Common.{◌≡◌, drop}
use Rattle.sheets.specs.Numbers.{no_numbers, numbers_behind}
use Rattle.sheets.proofs.words.read_clock.Given as goal

abbrev pub invariant-loop-c : goal.invariant-loop-c
invariant-loop-c l = numbers_behind no_numbers l.word ≡ numbers_behind l.numbers (drop l.c-index l.word)
