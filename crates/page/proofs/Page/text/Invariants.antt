use Rattle.std.proofs.Common.{◌≡◌, drop}
use Rattle.page.specs.Pages.{put}
use Rattle.page.proofs.Page.text.Given as goal

abbrev pub invariant-loop-c : goal.invariant-loop-c
invariant-loop-c l = put l.self (drop l.c-index l.words) ≡ put l.initial.self l.words
