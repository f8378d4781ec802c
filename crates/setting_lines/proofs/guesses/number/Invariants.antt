use Rattle.std.proofs.Common.{◌≡◌, ◌+◌, ◌*◌, ◌≤◌, ◌^◌, drop}
use Rattle.text.proofs.FormLaws.{denoted}
use Rattle.setting_lines.proofs.guesses.number.Given as goal

-- what is left denotes, behind the number so far, what the whole front does; and the number stays small enough
abbrev pub invariant-loop-c : goal.invariant-loop-c
invariant-loop-c l = (l.n + 256 ≤ 256 * 10 ^ l.c-index) × (denoted 0 l.front ≡ denoted l.n (drop l.c-index l.front))
