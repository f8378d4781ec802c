-- What a run of one controller goes through, named once: to unfold `laid_open` is to unfold all of it.
use Prim.Native.Nat.{ℕ}
use Rattle.base.specs.Pick as picks
use Rattle.base.specs.Bits as bits
use Rattle.base.specs.Answers as answers
use Rattle.base.specs.Refusals as first
use Rattle.rank.specs.Rank as rank
use Rattle.controller.specs.Turns as turns
use Rattle.controller.specs.Words as commands
use Rattle.controller.specs.Refusals as refusing
use Rattle.controller.specs.Steps as controller
use Rattle.turn.specs.Waiting as waiting

unfoldable pub of_base : ℕ
unfolding picks.pick bits.bit bits.digit bits.bits answers.refusal_of answers.value_of first.first_of first.refusal_by
of_base = 0

unfoldable pub of_rank : ℕ
unfolding rank.before rank.above_every rank.find rank.first_place
of_rank = 0

unfoldable pub of_turns : ℕ
unfolding turns.settled turns.requests turns.asks turns.hinders turns.grantable turns.output_of turns.found
    turns.granted turns.taken turns.grant turns.acknowledged turns.asking turns.hindering
of_turns = 0

unfoldable pub of_words : ℕ
unfolding commands.icw1 commands.icw2 commands.icw4 commands.ended commands.made_last commands.served commands.plain_end commands.rotating_end
    commands.command commands.ocw2 commands.ocw3 commands.written0 commands.written1 commands.written commands.shown
of_words = 0

unfoldable pub of_controller : ℕ
unfolding refusing.grounds refusing.refusal refusing.place_refusal controller.step controller.placed
of_controller = 0

unfoldable pub of_waiting : ℕ
unfolding waiting.word0 waiting.word
of_waiting = 0

unfoldable pub laid_open : ℕ
unfolding of_base of_rank of_turns of_words of_controller of_waiting
laid_open = 0
