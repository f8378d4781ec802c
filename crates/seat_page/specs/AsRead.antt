-- LSR, IIR and MSR are told as a read would tell them: what a read of the register answers, whatever the channel is.
use Rattle.std.specs.Prelude.{[], ◌∷◌, ◌≡◌}
use Rattle.base.specs.Answers.{value_of}
use Rattle.registers.specs.declared.Register.TheVariants.{IirFcr, Lsr, Msr}
use Rattle.names.specs.Words.{iir_words, lsr_said, msr_said}
use Rattle.channel.specs.declared.Channel.{Channel}
use Rattle.channel.specs.Effects.{answer_at}
use Rattle.seat_page.specs.SeatPages.{read_pieces}

abbrev pub AsRead : Type 0
AsRead =
    (c : Channel)
    → read_pieces c
    ≡ lsr_said (value_of (answer_at c Lsr)) ∷ iir_words (value_of (answer_at c IirFcr)) ∷ msr_said (value_of (answer_at c Msr)) ∷ []
