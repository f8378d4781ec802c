-- What is told of three registers is what a read of them answers.
use mathlib.Core.Path.{refl}
use Rattle.base.specs.Answers.{value_of}
use Rattle.channel.specs.Effects.{answer_at}
use Rattle.seat_page.specs.SeatPages.{read_pieces}
use Rattle.seat_page.specs.AsRead.{AsRead}

pub as_read : AsRead
unfolding read_pieces answer_at value_of
as_read c = refl
