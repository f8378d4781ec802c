use Rattle.base.specs.Answers.{value_of}
use borrow.Author.Rules.{rules}
use Rattle.base.proofs.Answer.value.Goals as goal

pub returns-in-Byte : goal.returns-in-Byte
unfolding value_of
returns-in-Byte c = simp c.in-Byte.is

pub returns-in-Letter : goal.returns-in-Letter
unfolding value_of
returns-in-Letter c = simp c.in-Letter.is

pub returns-in-Done : goal.returns-in-Done
unfolding value_of
returns-in-Done c = simp c.in-Done.is

pub returns-in-Sent : goal.returns-in-Sent
unfolding value_of
returns-in-Sent c = simp c.in-Sent.is

pub returns-in-Idle : goal.returns-in-Idle
unfolding value_of
returns-in-Idle c = simp c.in-Idle.is

pub returns-in-Break : goal.returns-in-Break
unfolding value_of
returns-in-Break c = simp c.in-Break.is

pub returns-in-Vector : goal.returns-in-Vector
unfolding value_of
returns-in-Vector c = simp c.in-Vector.is

pub returns-in-Spurious : goal.returns-in-Spurious
unfolding value_of
returns-in-Spurious c = simp c.in-Spurious.is

pub returns-in-Place : goal.returns-in-Place
unfolding value_of
returns-in-Place c = simp c.in-Place.is

pub returns-in-Divisor : goal.returns-in-Divisor
unfolding value_of
returns-in-Divisor c = simp c.in-Divisor.is

pub returns-in-Refused : goal.returns-in-Refused
unfolding value_of
returns-in-Refused c = simp c.in-Refused.is
