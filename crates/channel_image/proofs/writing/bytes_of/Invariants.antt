use Rattle.std.proofs.Common.{◌≡◌}
use Rattle.std.proofs.Math.ListN.{replicate}
use Rattle.std.proofs.lemmas.List.Edits.{sets}
use Rattle.base.specs.ListLaws.{listed}
use Rattle.channel_image.specs.Written.{queued_byte}
use Rattle.channel_image.proofs.writing.bytes_of.Given as goal

abbrev pub invariant-loop-k : goal.invariant-loop-k
invariant-loop-k l = record {
  «data» : l.«data» ≡ sets (replicate 16 0) 0 (listed l.k (queued_byte (λ ch. ch.«data») l.q));
  marks : l.marks ≡ sets (replicate 16 0) 0 (listed l.k (queued_byte (λ ch. ch.marks) l.q));
}
