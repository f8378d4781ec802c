use Rattle.std.proofs.Common.{ap, ap₂, ◌∙◌, ◌≡◌, refl, List, ℕ, arith}
use Rattle.std.proofs.Math.ListN.{set, replicate}
use Rattle.std.proofs.lemmas.List.Edits.{sets}
use Rattle.base.specs.ListLaws.{listed}
use Rattle.base.specs.StoreLaws.{listed_stored}
use Rattle.channel_image.specs.Written.{queued_byte}
use Rattle.channel_image.proofs.writing.bytes_of.Goals as goal

pub loop-k-init : goal.loop-k-init
loop-k-init c = record { «data» = refl; marks = refl }

pub loop-k-preserved : goal.loop-k-preserved
loop-k-preserved c =
    let q = c.args.q in
    let k = c.loop-k.k in
    let before = c.loop-k.invariant in record {
      «data» = ap₂ (λ (l : List ℕ) (x : ℕ). set l k x) before.«data» c.pick_byte.ensures ∙ listed_stored k (queued_byte (λ ch. ch.«data») q) (replicate 16 0);
      marks = ap₂ (λ (l : List ℕ) (x : ℕ). set l k x) before.marks c.pick_byte-in-loop-k.ensures ∙ listed_stored k (queued_byte (λ ch. ch.marks) q) (replicate 16 0);
    }
