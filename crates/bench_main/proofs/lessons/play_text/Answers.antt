use Rattle.std.proofs.Common.{arith, sym}
use lib.Seq.{length-take-le}
use Rattle.lesson.specs.LessonLaws.{bytes_fit}
use Rattle.bench_main.proofs.lessons.play_text.Goals as goal

pub slice_bounds-records-end : goal.slice_bounds-records-end
slice_bounds-records-end c =
    let fit : _ = bytes_fit _ _ _ _ c.in-Bytes.ensures in
    omega (arith, fit, c.read.auto)

pub slice_bounds-play-end : goal.slice_bounds-play-end
slice_bounds-play-end c =
    let fit : _ = bytes_fit _ _ _ _ c.in-Bytes.ensures in
    sym (length-take-le _ _ (omega (arith, fit, c.read.auto)))
