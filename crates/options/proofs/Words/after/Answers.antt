use Rattle.options.specs.Words.{words_after}
use Rattle.options.proofs.Words.after.Goals as goal

pub returns-in-Word : goal.returns-in-Word
unfolding words_after
returns-in-Word c = simp (← c.with_option.ensures, c.in-Word.is)

pub returns-in-Moment : goal.returns-in-Moment
unfolding words_after
returns-in-Moment c = simp (← c.with_moment.ensures, ← c.read.ensures, c.in-Moment.is)

pub returns-in-File : goal.returns-in-File
unfolding words_after
returns-in-File c = simp (← c.awaiting.ensures, c.in-File.is)

pub returns-in-Image : goal.returns-in-Image
unfolding words_after
returns-in-Image c = simp (← c.once.ensures, c.in-Image.is)

pub returns-in-Lesson : goal.returns-in-Lesson
unfolding words_after
returns-in-Lesson c = simp (← c.once-in-Lesson.ensures, c.in-Lesson.is)

pub returns-in-When : goal.returns-in-When
unfolding words_after
returns-in-When c = simp (← c.with_when.ensures, c.in-When.is)

pub returns-in-Timeline : goal.returns-in-Timeline
unfolding words_after
returns-in-Timeline c = simp (← c.once-in-Timeline.ensures, c.in-Timeline.is)

pub returns-in-Nothing : goal.returns-in-Nothing
unfolding words_after
returns-in-Nothing c = simp (c.in-Nothing.is)
