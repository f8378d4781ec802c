-- What a word that is awaited is not.
use Rattle.std.specs.Prelude.{false, Option, None, ◌≡◌, refl}
use Rattle.options.specs.Words.{is_option}
use Rattle.options.specs.Saves.{moment_next}
use Rattle.options.specs.declared.Moment.{Moment}
use Rattle.options.specs.declared.Awaited.{Awaited}
use Rattle.options.specs.declared.Awaited.TheVariants as awaited

pub no_option_next : (a : Awaited) → (a ≡ awaited.Word → ⊥) → false ≡ is_option a
no_option_next awaited.Word other = absurd (other refl)
no_option_next awaited.Moment other = refl
no_option_next awaited.File other = refl
no_option_next awaited.Image other = refl
no_option_next awaited.Lesson other = refl
no_option_next awaited.When other = refl
no_option_next awaited.Timeline other = refl
no_option_next awaited.Nothing other = refl

pub no_file_next : (a : Awaited) (m : Option Moment) → (a ≡ awaited.File → ⊥) → None ≡ moment_next a m
no_file_next awaited.Word m other = refl
no_file_next awaited.Moment m other = refl
no_file_next awaited.File m other = absurd (other refl)
no_file_next awaited.Image m other = refl
no_file_next awaited.Lesson m other = refl
no_file_next awaited.When m other = refl
no_file_next awaited.Timeline m other = refl
no_file_next awaited.Nothing m other = refl
