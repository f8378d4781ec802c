-- A settings line for C is read in one way, and written in one way.
use Rattle.std.specs.Prelude.{ℕ, false, List, ◌≡◌, Result}
use Rattle.std.proofs.Common.{ap, sym, ◌∙◌}
use Rattle.base.specs.declared.Answer.TheVariants.{Byte, Divisor}
use Rattle.base.specs.declared.Refusal.{Refusal}
use Rattle.c_word.specs.Word.{word_of}
use Rattle.rates.specs.Answering.{answer_in}
use Rattle.setting_lines.specs.Reading.{divisor_in, lcr_in}
use Rattle.setting_lines.proofs.LineLaws.{read_one, write_one}
use Rattle.setting_lines.specs.Writing.{Left, length_in}
use Rattle.setting_lines.specs.declared.Setting.{Setting}
use Rattle.embed.specs.Settings.{given_unless, ReadsTold, WritesTold}

pub reads_told_one : (line : List ℕ) (clock l m w u : ℕ) → ReadsTold line clock l w → ReadsTold line clock m u → (w ≡ u) × (l ≡ m)
reads_told_one line clock l m w u p q =
    let same = read_one line clock p.setting q.setting p.reads q.reads in (
      p.told.0 ∙ ap (λ (s : Result Setting Refusal). word_of (given_unless (answer_in s) (Divisor (divisor_in s))) false) same ∙ sym q.told.0,
      p.stored ∙ ap lcr_in same ∙ sym q.stored,
    )

pub writes_told_one : (clock divisor lcr : ℕ) (d d' d'' : List ℕ) (w u : ℕ) → WritesTold clock divisor lcr d d' w → WritesTold clock divisor lcr d d'' u → (w ≡ u) × (d' ≡ d'')
writes_told_one clock divisor lcr d d' d'' w u p q =
    let same = write_one clock divisor lcr d d' d'' p.written q.written p.writes q.writes in (
      p.told.0 ∙ ap (λ (l : Left). word_of (given_unless (answer_in l.written) (Byte (length_in l.written))) false) same ∙ sym q.told.0,
      ap (λ (l : Left). l.buffer) same,
    )
