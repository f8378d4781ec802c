-- No second outcome, call by call: each line of OnceCalls in specs/ by a law of Once.
use mathlib.Core.Path.{◌≡◌, refl, sym, ap, ◌∙◌}
use Rattle.base.proofs.GivenLaws.{given_once}
use Rattle.setting_lines.specs.Writing.{Left}
use Rattle.setting_lines.proofs.LineLaws.{read_one, write_one}
use Rattle.sheets.specs.OneLaws.{line_one, numbers_one}
use Rattle.listing.specs.PartLaws.{runs_one}
use Rattle.lesson.specs.Lesson.{handed_out}
use Rattle.lesson.specs.declared.Lesson.{Lesson}
use Rattle.c_bench.specs.OneLaws.{plays_one, parted_one, saved_one}
use Rattle.embed.specs.OneLaws.{reads_told_one, writes_told_one}
use Rattle.demands.specs.OnceCalls.{BaseOnce, CWordOnce, QueueOnce, RatesOnce, SettingLinesOnce, SheetsOnce, OptionsOnce, RegistersOnce, ReceiverOnce, TransmitterOnce, StatusOnce, ChannelOnce, LendingOnce, SeatOnce, ChannelImageOnce, SeatImageOnce, RankOnce}
use Rattle.demands.specs.OnceCalls.{ControllerOnce, RecordsOnce, BenchOnce, ListingOnce, ImageOnce, LessonOnce, StreamsOnce, CBenchOnce, EmbedOnce}
use Rattle.demands.proofs.Once.{told, unasked, value}

pub base_once : (M : Type 1) → BaseOnce M
base_once M =
    record {
      base·Answer·refusal = value _ refl (λ κ a v w. refl);
      base·Answer·value = value _ refl (λ κ a v w. refl);
      base·Refusal·number = value _ refl (λ κ a v w. refl);
      base·bit = value _ refl (λ κ a v w. refl);
      base·pick_byte = value _ refl (λ κ a v w. refl);
      base·pick_flag = value _ refl (λ κ a v w. refl);
      base·nibble = told _ refl (λ κ a r s v w p q. (p.0 ∙ sym q.0, refl));
      base·byte_of = value _ refl (λ κ a v w. refl);
    }

pub c_word_once : (M : Type 1) → CWordOnce M
c_word_once M =
    record {
      c_word·as_byte = value _ refl (λ κ a v w. refl);
      c_word·as_divisor = value _ refl (λ κ a v w. refl);
      c_word·word = told _ refl (λ κ a r s v w p q. (p.0 ∙ sym q.0, refl));
    }

pub queue_once : (M : Type 1) → QueueOnce M
queue_once M =
    record {
      queue·Queue·empty = value _ refl (λ κ a v w. refl);
      queue·Queue·capacity = value _ refl (λ κ a v w. refl);
      queue·Queue·accept = value _ refl (λ κ a v w. refl);
      queue·Queue·take = value _ refl (λ κ a v w. refl);
      queue·Queue·first = value _ refl (λ κ a v w. refl);
      queue·Queue·unmark = value _ refl (λ κ a v w. refl);
      queue·Queue·any_marked = value _ refl (λ κ a v w. refl);
    }

pub rates_once : (M : Type 1) → RatesOnce M
rates_once M =
    record {
      rates·divisor = value _ refl (λ κ a v w. refl);
      rates·rate = value _ refl (λ κ a v w. refl);
    }

pub setting_lines_once : (M : Type 1) → SettingLinesOnce M
setting_lines_once M =
    record {
      setting_lines·read = told _ refl (λ κ a r s v w p q. (read_one _ _ r s p q, refl));
      setting_lines·write = told _ refl (λ κ a r s v w p q.
          let same = write_one _ _ _ _ _ _ r s p q in
          (ap (λ (l : Left). l.written) same, λ i. (tt, (tt, (tt, ((same i).buffer, tt))))));
    }

pub sheets_once : (M : Type 1) → SheetsOnce M
sheets_once M =
    record {
      sheets·Line·start = value _ refl (λ κ a v w. refl);
      sheets·Line·after = value _ refl (λ κ a v w. refl);
      sheets·Line·is_empty = value _ refl (λ κ a v w. refl);
      sheets·Line·reply = told _ refl (λ κ a r s v w p q.
          let one = line_one _ _ _ _ _ r s p q in (one.0, λ i. (tt, (tt, (one.1 i, tt)))));
      sheets·Numbers·start = value _ refl (λ κ a v w. refl);
      sheets·Numbers·after = value _ refl (λ κ a v w. refl);
      sheets·Numbers·is_unread = value _ refl (λ κ a v w. refl);
      sheets·Numbers·reply = told _ refl (λ κ a r s v w p q.
          let one = numbers_one _ _ _ _ r s p q in (one.0, λ i. (tt, (one.1 i, tt))));
      sheets·read_clock = value _ refl (λ κ a v w. refl);
    }

pub options_once : (M : Type 1) → OptionsOnce M
options_once M =
    record {
      options·Words·start = value _ refl (λ κ a v w. refl);
      options·Words·after = value _ refl (λ κ a v w. refl);
      options·Words·place_of = value _ refl (λ κ a v w. refl);
      options·Words·are_whole = value _ refl (λ κ a v w. refl);
      options·Words·due = value _ refl (λ κ a v w. refl);
      options·Words·stop = told _ refl (λ κ a r s v w p q. (p.0 ∙ sym q.0, refl));
    }

pub registers_once : (M : Type 1) → RegistersOnce M
registers_once M =
    record {
      registers·Settings·is_fifo = value _ refl (λ κ a v w. refl);
      registers·Settings·trigger = value _ refl (λ κ a v w. refl);
      registers·Settings·register = value _ refl (λ κ a v w. refl);
      registers·Settings·changes_mode = value _ refl (λ κ a v w. refl);
      registers·Settings·write = value _ refl (λ κ a v w. refl);
      registers·Settings·fcr_kept = value _ refl (λ κ a v w. refl);
      registers·Settings·shown = value _ refl (λ κ a v w. refl);
      registers·Settings·wire_answer = value _ refl (λ κ a v w. refl);
      registers·Settings·cut = value _ refl (λ κ a v w. refl);
      registers·Settings·is_looped = value _ refl (λ κ a v w. refl);
      registers·inputs = value _ refl (λ κ a v w. refl);
      registers·changes_after = value _ refl (λ κ a v w. refl);
      registers·modem_status = value _ refl (λ κ a v w. refl);
      registers·any_change = value _ refl (λ κ a v w. refl);
      registers·Settings·refusal = told _ refl (λ κ a r s v w p q. (given_once r s (p ∙ sym q), refl));
    }

pub receiver_once : (M : Type 1) → ReceiverOnce M
receiver_once M =
    record {
      receiver·Receiver·power_up = value _ refl (λ κ a v w. refl);
      receiver·Receiver·is_empty = value _ refl (λ κ a v w. refl);
      receiver·Receiver·receive = value _ refl (λ κ a v w. refl);
      receiver·Receiver·get = value _ refl (λ κ a v w. refl);
      receiver·Receiver·marks = value _ refl (λ κ a v w. refl);
      receiver·Receiver·trouble = value _ refl (λ κ a v w. refl);
      receiver·Receiver·any_marked = value _ refl (λ κ a v w. refl);
      receiver·Receiver·lsr_read = value _ refl (λ κ a v w. refl);
      receiver·Receiver·wait = value _ refl (λ κ a v w. refl);
      receiver·Receiver·fcr_written = value _ refl (λ κ a v w. refl);
      receiver·Receiver·restart = value _ refl (λ κ a v w. refl);
      receiver·Receiver·data = value _ refl (λ κ a v w. refl);
      receiver·Receiver·timed_out = value _ refl (λ κ a v w. refl);
    }

pub transmitter_once : (M : Type 1) → TransmitterOnce M
transmitter_once M =
    record {
      transmitter·Transmitter·power_up = value _ refl (λ κ a v w. refl);
      transmitter·Transmitter·is_empty = value _ refl (λ κ a v w. refl);
      transmitter·Transmitter·is_idle = value _ refl (λ κ a v w. refl);
      transmitter·Transmitter·iir_read = value _ refl (λ κ a v w. refl);
      transmitter·Transmitter·write = value _ refl (λ κ a v w. refl);
      transmitter·Transmitter·fcr_written = value _ refl (λ κ a v w. refl);
      transmitter·Transmitter·shift = value _ refl (λ κ a v w. refl);
      transmitter·Transmitter·ier_written = value _ refl (λ κ a v w. refl);
    }

pub status_once : (M : Type 1) → StatusOnce M
status_once M =
    record {
      status·lsr = value _ refl (λ κ a v w. refl);
      status·iir = value _ refl (λ κ a v w. refl);
      status·line = value _ refl (λ κ a v w. refl);
    }

pub channel_once : (M : Type 1) → ChannelOnce M
channel_once M =
    record {
      channel·Channel·power_up = value _ refl (λ κ a v w. refl);
      channel·Channel·master_reset = value _ refl (λ κ a v w. refl);
      channel·Channel·step = value _ refl (λ κ a v w. refl);
      channel·Channel·line = value _ refl (λ κ a v w. refl);
    }

pub lending_once : (M : Type 1) → LendingOnce M
lending_once M =
    record {
      lending·touch = told _ refl (λ κ a r s v w p q. (p.1 ∙ sym q.1, λ i. ((p.0 ∙ sym q.0) i, (tt, tt))));
      lending·lent = value _ refl (λ κ a v w. refl);
    }

pub seat_once : (M : Type 1) → SeatOnce M
seat_once M =
    record {
      seat·Seat·power_up = value _ refl (λ κ a v w. refl);
      seat·Seat·reset = value _ refl (λ κ a v w. refl);
      seat·Seat·line = value _ refl (λ κ a v w. refl);
      seat·Seat·step = value _ refl (λ κ a v w. refl);
      seat·Seat·five = value _ refl (λ κ a v w. refl);
      seat·Tallies·add_up = value _ refl (λ κ a v w. refl);
    }

pub channel_image_once : (M : Type 1) → ChannelImageOnce M
channel_image_once M =
    record {
      channel_image·put = told _ refl (λ κ a r s v w p q. (p.answer ∙ sym q.answer, λ i. (tt, ((p.bytes ∙ sym q.bytes) i, tt))));
      channel_image·get = value _ refl (λ κ a v w. refl);
    }

pub seat_image_once : (M : Type 1) → SeatImageOnce M
seat_image_once M =
    record {
      seat_image·put = told _ refl (λ κ a r s v w p q. (p.answer ∙ sym q.answer, λ i. (tt, ((p.bytes ∙ sym q.bytes) i, tt))));
      seat_image·get = value _ refl (λ κ a v w. refl);
      seat_image·length = value _ refl (λ κ a v w. refl);
    }

pub rank_once : (M : Type 1) → RankOnce M
rank_once M =
    record {
      rank·only = value _ refl (λ κ a v w. refl);
      rank·without = value _ refl (λ κ a v w. refl);
      rank·with_line = value _ refl (λ κ a v w. refl);
      rank·next = value _ refl (λ κ a v w. refl);
      rank·place = value _ refl (λ κ a v w. refl);
      rank·line_at = value _ refl (λ κ a v w. refl);
      rank·first_place = value _ refl (λ κ a v w. refl);
      rank·first_above = value _ refl (λ κ a v w. refl);
    }

pub controller_once : (M : Type 1) → ControllerOnce M
controller_once M =
    record {
      controller·Controller·power_up = value _ refl (λ κ a v w. refl);
      controller·Controller·settle = value _ refl (λ κ a v w. refl);
      controller·Controller·output = value _ refl (λ κ a v w. refl);
      controller·Controller·requests = value _ refl (λ κ a v w. refl);
      controller·Controller·read = value _ refl (λ κ a v w. refl);
      controller·Controller·write = value _ refl (λ κ a v w. refl);
      controller·Controller·acknowledge = value _ refl (λ κ a v w. refl);
      controller·Controller·place = value _ refl (λ κ a v w. refl);
    }

pub records_once : (M : Type 1) → RecordsOnce M
records_once M =
    record {
      records·step_parts = value _ refl (λ κ a v w. refl);
      records·short_parts = value _ refl (λ κ a v w. refl);
    }

pub bench_once : (M : Type 1) → BenchOnce M
bench_once M =
    record {
      bench·chair = value _ refl (λ κ a v w. refl);
      bench·reset_all = value _ refl (λ κ a v w. refl);
      bench·tallies_by = value _ refl (λ κ a v w. refl);
      bench·Bench·power_up = value _ refl (λ κ a v w. refl);
      bench·Bench·step = value _ refl (λ κ a v w. refl);
      bench·Bench·step_short = value _ refl (λ κ a v w. refl);
      bench·Bench·reset = value _ refl (λ κ a v w. refl);
      bench·Bench·place = value _ refl (λ κ a v w. refl);
      bench·Bench·output = value _ refl (λ κ a v w. refl);
      bench·Bench·tallies = value _ refl (λ κ a v w. refl);
    }

pub listing_once : (M : Type 1) → ListingOnce M
listing_once M =
    record {
      text·digit = told _ refl (λ κ a r s v w p q. (p.0 ∙ sym q.0, refl));
      text·capital = value _ refl (λ κ a v w. refl);
      text·put_front = told _ refl (λ κ a r s v w p q. (p.0 ∙ sym q.0, λ i. ((p.1 ∙ sym q.1) i, (tt, tt))));
      text·put_after = told _ refl (λ κ a r s v w p q. (p.next ∙ sym q.next, λ i. ((p.bytes ∙ sym q.bytes) i, (tt, (tt, (tt, (tt, (tt, tt))))))));
      listing·run = told _ refl (λ κ a r s v w p q.
          let same = runs_one _ _ _ _ _ _ _ _ _ p q in
          (same.0, λ i. (tt, (tt, (tt, (tt, (same.1 i, tt)))))));
    }

pub image_once : (M : Type 1) → ImageOnce M
image_once M =
    record {
      image·save = told _ refl (λ κ a r s v w p q. (p.answer ∙ sym q.answer, λ i. (tt, ((p.bytes ∙ sym q.bytes) i, (tt, tt)))));
      image·restore = value _ refl (λ κ a v w. refl);
    }

pub lesson_once : (M : Type 1) → LessonOnce M
lesson_once M =
    record {
      lesson·read = told _ refl (λ κ a r s v w p q.
          let same : r ≡ s = p.told ∙ sym q.told in
          let bytes = p.bytes ∙ ap (λ (l : Lesson). handed_out l a.0.now a.1.0.now) same ∙ sym q.bytes in
          (same, λ i. (tt, (bytes i, tt))));
      lesson·behind = told _ refl (λ κ a r s v w p q. (p.0 ∙ sym q.0, refl));
      lesson·comment_at = told _ refl (λ κ a r s v w p q. (p.0 ∙ sym q.0, refl));
    }

pub streams_once : (M : Type 1) → StreamsOnce M
streams_once M =
    record {
      streams·Stream·start = value _ refl (λ κ a v w. refl);
      streams·advance = value _ refl (λ κ a v w. refl);
      streams·pick = told _ refl (λ κ a r s v w p q. (p.0 ∙ sym q.0, refl));
      streams·add = value _ refl (λ κ a v w. refl);
      streams·outcome_mark = value _ refl (λ κ a v w. refl);
      streams·place_mark = value _ refl (λ κ a v w. refl);
      streams·letter_mark = value _ refl (λ κ a v w. refl);
      streams·script_rows = unasked _;
      streams·Stream·next = unasked _;
    }

pub c_bench_once : (M : Type 1) → CBenchOnce M
c_bench_once M =
    record {
      c_bench·reset = told _ refl (λ κ a r s v w p q. (plays_one _ r s p q, refl));
      c_bench·parts = told _ refl (λ κ a r s v w p q. (parted_one _ r s p q, refl));
      c_bench·save = told _ refl (λ κ a r s v w p q. let same = saved_one _ _ _ _ _ r s p q in (same.0, λ i. (tt, (same.1 i, (tt, tt)))));
      c_bench·restore = told _ refl (λ κ a r s v w p q. (plays_one _ r s p q, refl));
      c_bench·seat_outputs = told _ refl (λ κ a r s v w p q. (p.0 ∙ sym q.0, refl));
    }

pub embed_once : (M : Type 1) → EmbedOnce M
embed_once M =
    record {
      embed·hailstoat_version = value _ refl (λ κ a v w. refl);
      embed·hailstoat_size = value _ refl (λ κ a v w. refl);
      embed·hailstoat_divisor = told _ refl (λ κ a r s v w p q. (p.0 ∙ sym q.0, refl));
      embed·hailstoat_power_up = told _ refl (λ κ a r s v w p q. (refl, λ i. ((p ∙ sym q) i, tt)));
      embed·hailstoat_event = told _ refl (λ κ a r s v w p q. (p.1.0 ∙ sym q.1.0, λ i. ((p.0 ∙ sym q.0) i, (tt, (tt, (tt, (tt, tt)))))));
      embed·hailstoat_place = told _ refl (λ κ a r s v w p q. (p.0 ∙ sym q.0, refl));
      embed·hailstoat_output = value _ refl (λ κ a v w. refl);
      embed·hailstoat_modem_outputs = told _ refl (λ κ a r s v w p q. (p.0 ∙ sym q.0, refl));
      embed·hailstoat_tallies = told _ refl (λ κ a r s v w p q. (p.1.0 ∙ sym q.1.0, λ i. (tt, (tt, ((p.0 ∙ sym q.0) i, tt)))));
      embed·hailstoat_read_setting = told _ refl (λ κ a r s v w p q. let same = reads_told_one _ _ _ _ r s p q in (same.0, λ i. (tt, (tt, (same.1 i, tt)))));
      embed·hailstoat_write_setting = told _ refl (λ κ a r s v w p q. let same = writes_told_one _ _ _ _ _ _ r s p q in (same.0, λ i. (tt, (tt, (tt, (same.1 i, tt))))));
      embed·hailstoat_save = told _ refl (λ κ a r s v w p q. let same = saved_one _ _ _ _ _ r s p q in (same.0, λ i. (tt, (same.1 i, (tt, tt)))));
      embed·hailstoat_restore = told _ refl (λ κ a r s v w p q. (p.1.0 ∙ sym q.1.0, λ i. ((p.0 ∙ sym q.0) i, (tt, (tt, tt)))));
    }
