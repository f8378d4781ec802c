-- Each byte of a record, as it is told.
use Prim.Native.Nat.{ℕ, ◌+◌, ◌<◌}
use mathlib.Core.List.{List}
use mathlib.Core.Path.{◌≡◌, refl, ap, sym, ◌∙◌}
use lib.ListN.{get_or}
use borrow.Author.Tests.{lt-ltb, le-ltb}
use Rattle.base.specs.ListLaws.{listed, listed_at}
use Rattle.base.specs.PickLaws.{pick_true, pick_false}
use Rattle.channel.specs.declared.Channel.{Channel}
use Rattle.channel_image.specs.Fields.{byte_at}
use Rattle.channel_image.specs.Told.{Told}
use Rattle.channel_image.specs.Written.{queued_byte, front_bytes, channel_bytes}

-- two functions with the same sixteen values
agree : (f g : ℕ → ℕ) → listed 16 f ≡ listed 16 g → (k : ℕ) → k < 16 → f k ≡ g k
agree f g same k below = sym (listed_at 16 f k 0 below) ∙ ap (λ (l : List ℕ). get_or l k 0) same ∙ listed_at 16 g k 0 below

module _ (c : Channel) (k : ℕ) (below : k < 16) where
  outgoing : byte_at (channel_bytes c) (17 + k) ≡ queued_byte (λ ch. ch.«data») c.transmitter.queue k
  unfolding channel_bytes front_bytes
  outgoing = agree (λ k. byte_at (channel_bytes c) (17 + k)) (queued_byte (λ ch. ch.«data») c.transmitter.queue) refl k below

  arrived : byte_at (channel_bytes c) (34 + k) ≡ queued_byte (λ ch. ch.«data») c.receiver.queue k
  unfolding channel_bytes front_bytes
  arrived = agree (λ k. byte_at (channel_bytes c) (34 + k)) (queued_byte (λ ch. ch.«data») c.receiver.queue) refl k below

  marks : byte_at (channel_bytes c) (50 + k) ≡ queued_byte (λ ch. ch.marks) c.receiver.queue k
  unfolding channel_bytes front_bytes
  marks = agree (λ k. byte_at (channel_bytes c) (50 + k)) (queued_byte (λ ch. ch.marks) c.receiver.queue) refl k below

pub told : Told
unfolding channel_bytes front_bytes
told c =
    record {
      length_66 = refl;
      ier_0 = refl;
      fcr_1 = refl;
      lcr_2 = refl;
      mcr_3 = refl;
      changes_4 = refl;
      scratch_5 = refl;
      levels_6 = refl;
      dll_7 = refl;
      dlm_8 = refl;
      last_9 = refl;
      overrun_10 = refl;
      kept_11 = refl;
      flag_12 = refl;
      timeout_13 = refl;
      busy_14 = refl;
      shift_15 = λ holds. pick_true _ _ _ holds;
      idle_15 = λ none. pick_false _ _ _ none;
      waiting_16 = refl;
      received_33 = refl;
      outgoing_17 = λ k below queued. outgoing c k below ∙ pick_true _ _ _ (lt-ltb _ _ queued);
      arrived_34 = λ k below queued. arrived c k below ∙ pick_true _ _ _ (lt-ltb _ _ queued);
      marks_50 = λ k below queued. marks c k below ∙ pick_true _ _ _ (lt-ltb _ _ queued);
      unsent_17 = λ k below past. outgoing c k below ∙ pick_false _ _ _ (le-ltb _ _ past);
      unreceived_34 = λ k below past. arrived c k below ∙ pick_false _ _ _ (le-ltb _ _ past);
      unmarked_50 = λ k below past. marks c k below ∙ pick_false _ _ _ (le-ltb _ _ past);
    }
