use Rattle.channel_image.specs.Written.{front_bytes, channel_bytes}
use Rattle.channel_image.proofs.writing.put_channel.Goals as goal

pub returns : goal.returns
unfolding channel_bytes front_bytes
returns c = rw (
  c.put_at-5.ensures,
  c.put_at-4.ensures,
  c.put_at-3.ensures,
  c.put_at-2.ensures,
  c.put_at.ensures,
  c.bytes_of-received.ensures.marks,
  c.bytes_of-received.ensures.«data»,
  c.bytes_of-waiting.ensures.«data»,
  c.front_of-front.ensures,
)
