-- What the fields of a reader are, and what they keep.
use Rattle.std.specs.Prelude.{◌≤◌, ◌<◌, ◌+◌, ◌^◌, drop, length}
use Rattle.ds_frame.specs.declared.reader.FrameReader.TheInside.{Inside}
use Rattle.ds_frame.specs.Reader.{Reader}

abbrev pub reader_of : Inside → Reader
reader_of r = record { rest = drop r.at r.bytes.items; passed = r.before + r.at; lane = r.lane; failure = r.failure }

-- It keeps no more bytes than the longest frame has, and each place in the stream is a number of 64 bits.
pub record IsBounded (r : Inside) : Type 0 where
  pub read : r.at ≤ length r.bytes.items
  pub most : length r.bytes.items ≤ 1158249
  pub places : r.before + length r.bytes.items < 2 ^ 64
