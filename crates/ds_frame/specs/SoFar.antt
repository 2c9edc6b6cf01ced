-- What was handed out of a stream that comes in pieces, beside what its reader is still to hand out.
use Rattle.std.specs.Prelude.{◌≡◌, ℕ, suc, List, [], ◌++◌, length, Option, Some, None}
use Rattle.ds_frame.specs.declared.item.Failure.{Failure}
use Rattle.ds_frame.specs.declared.item.Item.{Item}
use Rattle.ds_frame.specs.Reader.{Reader, Reading, fed}
use Rattle.ds_frame.specs.Streams.{Stream, read_on, stream_by}

-- a stream with these items before its own
abbrev pub with_front : List Item → Stream → Stream
with_front front s = record s { items = front ++ s.items }

-- what a reader is still to hand out of the bytes that it has
abbrev pub ahead_unless : Option Failure → Reading → Reader → Stream
ahead_unless None reading r = read_on reading (suc (length r.rest)) r.lane r.passed r.rest
ahead_unless (Some failure) reading r = record { items = []; ending = Some failure }

abbrev pub ahead : Reading → Reader → Stream
ahead reading r = ahead_unless r.failure reading r

-- Whatever follows these bytes, the whole stream is what was handed out of them, and then what the reader hands out.
abbrev pub IsSoFar : Reading → (bytes : List ℕ) → (handed : List Item) → Reader → Type 0
IsSoFar reading bytes handed r = (more : List ℕ) → stream_by reading (bytes ++ more) ≡ with_front handed (ahead reading (fed more r))
