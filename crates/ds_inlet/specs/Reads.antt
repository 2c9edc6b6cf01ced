-- What a connection reads, beside what its stream carries for its host.
use Rattle.std.specs.Prelude.{◌≡◌, List, [], ◌∷◌, Option, Some, None, Result, Ok, Err}
use Rattle.ds_label.specs.declared.category.PubKey.{PubKey}
use Rattle.ds_cert.specs.declared.lane.LaneCert.{LaneCert}
use Rattle.ds_frame.specs.declared.item.Item.{Item}
use Rattle.ds_frame.specs.declared.item.ReadEnd.{ReadEnd}
use Rattle.ds_frame.specs.Reader.{Answer, next_by}
use Rattle.ds_model.specs.Scheme.{InletName, Item as Seen, Hello, Framed}
use Rattle.ds_inlet.specs.Hosts.{host_item, host_reading, seen_or_none}
use Rattle.ds_inlet.specs.OfferedFrames.{OfferedFrame}
use Rattle.ds_inlet.specs.Connections.{Connection, ReadStep, read_step}
use Rattle.ds_inlet.specs.declared.offer.Offer.{Offer}
use Rattle.ds_inlet.specs.declared.offer.Offer.TheVariants as offers

-- the hello that was taken, and the frame that is offered
abbrev pub hello_read : Option LaneCert → List Seen
hello_read None = []
hello_read (Some lane) = Hello lane ∷ []

abbrev pub frame_read : Option OfferedFrame → List Seen
frame_read None = []
frame_read (Some o) = Framed o.number o.messages ∷ []

-- what a call of read newly gives
abbrev pub read_by : Result Offer ReadEnd → Connection → List Seen
read_by (Ok offers.Hello) k = hello_read k.reader.lane
read_by (Ok (offers.Frame inlet number)) k = frame_read k.offered
read_by (Err end) k = []

-- what the next item of the stream is for the host
abbrev pub carried_by : PubKey → List InletName → Result Item ReadEnd → List Seen
carried_by here inlets (Ok item) = seen_or_none (host_item here inlets item)
carried_by here inlets (Err end) = []

-- how a call without an item ends
abbrev pub end_of : {X : Type 0} → Result X ReadEnd → Option ReadEnd
end_of (Ok x) = None
end_of (Err end) = Some end

-- What was read is the stream's next item for the host, or its end, and both are read as far.
pub record Follows (k : Connection) (told : ReadStep) (answer : Answer) : Type 0 where
  pub reader : told.conn.reader ≡ answer.reader
  pub items : read_by told.answer told.conn ≡ carried_by k.here k.inlets answer.answer
  pub ends : end_of told.answer ≡ end_of answer.answer

-- Where no frame is offered, a call of read follows the stream.
abbrev pub IsReadAsStream : Type 0
IsReadAsStream = (k : Connection) → k.offered ≡ None → Follows k (read_step k) (next_by (host_reading k.here k.inlets) k.reader)
