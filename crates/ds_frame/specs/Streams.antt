-- What a whole stream carries: its items, one after the other from its start, up to the first that breaks it, and how it ends.
use Rattle.std.specs.Prelude.{ℕ, zero, suc, ◌+◌, ◌-◌, List, [], ◌∷◌, length, Option, Some, None, Result, Ok, Err}
use Rattle.ds_cert.specs.declared.lane.LaneCert.{LaneCert}
use Rattle.ds_frame.specs.declared.item.Item.{Item}
use Rattle.ds_frame.specs.Fields.{ReadFault, Open, Broken}
use Rattle.ds_frame.specs.Reader.{Reading, lane_after}
use Rattle.ds_frame.specs.declared.item.Failure.{Failure}

pub record Stream : Type 0 where
  pub items : List Item
  -- none where the rest may go on
  pub ending : Option Failure

abbrev pub with_item : Item → Stream → Stream
with_item item s = record s { items = item ∷ s.items }

-- an item and what follows it, or the end
abbrev pub joined : (passed : ℕ) → (Item → List ℕ → Stream) → Result (Item × List ℕ) ReadFault → Stream
joined passed following (Ok x) = with_item x.0 (following x.0 x.1)
joined passed following (Err Open) = record { items = []; ending = None }
joined passed following (Err (Broken cause offset)) = record { items = []; ending = Some (record { cause = cause; place = passed + offset }) }

-- at most that many items, read from that many bytes behind the stream's start on
unfoldable pub read_on : Reading → (most : ℕ) → Option LaneCert → (passed : ℕ) → List ℕ → Stream
read_on reading zero lane passed bytes = record { items = []; ending = None }
read_on reading (suc most) lane passed bytes =
    joined passed (λ item rest. read_on reading most (lane_after item lane) (passed + (length bytes - length rest)) rest) (reading lane bytes)

-- The items and the ending of a whole stream. Each item has a byte, so there are no more items than bytes.
abbrev pub stream_by : Reading → List ℕ → Stream
stream_by reading stream = read_on reading (suc (length stream)) None 0 stream
