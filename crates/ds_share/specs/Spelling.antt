-- How what entries hold, and what calls hand out, is spelled. Numbers are big-endian.
use Rattle.std.specs.Prelude.{ℕ, List, ◌++◌, length}
use Rattle.std.specs.List.{flat_map}
use Rattle.std.specs.Int.{w8, w32, w64, to_be_bytes}
use Rattle.ds_msg.specs.declared.local.LocalMessage.{LocalMessage}
use Rattle.ds_msg.specs.Spelling.{spelling_of_message, spelling_of_payload}
use Rattle.ds_lane.specs.declared.batch.Waiting.{Waiting}

-- a count and that many of a host's own numbers
unfoldable pub spelling_of_numbers : List ℕ → List ℕ
spelling_of_numbers numbers = to_be_bytes w8 (length numbers) ++ flat_map (to_be_bytes w64) numbers

-- a message inside a host: its sender's key, its label, ownership and clearance in the host's numbers, and its payload
unfoldable pub spelling_of_mail : LocalMessage → List ℕ
spelling_of_mail m =
    m.from.0 ++ spelling_of_numbers m.label ++ spelling_of_numbers m.own ++ spelling_of_numbers m.clear ++ spelling_of_payload m.payload

-- a message of a lane: the number of the process that sent it, and the message behind its count of bytes
unfoldable pub spelling_of_waiting : Waiting → List ℕ
spelling_of_waiting w = to_be_bytes w32 w.from ++ to_be_bytes w32 (length (spelling_of_message w.message)) ++ spelling_of_message w.message
