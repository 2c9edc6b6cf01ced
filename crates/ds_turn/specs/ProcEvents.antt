-- The events of a process: what they met and what was handed out.
use Rattle.std.specs.Prelude.{ℕ, ◌+◌, List, [], Some, None}
use Rattle.ds_script.specs.declared.actor.Actor.{Actor}
use Rattle.ds_msg.specs.declared.message.Message.{Message}
use Rattle.ds_msg.specs.declared.local.LocalMessage.{LocalMessage}
use Rattle.ds_msg.specs.Spelling.{spelling_of_message}
use Rattle.ds_share.specs.Spelling.{spelling_of_mail}
use Rattle.ds_merge.specs.declared.recorded.Recorded.{Recorded}
use Rattle.ds_turn.specs.Records.{box_name, desk_name, entry_on, lane_name, step_event}
use Rattle.ds_turn.specs.ProcRecords.{ProcRecord}

-- it touched no object: its stamp is the next one
abbrev pub lone_event : ProcRecord → Recorded
lone_event r = step_event r.who (r.stamp + 1) None []

-- the lane with this number entered this message, by that act
abbrev pub queue_event : Actor → (number stamp act : ℕ) → Message → Recorded
queue_event who number stamp act m = step_event who stamp (Some (entry_on (lane_name who.host number) who stamp act (spelling_of_message m))) []

-- the mailbox with this slot entered this message, by that act
abbrev pub put_event : Actor → (slot stamp act : ℕ) → LocalMessage → Recorded
put_event who slot stamp act m = step_event who stamp (Some (entry_on (box_name who.host slot) who stamp act (spelling_of_mail m))) []

-- the mailbox with this slot entered that it was taken from, and handed this message out
abbrev pub take_event : Actor → (slot stamp : ℕ) → LocalMessage → Recorded
take_event who slot stamp m = step_event who stamp (Some (entry_on (box_name who.host slot) who stamp 3 [])) (spelling_of_mail m)

-- the desk entered that act, and handed that out
abbrev pub desk_event : Actor → (stamp act : ℕ) → (body given : List ℕ) → Recorded
desk_event who stamp act body given = step_event who stamp (Some (entry_on (desk_name who.host) who stamp act body)) given
