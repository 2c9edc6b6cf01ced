-- Names of shared objects, and events as actors record them.
use Rattle.std.specs.Prelude.{ℕ, List, [], Option, Some}
use Rattle.ds_script.specs.declared.actor.Actor.{Actor}
use Rattle.ds_merge.specs.declared.kept.ObjectName.{ObjectName}
use Rattle.ds_merge.specs.declared.kept.Kept.{Kept}
use Rattle.ds_merge.specs.declared.recorded.Recorded.{Recorded}

-- a host's desk
abbrev pub desk_name : (host : ℕ) → ObjectName
desk_name host = record { host = host; kind = 1; id = 0 }

-- the mailbox with this slot
abbrev pub box_name : (host slot : ℕ) → ObjectName
box_name host slot = record { host = host; kind = 2; id = slot }

-- the lane with this number
abbrev pub lane_name : (host number : ℕ) → ObjectName
lane_name host number = record { host = host; kind = 3; id = number }

-- the inlet at this place
abbrev pub inlet_name : (host place : ℕ) → ObjectName
inlet_name host place = record { host = host; kind = 4; id = place }

-- an entry of this actor
abbrev pub entry_on : ObjectName → Actor → (stamp act : ℕ) → (body : List ℕ) → Kept
entry_on object who stamp act body = record { object = object; stamp = stamp; who = who; act = act; body = body }

-- a frame event of a lane's worker, by which that entry was made and that was handed out
abbrev pub frame_event : Kept → (given : List ℕ) → Recorded
frame_event kept given = record { who = kept.who; stamp = kept.stamp; act = 2; body = []; touched = Some kept; given = given }

abbrev pub stamp_of : Recorded → ℕ
stamp_of event = event.stamp

-- a step of a process, by which that entry was made, if any, and that was handed out
abbrev pub step_event : Actor → (stamp : ℕ) → Option Kept → (given : List ℕ) → Recorded
step_event who stamp touched given = record { who = who; stamp = stamp; act = 1; body = []; touched = touched; given = given }
