-- The names of shared objects: which object of which host a name is of.
use Rattle.std.specs.Prelude.{◌≡◌, ℕ, zero, suc, ◌==◌, Option, Some, None, option_map, if◌then◌else◌}
use Rattle.ds_model.specs.Scheme.{Scheme}
use Rattle.ds_model.specs.Plan.{HostPlan, Plan, host_plan, box_plan}
use Rattle.ds_model.specs.World.{World}
use Rattle.ds_model.specs.ProcessStep.{box_of}
use Rattle.ds_merge.specs.declared.kept.ObjectName.{ObjectName}
use Rattle.ds_replay.specs.Objects.{Object, TheDesk, MailboxAt, LaneAt, InletAt, Change, ObjectState, Missing, after_change, state_at}

-- a desk; a mailbox by its slot; a lane by its number, which is one more than its place; an inlet by its place
abbrev pub name_of : HostPlan → (host : ℕ) → Object → ObjectName
name_of plan h TheDesk = record { host = h; kind = 1; id = 0 }
name_of plan h (MailboxAt b) = record { host = h; kind = 2; id = (box_plan plan b).slot }
name_of plan h (LaneAt l) = record { host = h; kind = 3; id = suc l }
name_of plan h (InletAt i) = record { host = h; kind = 4; id = i }

-- the lane with a number
abbrev pub lane_numbered : ℕ → Option Object
lane_numbered zero = None
lane_numbered (suc l) = Some (LaneAt l)

-- the object of a host by the kind and the id of its name
abbrev pub object_by : HostPlan → (kind id : ℕ) → Option Object
object_by plan kind id =
    if kind == 1
    then (if id == 0 then Some TheDesk else None)
    else if kind == 2
    then option_map MailboxAt (box_of plan id)
    else if kind == 3
    then lane_numbered id
    else if kind == 4
    then Some (InletAt id)
    else None

-- the object of a name; none where a host can't have such an object
abbrev pub object_of : Plan → ObjectName → Option Object
object_of plan name = object_by (host_plan plan name.host) name.kind name.id

-- a mailbox is named by its slot where it is the slot's first
abbrev pub IsNamed : HostPlan → Object → Type 0
IsNamed plan TheDesk = Unit {0}
IsNamed plan (MailboxAt b) = box_of plan (box_plan plan b).slot ≡ Some b
IsNamed plan (LaneAt l) = Unit {0}
IsNamed plan (InletAt i) = Unit {0}

-- the state of an object that may have no name
abbrev pub state_in : World → (host : ℕ) → Option Object → ObjectState
state_in w h None = Missing
state_in w h (Some object) = state_at w h object

-- the state of the object of a name
abbrev pub state_named : Plan → ObjectName → World → ObjectState
state_named plan name w = state_in w name.host (object_of plan name)

-- what a change makes of an object that may have no name
abbrev pub after_in : Scheme → HostPlan → Option Object → ObjectState → Change → Option ObjectState
after_in s plan None state change = None
after_in s plan (Some object) state change = after_change s plan object state change

-- what a change makes of the object of a name
abbrev pub after_named : Scheme → Plan → ObjectName → ObjectState → Change → Option ObjectState
after_named s plan name = after_in s (host_plan plan name.host) (object_of plan name)
