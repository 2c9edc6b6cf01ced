-- The shared objects of a host one by one: what each is, and what a change makes of it.
use Rattle.std.specs.Prelude.{ℕ, Bool, true, false, ◌==◌, List, Option, Some, None, option_map}
use Rattle.ds_label.specs.declared.category.Category.{Category}
use Rattle.ds_script.specs.Replay.{onward}
use Rattle.ds_model.specs.Scheme.{Scheme}
use Rattle.ds_model.specs.Plan.{HostPlan, box_plan, lane_plan}
use Rattle.ds_model.specs.Mailbox.{BoxEntry, box_step}
use Rattle.ds_model.specs.Lane.{LaneEntry, lane_step}
use Rattle.ds_model.specs.Inlet.{Inlet as LastNumber, InletEntry, inlet_step}
use Rattle.ds_model.specs.Desk.{Desk, DeskEntry, desk_step}
use Rattle.ds_model.specs.World.{Mail, Waiting, Queue, World}
use Rattle.ds_model.specs.Access.{Objects, objects_at, desk_state, box_state, lane_state, inlet_state}

-- an object of a host: its desk, or a mailbox, a lane's waiting list or an inlet, by their places
pub data Object : Type 0 where
  TheDesk : Object
  MailboxAt : (box : ℕ) → Object
  LaneAt : (lane : ℕ) → Object
  InletAt : (inlet : ℕ) → Object

-- whether both are one object
abbrev pub same_object : Object → Object → Bool
same_object TheDesk TheDesk = true
same_object (MailboxAt a) (MailboxAt b) = a == b
same_object (LaneAt a) (LaneAt b) = a == b
same_object (InletAt a) (InletAt b) = a == b
same_object _ _ = false

-- a change of one object is an entry in its history
pub data Change : Type 0 where
  OfDesk : DeskEntry → Change
  OfMailbox : BoxEntry (Mail Category) → Change
  OfLane : LaneEntry Waiting → Change
  OfInlet : InletEntry → Change

-- what an object is: nothing, where there is no such object; the desk; what waits in a mailbox; what waits on a lane; an inlet's last
-- number
pub data ObjectState : Type 0 where
  Missing : ObjectState
  DeskState : Desk → ObjectState
  MailboxState : List (Mail Category) → ObjectState
  LaneState : Queue → ObjectState
  InletState : LastNumber → ObjectState

-- the object after a change, by the replay step of its kind; none where the change is of another kind, or may not stand
abbrev pub after_change : Scheme → HostPlan → Object → ObjectState → Change → Option ObjectState
after_change s plan TheDesk (DeskState d) (OfDesk entry) = option_map DeskState (desk_step s plan d entry)
after_change s plan (MailboxAt b) (MailboxState waiting) (OfMailbox entry) =
    option_map MailboxState (box_step (box_plan plan b).room waiting entry)
after_change s plan (LaneAt l) (LaneState waiting) (OfLane entry) = option_map LaneState (lane_step (lane_plan plan l).room waiting entry)
after_change s plan (InletAt i) (InletState last) (OfInlet entry) = option_map InletState (inlet_step last entry)
after_change _ _ _ _ _ = None

-- the state of an object that may not be there
abbrev pub state_of : {X : Type 0} → (X → ObjectState) → Option X → ObjectState
state_of make None = Missing
state_of make (Some x) = make x

-- the state of an object among those of a host that may not be there
abbrev pub state_in : Object → Option Objects → ObjectState
state_in TheDesk o = state_of DeskState (onward o desk_state)
state_in (MailboxAt b) o = state_of MailboxState (onward o (box_state b))
state_in (LaneAt l) o = state_of LaneState (onward o (lane_state l))
state_in (InletAt i) o = state_of InletState (onward o (inlet_state i))

-- the state of an object of host h
abbrev pub state_at : World → (host : ℕ) → Object → ObjectState
state_at w h object = state_in object (objects_at w h)
