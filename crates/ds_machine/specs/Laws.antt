-- The laws of the plain world as the machine of a merge, for every scheme, plan and world.
use Rattle.std.specs.Prelude.{◌≡◌, ℕ, List, [], ◌∷◌, ◌++◌, Option, Some, None, map, filter_map, find, cond}
use Rattle.ds_script.specs.Replay.{replay}
use Rattle.ds_model.specs.Scheme.{Scheme}
use Rattle.ds_model.specs.Plan.{Plan, host_plan}
use Rattle.ds_model.specs.World.{World}
use Rattle.ds_model.specs.Step.{Event}
use Rattle.ds_model.specs.Step as model
use Rattle.ds_merge.specs.declared.kept.ObjectName.{ObjectName}
use Rattle.ds_merge.specs.declared.kept.Kept.{Kept}
use Rattle.ds_merge.specs.declared.recorded.Recorded.{Recorded}
use Rattle.ds_merge.specs.declared.records.History.{History}
use Rattle.ds_merge.specs.Standing.{same_name}
use Rattle.ds_merge.specs.Walk as walks
use Rattle.ds_merge.specs.Parts.{AllAgree}
use Rattle.ds_replay.specs.Objects.{Object, Change, ObjectState}
use Rattle.ds_replay.specs.Touches.{Touch, touch}
use Rattle.ds_machine.specs.Names.{name_of, object_of, IsNamed, state_named, after_named}
use Rattle.ds_machine.specs.Spelled.{kept_of}
use Rattle.ds_machine.specs.Machine.{event_of, after, moves, entry, answer}

-- An object's name is of that object, and of no other.
abbrev pub NamesAreOnes : Type 0
NamesAreOnes = (plan : Plan) (name : ObjectName) (object : Object) → object_of plan name ≡ Some object →
    name_of (host_plan plan name.host) name.host object ≡ name

-- Each object has a name, a mailbox where it is the first of its slot, as each one is that an event touches.
abbrev pub ObjectsHaveNames : Type 0
ObjectsHaveNames = (plan : Plan) (h : ℕ) (object : Object) → IsNamed (host_plan plan h) object →
    object_of plan (name_of (host_plan plan h) h object) ≡ Some object

-- An event enters on its actor's own host alone, under the actor's name and at the event's stamp.
abbrev pub EntersOwn : Type 0
EntersOwn = (s : Scheme) (plan : Plan) (w : World) (r : Recorded) (k : Kept) → entry s plan w r ≡ Some k →
    (k.object.host ≡ r.who.host) × (k.who ≡ r.who) × (k.stamp ≡ r.stamp)

-- an entry as it is kept, and the change that it spells
pub record Line : Type 0 where
  pub kept : Kept
  pub change : Change

-- the line of a touch, where it is one of the object
abbrev pub line_of : Plan → World → Recorded → ObjectName → Option Touch → List Line
line_of plan w r name None = []
line_of plan w r name (Some t) = cond (same_name (kept_of plan w r.who r.stamp t).object name)
    (record { kept = kept_of plan w r.who r.stamp t; change = t.change } ∷ []) []

-- the line of an event that may be none
abbrev pub event_line : Scheme → Plan → World → Recorded → ObjectName → Option Event → List Line
event_line s plan w r name None = []
event_line s plan w r name (Some e) = line_of plan w r name (touch s plan w e)

-- what the plain world's run by these events enters in the object, in order
abbrev pub lines_of : Scheme → Plan → World → List Recorded → ObjectName → List Line
lines_of s plan w [] name = []
lines_of s plan w (r ∷ es) name = event_line s plan w r name (event_of plan r) ++ lines_of s plan (after s plan w r) es name

-- the entries, and the changes that they spell
abbrev pub kept_in : Line → Kept
kept_in line = line.kept

abbrev pub change_in : Line → Change
change_in line = line.change

-- the walk over the plain world goes past every event, and no entry is left
abbrev pub Matches : Scheme → Plan → World → List History → List Recorded → Type 0
Matches s plan w hs es = walks.Matches (after s plan) (moves s plan) (entry s plan) (answer s plan) w hs es

-- the plain world after these events
abbrev pub run : Scheme → Plan → World → List Recorded → World
run s plan w es = walks.run (after s plan) (moves s plan) (entry s plan) (answer s plan) w es

-- It is the run by the events that were recorded.
abbrev pub RunsAreRuns : Type 0
RunsAreRuns =
    (s : Scheme) (plan : Plan) (w : World) (es : List Recorded) → run s plan w es ≡ model.run s plan w (filter_map (event_of plan) es)

-- The object of each name is after any events the replay of the changes that were entered in it.
abbrev pub LinesReplay : Type 0
LinesReplay = (s : Scheme) (plan : Plan) (w : World) (es : List Recorded) (name : ObjectName) →
    replay (after_named s plan name) (state_named plan name w) (map change_in (lines_of s plan w es name))
    ≡ Some (state_named plan name (run s plan w es))

-- Where the walk goes past every event and leaves no entry, an object's history is what the plain world's run entered in it.
abbrev pub HistoriesAreLines : Type 0
HistoriesAreLines =
    (s : Scheme) (plan : Plan) (w : World) (hs : List History) (es : List Recorded) (h : History) → Matches s plan w hs es →
    find (λ x. same_name x.object h.object) hs ≡ Some h → h.entries.items ≡ map kept_in (lines_of s plan w es h.object)

-- a reader of entries makes of the object that the event touches what the change does
abbrev pub ReadsOne : Scheme → Plan → (ObjectState → Kept → Option ObjectState) → World → Recorded → Option Event → Type 0
ReadsOne s plan act w r None = Unit {0}
ReadsOne s plan act w r (Some e) = (t : Touch) → touch s plan w e ≡ Some t →
    act (state_named plan (kept_of plan w r.who r.stamp t).object w) (kept_of plan w r.who r.stamp t)
    ≡ after_named s plan (kept_of plan w r.who r.stamp t).object (state_named plan (kept_of plan w r.who r.stamp t).object w) t.change

-- at each event of a list
abbrev pub Reads : Scheme → Plan → (ObjectState → Kept → Option ObjectState) → World → List Recorded → Type 0
Reads s plan act w [] = Unit {0}
Reads s plan act w (r ∷ es) = ReadsOne s plan act w r (event_of plan r) × Reads s plan act (after s plan w r) es

-- Then each step that the walk goes past does to each object what its recorded entry does to it, as that reader reads it.
abbrev pub StepsAgree : Type 0
StepsAgree =
    (s : Scheme) (plan : Plan) (act : ObjectState → Kept → Option ObjectState) (w : World) (hs : List History) (es : List Recorded) →
    Matches s plan w hs es → Reads s plan act w es → AllAgree (after s plan) (state_named plan) act w es

-- So each object ends where the replay of its history leads, as that reader reads it.
abbrev pub HistoriesReplay : Type 0
HistoriesReplay = (s : Scheme) (plan : Plan) (act : ObjectState → Kept → Option ObjectState) (w : World)
    (hs : List History) (es : List Recorded) (h : History) →
    Matches s plan w hs es → find (λ x. same_name x.object h.object) hs ≡ Some h → Reads s plan act w es →
    replay act (state_named plan h.object w) h.entries.items ≡ Some (state_named plan h.object (run s plan w es))
