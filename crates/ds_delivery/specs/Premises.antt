-- What "delivered only where the rules hold" asks: of the scheme, and of what processes send. Of setup it asks
-- `IsSetup`.
use Rattle.std.specs.Prelude.{◌≡◌, ◌≢◌, ◌≤◌, ℕ, Bool, true, List, [], ◌∷◌, ◌++◌, Some, slice_get, length, map, flat_map, take, Contains}
use Rattle.ds_cert.specs.declared.lane.LaneCert.{LaneCert}
use Rattle.ds_msg.specs.declared.message.Message.{Message}
use Rattle.ds_model.specs.Scheme.{Scheme, Item, Hello, Framed}
use Rattle.ds_model.specs.Plan.{HostPlan, LanePlan, Plan, IsLane, host_plan, lane_plan}
use Rattle.ds_model.specs.Lane.{frame_limit}
use Rattle.ds_model.specs.ConnectionStep.{peer}
use Rattle.ds_model.specs.World.{Process, Host, World}
use Rattle.ds_model.specs.Step.{Event, run}

-- THE STREAM OF A LANE

-- a frame that a lane wrote: its number and its messages
pub record Written : Type 0 where
  pub number : ℕ
  pub messages : List Message

-- the stream of a lane that wrote these frames
abbrev pub stream_with : Scheme → LanePlan → List Written → List ℕ
stream_with s lane frames = s.hello lane.cert ++ flat_map (λ f. s.frame lane.signing f.number f.messages) frames

-- what such a stream has, item by item
abbrev pub items_with : LanePlan → List Written → List Item
items_with lane frames = Hello lane.cert ∷ map (λ f. Framed f.number f.messages) frames

-- a frame that a lane can write: its number is a leaf of the lane's key, and it has one message to 16, each with a
-- spelling
pub record CanBeWritten (s : Scheme) (has_spelling : Message → Bool) (lane : LanePlan) (f : Written) : Type 0 where
  pub leaf : s.has_lane_leaf lane.signing f.number ≡ true
  pub some : f.messages ≢ []
  pub most : length f.messages ≤ frame_limit
  pub each : (m : Message) → Contains f.messages m → has_spelling m ≡ true

-- THE SCHEME: the facts of reading that are used. They are theorems of the concrete scheme. `has_spelling` tells
-- which messages have a spelling; a scheme in which each has one passes every message.
pub record IsReadable (s : Scheme) (has_spelling : Message → Bool) (plan : Plan) : Type 0 where
  -- a hello that was read stays read as bytes follow
  pub stays : (here : HostPlan) (lane : LaneCert) (bytes more : List ℕ) → peer s here bytes ≡ Some lane →
      peer s here (bytes ++ more) ≡ Some lane
  -- the lane certificate of a hello that was read is good
  pub good : (here : HostPlan) (lane : LaneCert) (bytes : List ℕ) → peer s here bytes ≡ Some lane →
      s.good_lane lane ≡ true
  -- a frame that was read stands in the stream, signed by the key of the hello's lane certificate
  pub signed : (here : HostPlan) (lane : LaneCert) (bytes : List ℕ) (j number : ℕ) (messages : List Message) →
      peer s here bytes ≡ Some lane →
      slice_get (s.items here.key here.inlets bytes) j ≡ Some (Framed number messages) →
      s.frame_signed lane.key number messages bytes ≡ true
  -- of a stream that is the hello of a lane of the plan and frames that it can write, cut anywhere, nothing else is
  -- read
  pub own : (h l : ℕ) → IsLane plan h l → (frames : List Written) →
      ((f : Written) → Contains frames f → CanBeWritten s has_spelling (lane_plan (host_plan plan h) l) f) →
      (here : HostPlan) (n j : ℕ) (item : Item) →
      slice_get (s.items here.key here.inlets (take n (stream_with s (lane_plan (host_plan plan h) l) frames))) j ≡ Some item →
      Contains (items_with (lane_plan (host_plan plan h) l) frames) item

-- WHAT IS SENT: at each world of the run, each message that a process has in hand has a spelling
abbrev pub Spells : Scheme → (Message → Bool) → Plan → World → List Event → Type 0
Spells s has_spelling plan start events = (before later : List Event) → events ≡ before ++ later →
    (h : ℕ) (x : Host) (p : ℕ) (y : Process) (m : Message) →
    slice_get (run s plan start before).hosts h ≡ Some x → slice_get x.procs p ≡ Some y → y.hand ≡ Some m →
    has_spelling m ≡ true
