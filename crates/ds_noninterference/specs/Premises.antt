-- What the law asks: of the scheme, of a plan, of the trusted hosts, and of the outside. Of the worlds at the start
-- it asks `IsSetup`.
use Rattle.std.specs.Prelude.{◌≡◌, ◌≢◌, ◌<◌, ◌≤◌, ℕ, Bool, true, false, List, ◌++◌, Some, None, slice_get, ◌⊎◌, Contains, take}
use Rattle.ds_label.specs.declared.category.PubKey.{PubKey}
use Rattle.ds_label.specs.declared.category.Category.{Category}
use Rattle.ds_cert.specs.declared.delegation.Delegation.{Delegation}
use Rattle.ds_cert.specs.declared.lane.LaneCert.{LaneCert}
use Rattle.ds_msg.specs.declared.message.Message.{Message}
use Rattle.ds_model.specs.Scheme.{Scheme, Framed}
use Rattle.ds_model.specs.Plan.{HostPlan, Plan, Link, OfLane, IsHost, IsLane, host_plan, receiving_host, conn_plan, lane_plan}
use Rattle.ds_model.specs.ConnectionStep.{peer}
use Rattle.ds_model.specs.World.{Conn, Host, World}
use Rattle.ds_model.specs.Step.{Event, arrived}
use Rattle.ds_noninterference.specs.High.{is_in, high_lane, IsTrusted}
use Rattle.ds_noninterference.specs.Observations.{Along}

-- THE SCHEME: the facts of chains, and of the spelling of the plan's lanes, that the law uses. They are theorems of
-- the concrete scheme.
pub record IsScheme (s : Scheme) (plan : Plan) : Type 0 where
  -- a set of keys that has the creator's, and with the signer of each good delegation its receiver, has every holder
  pub closed : (certs : List Delegation) (moment : ℕ) (c : Category) (inside : PubKey → Bool) →
      inside c.creator ≡ true →
      ((d : Delegation) → Contains certs d → d.category ≡ c → s.good d ≡ true → inside d.by ≡ true →
      inside d.to ≡ true) →
      (key : PubKey) → s.holds certs moment c key ≡ true → inside key ≡ true
  -- of a stream that begins with the hello of a lane of the plan, cut anywhere, nothing else is read first
  pub hello_first : (h l : ℕ) → IsLane plan h l → (here : HostPlan) (rest : List ℕ) (n : ℕ) →
      (peer s here (take n (s.hello (lane_plan (host_plan plan h) l).cert ++ rest)) ≡ None)
      ⊎ (peer s here (take n (s.hello (lane_plan (host_plan plan h) l).cert ++ rest)) ≡ Some (lane_plan (host_plan plan h) l).cert)

-- SETUP: what it sees to, in every plan
pub record Fits (plan : Plan) : Type 0 where
  -- a lane's connection is that of a lane, and stands at the host whose key is the certificate's receiver
  pub ends : (k h l : ℕ) → (conn_plan plan k).source ≡ OfLane h l →
      IsLane plan h l × IsHost plan (conn_plan plan k).host
      × ((receiving_host plan k).key ≡ (lane_plan (host_plan plan h) l).cert.receiver)
  -- a lane certificate names its own host
  pub by : (h l : ℕ) → IsLane plan h l → (lane_plan (host_plan plan h) l).cert.exporter ≡ (host_plan plan h).key
  -- exporter and number determine a lane
  pub lanes : (h l g j : ℕ) → IsLane plan h l → IsLane plan g j →
      (lane_plan (host_plan plan h) l).cert.exporter ≡ (lane_plan (host_plan plan g) j).cert.exporter →
      (lane_plan (host_plan plan h) l).cert.lane ≡ (lane_plan (host_plan plan g) j).cert.lane → (h ≡ g) × (l ≡ j)

-- THE TRUSTED HOSTS

-- each delegation for the category that a trusted host issued is to a trusted host
abbrev pub IssuesInside : Category → List ℕ → Plan → World → Type 0
IssuesInside c trusted plan w = (h : ℕ) (x : Host) (d : Delegation) → is_in trusted h ≡ true →
    slice_get w.hosts h ≡ Some x → Contains x.desk.issued d → d.category ≡ c → IsTrusted trusted plan d.to

-- The trusted hosts are running hosts, one of which has the creator's key, no other host has the key of one of them,
-- and at setup and by acts they delegate the category to each other alone.
pub record Obeys (s : Scheme) (c : Category) (trusted : List ℕ) (plan : Plan) (w : World) (events : List Event) : Type 0 where
  pub run : (h : ℕ) → is_in trusted h ≡ true → IsHost plan h × ((host_plan plan h).silent ≡ false)
  pub creator : IsTrusted trusted plan c.creator
  pub alone : (h : ℕ) → IsHost plan h → IsTrusted trusted plan (host_plan plan h).key → is_in trusted h ≡ true
  pub issues : Along s plan (IssuesInside c trusted plan) w events

-- THE OUTSIDE

-- no signature under a key of a trusted host, or of a high lane, comes from elsewhere
pub record NothingForged (s : Scheme) (c : Category) (trusted : List ℕ) (plan : Plan) (w : World) : Type 0 where
  -- a good delegation for the category by a trusted host's key, in any store, was issued by a trusted host in this
  -- run
  pub stores : (g : ℕ) (y : Host) (d : Delegation) → slice_get w.hosts g ≡ Some y → Contains y.desk.store d →
      d.category ≡ c → s.good d ≡ true → IsTrusted trusted plan d.by →
      (h : ℕ) × (x : Host) × (is_in trusted h ≡ true) × (slice_get w.hosts h ≡ Some x) × Contains x.desk.issued d
  -- a lane certificate of a trusted host's key that a link's connection read is that of a lane
  pub certs : (k : ℕ) (y : Conn) (lane : LaneCert) → slice_get w.conns k ≡ Some y → (conn_plan plan k).source ≡ Link →
      peer s (receiving_host plan k) (arrived w Link y) ≡ Some lane → 0 < y.taken →
      IsTrusted trusted plan lane.exporter →
      (h : ℕ) × (l : ℕ) × IsLane plan h l × (lane ≡ (lane_plan (host_plan plan h) l).cert)
  -- no frame that was read on a link is signed by the key of a high lane
  pub frames : (k : ℕ) (y : Conn) (lane : LaneCert) (j number : ℕ) (messages : List Message) →
      slice_get w.conns k ≡ Some y → (conn_plan plan k).source ≡ Link →
      peer s (receiving_host plan k) (arrived w Link y) ≡ Some lane →
      slice_get (s.items (receiving_host plan k).key (receiving_host plan k).inlets (arrived w Link y)) j ≡ Some (Framed number messages) →
      j ≤ y.taken →
      (h l : ℕ) → high_lane c trusted plan h l ≡ true → lane.key ≢ (lane_plan (host_plan plan h) l).cert.key

-- at each world of the run
abbrev pub Unforged : Scheme → Category → List ℕ → Plan → World → List Event → Type 0
Unforged s c trusted plan w events = Along s plan (NothingForged s c trusted plan) w events
