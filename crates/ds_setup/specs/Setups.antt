-- What setup sees to, of every document that was read.
use Rattle.std.specs.Prelude.{◌≡◌, ℕ, suc, ◌+◌, ◌==◌, true, false, if◌then◌else◌, List, [], ◌∷◌, length, take, slice_get, Some, sum}
use Rattle.ds_cert.specs.declared.delegation.Delegation.{Delegation}
use Rattle.ds_model.specs.Scheme.{delegation_by}
use Rattle.ds_model.specs.Desk.{Desk}
use Rattle.ds_model.specs.Plan.{Link, OfLane, IsHost, IsLane, host_plan, lane_plan, conn_plan, receiving_host}
use Rattle.ds_model.specs.Setup.{IsSetup}
use Rattle.ds_model.specs.Views.{desk_at}
use Rattle.ds_noninterference.specs.Premises.{Fits}
use Rattle.ds_scheme.specs.TheScheme.{scheme}
use Rattle.ds_scheme.specs.Receivers.{IsReceiver}
use Rattle.ds_scheme.specs.Spelled.{HasSpelledLanes}
use Rattle.ds_plan.specs.declared.doc.Doc.{Doc}
use Rattle.ds_plan.specs.declared.host.HostSpec.{HostSpec}
use Rattle.ds_plan.specs.declared.cert.CertSpec.{CertSpec}
use Rattle.ds_plan.specs.declared.cert.CertSpec.TheVariants.{Made, Given}
use Rattle.ds_plan.specs.Keys.{host_key}
use Rattle.ds_plan.specs.Documents.{IsDocument, is_silent, lane_counts}
use Rattle.ds_setup.specs.Keys.{key_at, signing_key}
use Rattle.ds_setup.specs.Signed.{address_leaves}
use Rattle.ds_setup.specs.Plans.{plan_of}
use Rattle.ds_setup.specs.Starts.{start_of, empty_desk}

-- the premises of both theorems about setup hold
pub record SetupFits (d : Doc) : Type 0 where
  -- each lane's certificate has a spelling
  pub lanes : HasSpelledLanes (plan_of d)
  -- connections stand where their lanes lead, and exporter and number determine a lane
  pub plan : Fits (plan_of d)
  -- nothing is on its way, and each lane's stream is its hello
  pub start : IsSetup scheme (plan_of d) (start_of d)

abbrev pub EachSetupFits : Type 0
EachSetupFits = (d : Doc) → IsDocument d → SetupFits d

-- where the connection of a lane leads to a running host, that host is the lane's receiver
abbrev pub EachLaneIsReceived : Type 0
EachLaneIsReceived = (d : Doc) → IsDocument d → (k h l : ℕ) →
    (conn_plan (plan_of d) k).source ≡ OfLane h l → (receiving_host (plan_of d) k).silent ≡ false →
    IsReceiver (receiving_host (plan_of d) k) (lane_plan (host_plan (plan_of d) h) l)

-- how many lanes stand before a lane, in the order of hosts
abbrev pub lanes_before : Doc → (host lane : ℕ) → ℕ
lanes_before d h l = sum (take h (lane_counts d)) + l

-- Connections are numbered from 0: first those of the lanes of all hosts in order, one each, and then the links.
pub record ConnsAreInOrder (d : Doc) : Type 0 where
  pub has : (h l : ℕ) → IsLane (plan_of d) h l → (conn_plan (plan_of d) (lanes_before d h l)).source ≡ OfLane h l
  pub one : (k h l : ℕ) → (conn_plan (plan_of d) k).source ≡ OfLane h l → k ≡ lanes_before d h l
  pub links : (k host : ℕ) → slice_get d.links k ≡ Some host →
      slice_get (plan_of d).conn_plans (sum (lane_counts d) + k) ≡ Some (record { host = host; source = Link })
  pub count : length (plan_of d).conn_plans ≡ sum (lane_counts d) + length d.links

-- the delegations that a host signs of these certificates, in order, at one leaf after the other
abbrev pub signed_from : List HostSpec → (host : ℕ) → HostSpec → (leaf : ℕ) → List CertSpec → List Delegation
signed_from hosts host h leaf [] = []
signed_from hosts host h leaf (Made by category to from until at ∷ later) =
    if by == host
    then delegation_by scheme (signing_key h) leaf (host_key h) category (key_at hosts to) from until
    ∷ signed_from hosts host h (suc leaf) later
    else signed_from hosts host h leaf later
signed_from hosts host h leaf (Given cert at ∷ later) = signed_from hosts host h leaf later

-- a running host's issued list has the document's delegations that it signs, behind its lanes', and nothing else; the
-- next leaf of its key is the one behind
abbrev pub EachIssuesInOrder : Type 0
EachIssuesInOrder = (d : Doc) (host : ℕ) (h : HostSpec) (x : Desk) →
    slice_get d.hosts host ≡ Some h → is_silent h.secret ≡ false → desk_at (start_of d) host ≡ Some x →
    (x.issued ≡ signed_from d.hosts host h (address_leaves h + length h.lanes) d.certs)
    × (x.leaf ≡ address_leaves h + length h.lanes + length x.issued)

-- a silent host's desk is empty
abbrev pub SilentDesksAreEmpty : Type 0
SilentDesksAreEmpty = (d : Doc) (host : ℕ) → IsHost (plan_of d) host → (host_plan (plan_of d) host).silent ≡ true →
    desk_at (start_of d) host ≡ Some empty_desk
