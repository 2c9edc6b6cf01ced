-- What setup fixed of a host, by which its processes ask; and the plan of the model with it, by names.
use Rattle.std.specs.Prelude.{◌≡◌, ◌&&◌, ℕ, Bool, List, map, Option, Some, None, option_map, slice_get}
use Rattle.ds_label.specs.declared.category.PubKey.{PubKey}
use Rattle.ds_label.specs.declared.category.Category.{Category}
use Rattle.ds_label.specs.Flow.{same_label}
use Rattle.ds_label.specs.Names.{by_name}
use Rattle.ds_cert.specs.declared.lane.LaneCert.{LaneCert}
use Rattle.ds_model.specs.Keys.{same_key}
use Rattle.ds_model.specs.Plan.{HostPlan, BoxPlan, LanePlan, no_signing}
use Rattle.ds_map.specs.Labels.{named}

-- a mailbox; its label is in the host's own numbers
pub record BoxSite : Type 0 where
  pub slot : ℕ
  pub owner : ℕ
  pub label : List ℕ

-- the host's key, the keys of all hosts by their numbers in scripts, and its mailboxes and lanes by their places
pub record SitePlan : Type 0 where
  pub here : PubKey
  pub keys : List PubKey
  pub boxes : List BoxSite
  pub lanes : List LaneCert

-- the labels of mailboxes
abbrev pub labels_of : List BoxSite → List (List ℕ)
labels_of boxes = map (λ b. b.label) boxes

-- the label of the mailbox at a place
abbrev pub label_at : List BoxSite → Option ℕ → Option (List ℕ)
label_at boxes None = None
label_at boxes (Some place) = option_map (λ b. b.label) (slice_get boxes place)

-- the owner of the mailbox at a place
abbrev pub owner_at : List BoxSite → Option ℕ → Option ℕ
owner_at boxes None = None
owner_at boxes (Some place) = option_map (λ b. b.owner) (slice_get boxes place)

-- whether it is the lane to that exporter with exactly that label
abbrev pub is_lane_for : PubKey → List Category → LaneCert → Bool
is_lane_for to label cert = same_key cert.receiver to && same_label by_name cert.label label

-- a mailbox and a lane of the model; no process asks how many messages may wait, or by which key a lane's frames are signed
abbrev pub box_of : PubKey → List Category → BoxSite → BoxPlan
box_of here rows b = record { slot = b.slot; owner = b.owner; label = named here rows b.label; room = 0 }

abbrev pub lane_of : LaneCert → LanePlan
lane_of cert = record { cert = cert; signing = no_signing; room = 0 }

-- the host's plan with what the site has
abbrev pub with_site : SitePlan → List Category → HostPlan → HostPlan
with_site site rows plan = record plan { key = site.here; keys = site.keys; boxes = map (box_of site.here rows) site.boxes; lanes = map lane_of site.lanes }

-- a mailbox of a plan without it
abbrev pub without_room : BoxPlan → BoxPlan
without_room b = record b { room = 0 }

-- a plan without what no process asks
abbrev pub without_rooms : HostPlan → HostPlan
without_rooms plan = record plan { boxes = map without_room plan.boxes; lanes = map (λ (l : LanePlan). lane_of l.cert) plan.lanes }

-- what a process asks of the plan is what the site has, by names
abbrev pub IsSiteOf : SitePlan → List Category → HostPlan → Type 0
IsSiteOf site rows plan = without_rooms plan ≡ with_site site rows plan
