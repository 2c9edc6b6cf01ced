-- A running host's lanes before the first event, over the keys of all hosts.
use Rattle.std.specs.Prelude.{◌≡◌, ℕ, ◌+◌, ◌<◌, ◌≤◌, true, false, List, [], length, map, All, Vec}
use Rattle.std.specs.declared.alloc.Global.{Global}
use Rattle.lms_sig.specs.Parameters.{leaf_count}
use Rattle.ds_label.specs.declared.category.PubKey.{PubKey}
use Rattle.ds_cert.specs.declared.lane.LaneCert.{LaneCert}
use Rattle.ds_model.specs.Keys.{key_of}
use Rattle.ds_lane.specs.Lanes.{fresh_lane}
use Rattle.ds_lane.specs.Workers.{fresh_worker}
use Rattle.ds_exporter.specs.declared.parts.LanePart.{LanePart}
use Rattle.ds_exporter.specs.HostStates.{HostLane, lane_of}
use Rattle.ds_exporter.specs.Conditions.{lane_actor}
use Rattle.ds_plan.specs.declared.host.HostSpec.{HostSpec}
use Rattle.ds_plan.specs.declared.host.LaneSpec.{LaneSpec}
use Rattle.ds_plan.specs.Keys.{host_key}
use Rattle.ds_plan.specs.Documents.{is_address_if_some, is_silent}
use Rattle.ds_setup.specs.Lists.{each}
use Rattle.ds_setup.specs.Keys.{lane_public_key}
use Rattle.ds_setup.specs.Signed.{address_leaves}
use Rattle.ds_boot.specs.Signers.{identity_tree, lane_signing, signing_at}
use Rattle.ds_boot.specs.Signing.{lane_by}

-- the certificate of the lane at a place, unsigned
abbrev pub blank_lane : List PubKey → HostSpec → (place : ℕ) → LaneSpec → LaneCert
blank_lane keys h place lane = record {
  exporter = host_key h;
  lane = place + 1;
  receiver = key_of keys lane.to;
  label = lane.label;
  key = lane_public_key h (place + 1);
  from = 0;
  until = lane.until;
  signature = [];
}

-- and signed
abbrev pub lane_cert : List PubKey → HostSpec → (place : ℕ) → LaneSpec → LaneCert
lane_cert keys h place lane =
    lane_by (signing_at (address_leaves h + place) (identity_tree h)) (blank_lane keys h place lane)

-- the lane at a place, whose stream is its hello
abbrev pub lane_begun : List PubKey → (host : ℕ) → HostSpec → (place : ℕ) → LaneSpec → HostLane
lane_begun keys host h place lane = record {
  lane = fresh_lane (lane_cert keys h place lane) lane.room;
  worker = fresh_worker (lane_actor host place) (lane_cert keys h place lane) (lane_signing h (place + 1));
}

-- all of a host's lanes; a silent host has none
abbrev pub lanes_begun : List PubKey → (host : ℕ) → HostSpec → List HostLane
lanes_begun keys host h = each (lane_begun keys host h) h.lanes

abbrev pub lanes_of : Vec LanePart Global → List HostLane
lanes_of lanes = map lane_of lanes.items

-- What a host with so many hosts beside it needs to sign its address and its lanes.
pub record MayBegin (hosts : ℕ) (h : HostSpec) : Type 0 where
  pub address : is_address_if_some h.address ≡ true
  pub few : length h.lanes ≤ 32
  pub to : All (λ l. l.to < hosts) h.lanes
  pub leaves : is_silent h.secret ≡ false → address_leaves h + length h.lanes ≤ leaf_count h.identity.lms
  pub silent : is_silent h.secret ≡ true → h.lanes ≡ []
