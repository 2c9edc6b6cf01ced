-- All keys that the hosts of a document and their lanes sign with.
use Rattle.std.specs.Prelude.{◌≡◌, ℕ, ◌+◌, ◌≤◌, true, List, [], length, map, Vec}
use Rattle.std.specs.declared.alloc.Global.{Global}
use Rattle.lms_sig.specs.Keys.{Key}
use Rattle.ds_plan.specs.declared.doc.Doc.{Doc}
use Rattle.ds_plan.specs.declared.host.HostSpec.{HostSpec}
use Rattle.ds_plan.specs.declared.host.LaneSpec.{LaneSpec}
use Rattle.ds_plan.specs.Keys.{identity_key}
use Rattle.ds_plan.specs.Documents.{is_silent}
use Rattle.ds_setup.specs.Lists.{each}
use Rattle.ds_setup.specs.Keys.{lane_tree_of}
use Rattle.ds_boot.specs.Signers.{tree_or_none}
use Rattle.ds_boot.specs.declared.doc_keys.DocKeys.{DocKeys}

-- the key of a running host's lane at a place: its secret gives it with the lane's number
abbrev pub lane_tree_at : HostSpec → (place : ℕ) → Key
lane_tree_at h place = tree_or_none (lane_tree_of h.lanekey h.secret (place + 1))

abbrev pub lane_tree : HostSpec → (place : ℕ) → LaneSpec → Key
lane_tree h place lane = lane_tree_at h place

-- the keys of a host's lanes, in order
abbrev pub lane_trees : HostSpec → List Key
lane_trees h = each (lane_tree h) h.lanes

abbrev pub trees_of : Vec Key Global → List Key
trees_of trees = trees.items

-- the identity key of each host, and the keys of each host's lanes
pub record AreKeysOfHosts (hosts : List HostSpec) (k : DocKeys) : Type 0 where
  pub identities : k.identities.items ≡ map identity_key hosts
  pub lanes : map trees_of k.lanes.items ≡ map lane_trees hosts

abbrev pub AreKeysOf : Doc → DocKeys → Type 0
AreKeysOf d k = AreKeysOfHosts d.hosts k

-- what a host needs for the keys of its lanes to be made: it has few, and if it is silent none
pub record HasFewLanes (h : HostSpec) : Type 0 where
  pub few : length h.lanes ≤ 32
  pub silent : is_silent h.secret ≡ true → h.lanes ≡ []
