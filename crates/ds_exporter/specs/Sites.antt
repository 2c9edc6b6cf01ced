-- What setup fixed of a host, as its processes see it.
use Rattle.std.specs.Prelude.{List, map}
use Rattle.ds_label.specs.declared.category.PubKey.{PubKey}
use Rattle.ds_cert.specs.declared.lane.LaneCert.{LaneCert}
use Rattle.ds_actor.specs.Sites.{BoxSite, SitePlan}
use Rattle.ds_exporter.specs.declared.site.HostSite.{HostSite}
use Rattle.ds_exporter.specs.HostStates.{HostBox, HostLane, HostState, box_of, lane_of}

abbrev pub box_site : HostBox → BoxSite
box_site b = record { slot = b.slot; owner = b.mailbox.owner; label = b.mailbox.label }

abbrev pub cert_of : HostLane → LaneCert
cert_of l = l.lane.cert

-- of a host with that key, among hosts with these keys
abbrev pub fixed_of : PubKey → List PubKey → List HostBox → List HostLane → SitePlan
fixed_of here keys boxes lanes = record { here = here; keys = keys; boxes = map box_site boxes; lanes = map cert_of lanes }

-- as the code sees it
abbrev pub seen_of : HostSite → SitePlan
seen_of s = fixed_of s.desk.now.here s.keys.now.items (map box_of s.boxes.now.items) (map lane_of s.lanes.now.items)

-- of an exporter
abbrev pub fixed_in : HostState → SitePlan
fixed_in e = fixed_of e.desk.here e.keys e.boxes e.lanes
