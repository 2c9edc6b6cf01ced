-- What setup fixed of a host, as its processes see it.
use Rattle.std.specs.Prelude.{map}
use Rattle.ds_cert.specs.declared.lane.LaneCert.{LaneCert}
use Rattle.ds_msg.specs.declared.message.Message.{Message}
use Rattle.std.specs.Prelude.{◌≡◌}
use Rattle.ds_actor.specs.Sites.{BoxSite, SitePlan}
use Rattle.ds_turn.specs.declared.node.BoxSeat.{BoxSeat}
use Rattle.ds_turn.specs.declared.node.Node.{Node}

-- a mailbox, but for its messages
abbrev pub box_site : BoxSeat → BoxSite
box_site b = record { slot = b.slot; owner = b.owner; label = b.label }

-- the host's key, all hosts' keys, its mailboxes and its lanes' certificates
abbrev pub seen_of : Node → SitePlan
seen_of n = record { here = n.desk; keys = n.keys.items; boxes = map box_site n.boxes.items; lanes = n.lanes.items }

-- the message is for the lane with this certificate: it has its receiver and label
pub record IsSentOn (cert : LaneCert) (m : Message) : Type 0 where
  pub to : m.to ≡ cert.receiver
  pub label : m.label ≡ cert.label
