-- What the code keeps of a world.
use Rattle.std.specs.Prelude.{◌≡◌, map}
use Rattle.ds_hosts.specs.Nodes.{node_of}
use Rattle.ds_world.specs.declared.parts.WorldParts.{WorldParts}
use Rattle.ds_world.specs.Worlds.{WorldState, IsWorld, routes_of}

-- the parts without the room of their lists; where connections lead is determined by the document
abbrev pub state_of : WorldParts → WorldState
state_of p = record { doc = p.doc; nodes = map node_of p.nodes.items; links = p.links.items; count = p.count }

-- the parts of a world
pub record IsFit (p : WorldParts) : Type 0 where
  pub routes : p.routes.items ≡ routes_of p.doc
  pub world : IsWorld (state_of p)
