use Rattle.std.proofs.Common.{subst}
use Rattle.ds_world.specs.Hands.{HandsAreSpelled}
use Rattle.ds_world.specs.Worlds.{WorldState, world_of}
use Rattle.ds_world.proofs.Hands.{all_hands}
use Rattle.ds_world.proofs.world.World.hands.Goals as goal

pub returns : goal.returns
returns c = subst (λ (w : WorldState). HandsAreSpelled (world_of w)) c.self.view_is (all_hands c.self.inside.parts.nodes.items c.hands_of.ensures)
