use Rattle.std.proofs.Common.{◌≡◌, [], replicate}
use Rattle.ds_sim.proofs.beginning.empty_links.Given as goal

abbrev pub invariant-loop-made : goal.invariant-loop-made
invariant-loop-made l = l.links.items ≡ replicate l._made []
