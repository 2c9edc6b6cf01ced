use Rattle.std.proofs.Common.{ℕ, ◌<◌, subst}
use Rattle.ds_exporter.specs.HostStates.{inlet_of}
use Rattle.ds_boot.specs.Parts.{inlet_begun}
use Rattle.ds_boot.proofs.Lists.{map_more}
use Rattle.ds_boot.proofs.conns.begin_inlets.Goals as goal

pub loop-place-preserved : goal.loop-place-preserved
loop-place-preserved c = map_more inlet_of inlet_begun c.args.names.now c.loop-place.place c.loop-place.inlets.items _ _ (λ name e. c.inlet_at.ensures name e) (subst (λ (n : ℕ). c.loop-place.place < n) c.len-place-end.ensures.count c.loop-place-test.true) c.in_ok-push.ensures.items c.loop-place.invariant
