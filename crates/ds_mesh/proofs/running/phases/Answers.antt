use Rattle.ds_mesh.proofs.Phases.{went_count, went_then}
use Rattle.ds_mesh.proofs.running.phases.Goals as goal

pub loop-preserved : goal.loop-preserved
loop-preserved g c =
    let first = went_then c.args.world c.loop.world c.in_ok-world.world c.args.events.now.items c.loop.events.items c.phase.new.events.items c.loop.invariant.went c.in_ok-world.ensures.went in
    let all = went_then c.args.world c.in_ok-world.world c.arrive_all.new.world c.args.events.now.items c.phase.new.events.items c.arrive_all.new.events.items first c.in_ok-arrive_all.ensures.went in
    record {
      went = all;
      few = c.in_ok-arrive_all.ensures.few;
      counted = went_count c.args.world c.arrive_all.new.world c.args.events.now.items c.arrive_all.new.events.items c.requires.counted all;
    }
