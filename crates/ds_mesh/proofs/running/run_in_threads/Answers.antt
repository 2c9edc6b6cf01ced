use Rattle.ds_mesh.proofs.Phases.{ran_to}
use Rattle.ds_mesh.proofs.running.run_in_threads.Goals as goal

pub returns : goal.returns
returns g c =
    ran_to c.args.budget c.args.world c.in_ok-world.world c.settle.new.world c.new-events.result.items c.phases.new.events.items c.settle.new.events.items c.new-events.ensures.items
    c.in_ok-world.ensures.went c.in_ok-settle.ensures.went c.in_ok-settle.ensures.few c.in_ok-settle.ensures.ends
