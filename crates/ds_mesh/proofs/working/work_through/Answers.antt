use Rattle.ds_mesh.proofs.Works.{works_then}
use Rattle.ds_mesh.proofs.working.work_through.Goals as goal

pub returns : goal.returns
returns g c =
    works_then c.args.doc.now c.args.task.now c.all_steps.new.task c.all_frames.new.task
    (works_then c.args.doc.now c.args.task.now c.all_turns.new.task c.all_steps.new.task c.in_ok-all_turns.ensures c.in_ok-all_steps.ensures)
    c.in_ok-all_frames.ensures
