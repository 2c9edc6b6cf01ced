use Rattle.std.proofs.Common.{◌≡◌, Some, refl, sym, ap, ◌∙◌}
use Rattle.ds_turn.specs.declared.node.Node.{Node}
use Rattle.ds_worker.proofs.Working.{read_there}
use Rattle.ds_worker.proofs.task_work.work.Goals as goal

pub returns-clause-worked : goal.returns-clause-worked
returns-clause-worked g c =
    let node : c.index-nodes-task.result ≡ c.requires.may.node = read_there c.args.nodes.now c.args.task.now.host c.requires.may.node c.index-nodes-task.result c.requires.may.there c.index-nodes-task.is in
    record {
      host = refl {a = c.args.task.now.host};
      node = c.index-nodes-task.result;
      there = c.requires.may.there ∙ ap (λ (x : Node). Some x) (sym node);
      worked = c.work_at-made.ensures.worked;
    }

pub returns-clause-may : goal.returns-clause-may
returns-clause-may g c =
    let node : c.index-nodes-task.result ≡ c.requires.may.node = read_there c.args.nodes.now c.args.task.now.host c.requires.may.node c.index-nodes-task.result c.requires.may.there c.index-nodes-task.is in
    record {
      node = c.index-nodes-task.result;
      there = c.requires.may.there ∙ ap (λ (x : Node). Some x) (sym node);
      may = c.work_at-made.ensures.may;
    }
