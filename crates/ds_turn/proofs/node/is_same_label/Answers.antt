use Rattle.ds_flow.proofs.Flows.{same_label_is}
use Rattle.ds_turn.proofs.node.is_same_label.Goals as goal

pub returns-clause-test : goal.returns-clause-test
returns-clause-test c = same_label_is c.same.result c.args.a.now c.args.b.now c.as_slice-first.ensures.rising c.as_slice-second.ensures.rising c.same.ensures
