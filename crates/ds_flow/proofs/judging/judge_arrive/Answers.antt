use Rattle.std.proofs.Common.{◌∙◌, subst}
use Rattle.ds_flow.specs.Judged.{Judges}
use Rattle.ds_flow.proofs.Flows.{arrival_is}
use Rattle.ds_flow.proofs.judging.judge_arrive.Goals as goal

pub returns-clause-judged : goal.returns-clause-judged
returns-clause-judged c s = subst (λ z. Judges z c.unless_dropped.result) (c.in_ok-first_broken.ensures.rule ∙ arrival_is s c.args.store.now.items c.args.table.now.rows c.args.now c.args.here.now c.args.lane.now c.args.message.now) c.unless_dropped.ensures
