use Rattle.std.proofs.Common.{◌++◌, ◌∙◌, ap, subst, append-nil}
use Rattle.ds_flow.specs.Asked.{framing_rule}
use Rattle.ds_flow.specs.Judged.{Judges}
use Rattle.ds_flow.proofs.judging.judge_frame.Goals as goal

pub returns-clause-judged : goal.returns-clause-judged
returns-clause-judged c s = subst (λ z. Judges (framing_rule c.args.addresses.now.items z c.args.now c.args.to.now c.args.label.now) c.framing_judged.result) (ap (λ z. c.args.store.now.items ++ z) c.new-none.ensures ∙ append-nil c.args.store.now.items) c.framing_judged.ensures.judged
