use Rattle.std.proofs.Common.{◌≡◌, ◌++◌, drop}
use Rattle.ds_label.specs.declared.rule.Rule.TheVariants as rules
use Rattle.ds_model.specs.FirstRule.{each_member}
use Rattle.ds_flow.specs.Asked.{holds_by}
use Rattle.ds_flow.proofs.holding.first_not_held.Given as goal

abbrev pub invariant-loop-c : goal.invariant-loop-c
invariant-loop-c l =
    record {
      rule : each_member (holds_by (l.initial.store.items ++ l.extra.items) l.now l.by) rules.SenderNotTrusted (drop l.c-index l.members) ≡ each_member (holds_by (l.initial.store.items ++ l.extra.items) l.now l.by) rules.SenderNotTrusted l.members;
      same : l.store ≡ l.initial.store;
    }
