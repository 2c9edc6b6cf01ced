use Rattle.std.proofs.Common.{◌≡◌, ◌++◌, drop}
use Rattle.ds_label.specs.Names.{by_name}
use Rattle.ds_label.specs.declared.rule.Rule.TheVariants as rules
use Rattle.ds_model.specs.FirstRule.{each_secret}
use Rattle.ds_flow.specs.Asked.{holds_by}
use Rattle.ds_flow.proofs.holding.first_not_trusted_with.Given as goal

abbrev pub invariant-loop-c : goal.invariant-loop-c
invariant-loop-c l =
    record {
      rule : each_secret by_name (holds_by (l.initial.store.items ++ l.extra.items) l.now l.to) rules.PeerNotTrusted (drop l.c-index l.label) ≡ each_secret by_name (holds_by (l.initial.store.items ++ l.extra.items) l.now l.to) rules.PeerNotTrusted l.label;
      same : l.store ≡ l.initial.store;
    }
