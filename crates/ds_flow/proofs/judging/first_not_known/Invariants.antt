use Rattle.std.proofs.Common.{◌≡◌, drop}
use Rattle.ds_label.specs.declared.rule.Rule.TheVariants as rules
use Rattle.ds_model.specs.FirstRule.{each_member}
use Rattle.ds_model.specs.Mapping.{is_known}
use Rattle.ds_flow.proofs.judging.first_not_known.Given as goal

abbrev pub invariant-loop-c : goal.invariant-loop-c
invariant-loop-c l = each_member (is_known l.table.here l.table.rows) rules.NotKnown (drop l.c-index l.members) ≡ each_member (is_known l.table.here l.table.rows) rules.NotKnown l.members
