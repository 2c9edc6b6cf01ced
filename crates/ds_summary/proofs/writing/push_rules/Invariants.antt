use Rattle.std.proofs.Common.{◌≡◌, ◌++◌, ◌-◌, drop}
use Rattle.ds_summary.specs.Counts.{count}
use Rattle.ds_summary.specs.Summaries.{rule_lines, rule_names}
use Rattle.ds_summary.proofs.writing.push_rules.Given as goal

abbrev pub invariant-loop-number : goal.invariant-loop-number
invariant-loop-number l =
    l.initial.out.items ++ rule_lines (count l.all) 1 rule_names ≡ l.out.items ++ rule_lines (count l.all) l.number (drop (l.number - 1) rule_names)
