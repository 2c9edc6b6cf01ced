use Rattle.std.proofs.Common.{◌≡◌, ◌++◌, ◌-◌, ◌∙◌, ap, get_or, [], arith}
use Rattle.ds_summary.specs.declared.counted.Counted.TheVariants.{Refused}
use Rattle.ds_summary.specs.Counts.{count}
use Rattle.ds_summary.specs.Summaries.{rule_line, rule_lines, rule_names}
use Rattle.ds_summary.proofs.Names.{one_rule}
use Rattle.ds_summary.proofs.writing.push_rules.Goals as goal

pub loop-number-preserved : goal.loop-number-preserved
loop-number-preserved c =
    one_rule (count c.args.all.now) c.loop-number.number (c.args.out.now.items ++ rule_lines (count c.args.all.now) 1 rule_names) c.loop-number.out.items c.push_rule.new.out.items
    (omega (arith, c.loop-number.auto.number)) (omega (arith, c.loop-number-test.true))
    c.loop-number.invariant
    (c.in_ok-push_rule.ensures ∙ (λ i. c.loop-number.out.items ++ rule_line (c.name_of.ensures i) (c.times.ensures i)))
