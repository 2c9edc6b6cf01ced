use Rattle.std.proofs.Common.{sym, map, ◌∙◌}
use Rattle.std.specs.Prelude.{option_copied}
use Rattle.ds_desk.specs.Desks.{kept_of}
use Rattle.ds_exporter.specs.HostStates.{box_of}
use Rattle.ds_exporter.proofs.DeliverVerdicts.{clear_known, drops_target, label_known, own_known, passes_target}
use Rattle.ds_exporter.proofs.judging.judge.Goals as goal

pub local_mail-requires-clause-label : goal.local_mail-requires-clause-label
local_mail-requires-clause-label c = rw c.in_ok-rule.ensures.same (label_known (kept_of c.args.desk.now) c.args.lane.now c.args.message.now (sym c.in_ok-rule.ensures.rule ∙ c.in_default.is) c.args.desk.now.table.here c.requires.table)

pub local_mail-requires-clause-own : goal.local_mail-requires-clause-own
local_mail-requires-clause-own c = rw c.in_ok-rule.ensures.same (own_known (kept_of c.args.desk.now) c.args.lane.now c.args.message.now (sym c.in_ok-rule.ensures.rule ∙ c.in_default.is) c.args.desk.now.table.here c.requires.table)

pub local_mail-requires-clause-clear : goal.local_mail-requires-clause-clear
local_mail-requires-clause-clear c = rw c.in_ok-rule.ensures.same (clear_known (kept_of c.args.desk.now) c.args.lane.now c.args.message.now (sym c.in_ok-rule.ensures.rule ∙ c.in_default.is) c.args.desk.now.table.here c.requires.table)

pub returns-in-Err-clause-verdict : goal.returns-in-Err-clause-verdict
returns-in-Err-clause-verdict c =
    drops_target (kept_of c.args.desk.now) (map box_of c.args.boxes.now.items) c.args.lane.now c.args.message.now (sym c.in_default.is ∙ c.in_ok-rule.ensures.rule) c.args.desk.now.table.here c.requires.table c.rows-rows.ensures.table
    c.requires.named c.as_slice-label.ensures.rising c.as_slice-own.ensures.rising c.as_slice-clear.ensures.rising c.in_ok-mail.mail (rw c.in_ok-rule.ensures.same at c.in_ok-mail.ensures) c.box_for-place.result c.box_for-place.ensures.place
    c.in-Err.rule (option_copied c.label_of.result) c.label_of.ensures (λ here rows. c.in-Err.ensures.names here rows)

pub returns-clause-verdict : goal.returns-clause-verdict
returns-clause-verdict c =
    passes_target (kept_of c.args.desk.now) (map box_of c.args.boxes.now.items) c.args.lane.now c.args.message.now (sym c.in_default.is ∙ c.in_ok-rule.ensures.rule) c.args.desk.now.table.here c.requires.table c.rows-rows.ensures.table
    c.requires.named c.as_slice-label.ensures.rising c.as_slice-own.ensures.rising c.as_slice-clear.ensures.rising c.in_ok-mail.mail (rw c.in_ok-rule.ensures.same at c.in_ok-mail.ensures) c.box_for-place.result c.box_for-place.ensures.place
    c.requires.range (option_copied c.label_of.result) c.label_of.ensures (λ here rows. c.in_default-judge_box.ensures.names here rows)
