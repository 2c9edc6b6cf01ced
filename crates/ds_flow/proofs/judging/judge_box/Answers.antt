use Rattle.std.proofs.Common.{sym, ◌∙◌}
use Rattle.std.specs.Prelude.{option_copied}
use Rattle.ds_flow.proofs.Flows.{box_by_names}
use Rattle.ds_flow.proofs.judging.judge_box.Goals as goal

pub returns-clause-names : goal.returns-clause-names
returns-clause-names c = λ here rows table known. c.judge_numbers.ensures ∙ sym (box_by_names here rows table (option_copied c.args.target) c.args.label.now known)
