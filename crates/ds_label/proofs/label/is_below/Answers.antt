use Rattle.std.proofs.Common.{◌∙◌, ap}
use Rattle.std.specs.Ordering.{is_lt}
use Rattle.ds_label.proofs.Derived.{categories_cmp}
use Rattle.ds_label.proofs.label.is_below.Goals as goal

pub returns : goal.returns
returns c = c.is_lt.ensures ∙ ap is_lt (c.cmp.ensures ∙ categories_cmp c.args.first.now c.args.second.now)
