use Rattle.std.proofs.Common.{◌∙◌, ap, sym}
use Rattle.ds_label.specs.Flow.{is_above}
use Rattle.ds_label.specs.Names.{by_name}
use Rattle.ds_label.proofs.Members.{last_of-slice_get}
use Rattle.ds_label.proofs.label.is_above_last.Goals as goal

pub returns-in-Some : goal.returns-in-Some
returns-in-Some c = c.is_below.ensures ∙ ap (is_above by_name c.args.member.now) (c.in-Some.ensures.value ∙ sym (last_of-slice_get c.args.members.now))
