use Rattle.std.proofs.Common.{◌∙◌}
use Rattle.ds_report.proofs.Places.{key_place}
use Rattle.ds_report.proofs.names.place_of.Goals as goal

pub returns : goal.returns
returns c = c.position_of.ensures ∙ key_place c.args.doc.now c.args.keys.now c.args.key.now c.requires
