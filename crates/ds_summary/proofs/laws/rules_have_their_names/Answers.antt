use Rattle.ds_summary.proofs.Names.{named}
use Rattle.ds_summary.proofs.laws.rules_have_their_names.Goals as goal

pub returns : goal.returns
returns c = named
