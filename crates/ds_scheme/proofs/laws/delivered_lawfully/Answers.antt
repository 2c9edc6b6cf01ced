use Rattle.ds_scheme.proofs.Instances.{delivered}
use Rattle.ds_scheme.proofs.laws.delivered_lawfully.Goals as goal

pub returns : goal.returns
returns c = delivered
