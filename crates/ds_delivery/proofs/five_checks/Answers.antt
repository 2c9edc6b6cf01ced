use Rattle.ds_delivery.proofs.five_checks.Goals as goal
use Rattle.ds_delivery.proofs.Checks.{each_checked}

pub returns : goal.returns
returns c = each_checked
