use Rattle.ds_delivery.proofs.delivered_lawfully.Goals as goal
use Rattle.ds_delivery.proofs.Delivered.{delivered_lawfully}

pub returns : goal.returns
returns c = delivered_lawfully
