use Rattle.ds_delivery.proofs.each_is_put.Goals as goal
use Rattle.ds_delivery.proofs.Puts.{each_is_put}

pub returns : goal.returns
returns c = each_is_put
