use Rattle.ds_label.specs.Names.{by_name}
use Rattle.ds_label.specs.Numbers.{by_number}
use Rattle.ds_label.proofs.Namings.{names, numbers}
use Rattle.ds_label.proofs.Flows.{flows_is}
use Rattle.ds_label.proofs.laws.flow_is_membership.Goals as goal

pub returns : goal.returns
returns c = record { names = flows_is by_name names; numbers = flows_is by_number numbers }
