use Rattle.ds_boot.proofs.Planned.{conns_are_planned}
use Rattle.ds_boot.proofs.laws.connections_begin_so.Goals as goal

pub returns : goal.returns
returns c = conns_are_planned
