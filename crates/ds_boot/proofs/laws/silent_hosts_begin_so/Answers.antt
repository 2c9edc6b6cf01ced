use Rattle.ds_boot.proofs.Exporters.{silent_hosts}
use Rattle.ds_boot.proofs.laws.silent_hosts_begin_so.Goals as goal

pub returns : goal.returns
returns c = silent_hosts
