use Rattle.ds_noninterference.proofs.two_runs.Goals as goal
use Rattle.ds_noninterference.proofs.Views.{laws, processes, hosts, desks, arrivals}
use Rattle.ds_noninterference.proofs.Outside.{outside}

pub returns-clause-alike : goal.returns-clause-alike
returns-clause-alike c = laws

pub returns-clause-processes : goal.returns-clause-processes
returns-clause-processes c = processes

pub returns-clause-hosts : goal.returns-clause-hosts
returns-clause-hosts c = hosts

pub returns-clause-desks : goal.returns-clause-desks
returns-clause-desks c = desks

pub returns-clause-arrivals : goal.returns-clause-arrivals
returns-clause-arrivals c = arrivals

pub returns-clause-outside : goal.returns-clause-outside
returns-clause-outside c = outside
