use Rattle.ds_noninterference.specs.Alike.{AlikeWorlds}
use Rattle.ds_noninterference.specs.Law.{SameProcesses, SameHosts, SameDesks, SameArrivals, SameSections}
use Rattle.ds_noninterference.proofs.Views.{laws, processes, hosts, desks, arrivals}
use Rattle.ds_noninterference.proofs.Outside.{outside}
use Rattle.ds_scheme.proofs.Instances.{after_both}
use Rattle.ds_scheme.proofs.laws.two_runs.Goals as goal

pub returns-clause-alike : goal.returns-clause-alike
returns-clause-alike c = after_both AlikeWorlds laws

pub returns-clause-processes : goal.returns-clause-processes
returns-clause-processes c = after_both SameProcesses processes

pub returns-clause-hosts : goal.returns-clause-hosts
returns-clause-hosts c = after_both SameHosts hosts

pub returns-clause-desks : goal.returns-clause-desks
returns-clause-desks c = after_both SameDesks desks

pub returns-clause-arrivals : goal.returns-clause-arrivals
returns-clause-arrivals c = after_both SameArrivals arrivals

pub returns-clause-outside : goal.returns-clause-outside
returns-clause-outside c = after_both SameSections outside
