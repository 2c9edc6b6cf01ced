use Rattle.std.proofs.Common.{◌≡◌, [], drop, flat_map, bytes_eq}
use Rattle.ds_plan.specs.Documents.{each_once}
use Rattle.ds_doc.specs.Rules.{host_address}
use Rattle.ds_doc.proofs.rules.addresses.made_of.Given as goal

abbrev pub invariant-loop-host : goal.invariant-loop-host
invariant-loop-host l =
    each_once bytes_eq l.made (flat_map host_address (drop l.host-index l.hosts)) ≡ each_once bytes_eq [] (flat_map host_address l.hosts)
