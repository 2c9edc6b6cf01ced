use Rattle.std.proofs.Common.{◌++◌, List, map, ap, ◌∙◌}
use Rattle.std.specs.List.{flat_map}
use Rattle.ds_plan.specs.declared.host.InletSpec.{InletSpec}
use Rattle.ds_plan.specs.Documents.{is_silent}
use Rattle.ds_setup.specs.Plans.{declared_inlet, inlets_from}
use Rattle.ds_boot.proofs.Inlets.{inlets_running}
use Rattle.ds_boot.proofs.conns.inlet_names.Goals as goal

pub returns-in_ok-names-in-Seed : goal.returns-in_ok-names-in-Seed
returns-in_ok-names-in-Seed c = inlets_running c.args.hosts.now c.args.here c.args.host.now c.in_ok-names-in-Seed.names (ap is_silent c.in-Seed.is)
    (c.in_ok-names-in-Seed.ensures ∙ ap (λ (xs : List InletSpec). flat_map (inlets_from c.args.here) c.args.hosts.now ++ map (declared_inlet c.args.hosts.now) xs) c.as_slice.ensures)
