use Rattle.std.proofs.Common.{map}
use Rattle.ds_exporter.specs.HostStates.{inlet_of}
use Rattle.ds_exporter.specs.Stamping.{IsInletBefore}
use Rattle.ds_exporter.proofs.Accepts.{fresh_at, stale_at}
use Rattle.ds_exporter.proofs.Places.{all_get, stands_now}
use Rattle.ds_exporter.proofs.accepting.number_at.Goals as goal

pub accept-requires-clause-later : goal.accept-requires-clause-later
accept-requires-clause-later c =
    all_get (IsInletBefore c.args.stamp) (map inlet_of c.args.inlets.now.items) c.args.place (inlet_of c.index_mut.result.now) c.requires.later
    (stands_now inlet_of c.args.inlets.now.items c.args.place c.index_mut.result.now c.requires.place c.index_mut.ensures.value)

pub returns-in-Ok-clause-fresh : goal.returns-in-Ok-clause-fresh
returns-in-Ok-clause-fresh c =
    fresh_at c.args.number (map inlet_of c.args.inlets.now.items) c.args.place (inlet_of c.index_mut.result.now)
    (stands_now inlet_of c.args.inlets.now.items c.args.place c.index_mut.result.now c.requires.place c.index_mut.ensures.value) c.in-Ok.ensures.fresh

pub returns-in-Err-clause-fresh : goal.returns-in-Err-clause-fresh
returns-in-Err-clause-fresh c =
    stale_at c.args.number c.in-Err._stale.last (map inlet_of c.args.inlets.now.items) c.args.place (inlet_of c.index_mut.result.now)
    (stands_now inlet_of c.args.inlets.now.items c.args.place c.index_mut.result.now c.requires.place c.index_mut.ensures.value) c.in-Err.ensures.stale
