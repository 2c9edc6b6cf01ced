use Rattle.std.proofs.Common.{map, refl, subst, sym}
use Rattle.std.specs.List.{AllPairs}
use Rattle.ds_exporter.specs.HostStates.{HostState, box_of}
use Rattle.ds_exporter.specs.Conditions.{HaveTwoSlots}
use Rattle.ds_turn.specs.declared.node.Node.{Node}
use Rattle.ds_crew.specs.declared.crew.Crew.{Crew}
use Rattle.ds_crew.proofs.Names.{own_names}
use Rattle.ds_crew.proofs.Turns.{made_turn}
use Rattle.ds_crew.proofs.crew.Crew.of.Goals as goal

pub returns-clause-turns : goal.returns-clause-turns
returns-clause-turns c =
    let p = c.into_parts-host.result in
    let crew : Crew = record {
      node = record { host = p.host; keys = p.keys; desk = c.new.result; boxes = c.in_ok-boxes.boxes; lanes = c.in_ok-lanes.lanes; inlets = c.in_ok-inlets.inlets };
      procs = c.in_ok-procs.procs;
      lanes = c.in_ok-lanes.workers;
      conns = c.in_ok-conns.conns;
    } in
    made_turn c.args.exporter p crew c.into_parts-host.ensures.parts c.into_parts-host.ensures.fit
    (record {
      host = refl;
      seen = λ i. record { here = c.new.ensures i; keys = p.keys.items; boxes = c.in_ok-boxes.ensures i; lanes = c.in_ok-lanes.ensures.lanes i };
      inlets = c.in_ok-inlets.ensures;
    })
    (record { procs = c.in_ok-procs.ensures; lanes = c.in_ok-lanes.ensures.workers; conns = c.in_ok-conns.ensures })

pub returns-clause-names : goal.returns-clause-names
returns-clause-names c =
    let p = c.into_parts-host.result in
    let node : Node = record { host = p.host; keys = p.keys; desk = c.new.result; boxes = c.in_ok-boxes.boxes; lanes = c.in_ok-lanes.lanes; inlets = c.in_ok-inlets.inlets } in
    own_names node (map box_of p.boxes.items) c.in_ok-boxes.ensures
    (subst (λ (e : HostState). AllPairs HaveTwoSlots e.boxes) (sym c.into_parts-host.ensures.parts) c.into_parts-host.ensures.fit.slots)
