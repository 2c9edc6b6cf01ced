use Rattle.std.proofs.Common.{List, map, refl, subst, sym, ap, ◌∙◌}
use Rattle.std.specs.Prelude.{All}
use Rattle.ds_desk.specs.Desks.{kept_of}
use Rattle.ds_exporter.specs.HostStates.{box_of, connection_of, inlet_of, process_of}
use Rattle.ds_exporter.specs.Conditions.{IsFit}
use Rattle.ds_plan.specs.declared.process.ProcSpec.{ProcSpec}
use Rattle.ds_plan.specs.declared.process.BoxSpec.{BoxSpec}
use Rattle.ds_boot.specs.Lanes.{lanes_of}
use Rattle.ds_boot.specs.Parts.{IsBoxKnown, IsProcKnown, box_begun, process_begun}
use Rattle.ds_boot.specs.Beginnings.{IsBegun}
use Rattle.ds_boot.proofs.Named.{boxes_known, procs_known}
use Rattle.ds_boot.proofs.Fitting.{fits}
use Rattle.ds_boot.proofs.Wholes.{state_is, under_desk}
use Rattle.ds_boot.proofs.hosts.begin_exporter.Goals as goal

pub begin_processes-requires : goal.begin_processes-requires
begin_processes-requires c = subst (All (IsProcKnown c.in_ok-desk.desk.table.here c.in_ok-desk.desk.table.rows)) (sym c.as_slice-3.ensures)
    (under_desk c.args.doc.now c.args.place c.args.host.now (kept_of c.in_ok-desk.desk) c.in_ok-desk.ensures (λ key rows. All (IsProcKnown key rows) c.args.host.now.procs) (procs_known c.args.doc.now c.requires.document c.args.place c.args.host.now c.requires.there))

pub begin_boxes-requires : goal.begin_boxes-requires
begin_boxes-requires c = subst (All (IsBoxKnown c.in_ok-desk.desk.table.here c.in_ok-desk.desk.table.rows)) (sym c.as_slice-4.ensures)
    (under_desk c.args.doc.now c.args.place c.args.host.now (kept_of c.in_ok-desk.desk) c.in_ok-desk.ensures (λ key rows. All (IsBoxKnown key rows) c.args.host.now.boxes) (boxes_known c.args.doc.now c.requires.document c.args.place c.args.host.now c.requires.there))

pub new-requires : goal.new-requires
new-requires c = subst IsFit (sym (state_is c.args.doc.now c.args.place c.args.host.now (kept_of c.in_ok-desk.desk) c.in_ok-keys.keys.items (map process_of c.in_ok-procs.procs.items) (map box_of c.in_ok-boxes.boxes.items) (lanes_of c.args.lanes) (map inlet_of c.in_ok-inlets.inlets.items) (map connection_of c.args.conns.items) c.args.names.now
    c.in_ok-desk.ensures (c.in_ok-keys.ensures ∙ (c.as_slice-5.ensures.value ∙ c.requires.shared.keys)) (c.in_ok-procs.ensures ∙ ap (λ (xs : List ProcSpec). map (process_begun c.in_ok-desk.desk.table.here c.in_ok-desk.desk.table.rows) xs) c.as_slice-3.ensures) (c.in_ok-boxes.ensures ∙ ap (λ (xs : List BoxSpec). map (box_begun c.in_ok-desk.desk.table.here c.in_ok-desk.desk.table.rows) xs) c.as_slice-4.ensures) c.requires.lanes c.in_ok-inlets.ensures c.requires.names c.requires.conns))
    (fits c.args.doc.now c.requires.document c.args.place c.args.host.now c.requires.there c.requires.runs (kept_of c.in_ok-desk.desk) c.in_ok-desk.ensures)

pub returns : goal.returns
returns c = subst (IsBegun c.args.doc.now c.args.place c.args.host.now) (sym (c.new.ensures ∙ (state_is c.args.doc.now c.args.place c.args.host.now (kept_of c.in_ok-desk.desk) c.in_ok-keys.keys.items (map process_of c.in_ok-procs.procs.items) (map box_of c.in_ok-boxes.boxes.items) (lanes_of c.args.lanes) (map inlet_of c.in_ok-inlets.inlets.items) (map connection_of c.args.conns.items) c.args.names.now
    c.in_ok-desk.ensures (c.in_ok-keys.ensures ∙ (c.as_slice-5.ensures.value ∙ c.requires.shared.keys)) (c.in_ok-procs.ensures ∙ ap (λ (xs : List ProcSpec). map (process_begun c.in_ok-desk.desk.table.here c.in_ok-desk.desk.table.rows) xs) c.as_slice-3.ensures) (c.in_ok-boxes.ensures ∙ ap (λ (xs : List BoxSpec). map (box_begun c.in_ok-desk.desk.table.here c.in_ok-desk.desk.table.rows) xs) c.as_slice-4.ensures) c.requires.lanes c.in_ok-inlets.ensures c.requires.names c.requires.conns)))
    (record { desk = c.in_ok-desk.ensures; state = refl })
