-- A desk with the same key and table.
use Rattle.std.proofs.Common.{◌≡◌, Some, sym, ap, subst, ◌∙◌}
use Rattle.std.specs.Prelude.{All}
use Rattle.ds_desk.specs.Desks.{DeskView, IsReplay}
use Rattle.ds_exporter.specs.HostStates.{HostState}
use Rattle.ds_exporter.specs.PlainHosts.{name_of_inlet}
use Rattle.std.specs.Prelude.{map}
use Rattle.ds_exporter.specs.Conditions.{IsFit, IsLaneOf, LeadsTo}

pub fits_desk : (e : HostState) (k : DeskView) → IsFit e → IsReplay k → k.here ≡ e.desk.here → k.desk.rows ≡ e.desk.desk.rows → IsFit (record e { desk = k })
fits_desk e k f replay here rows = record {
  desk = replay;
  place = f.place ∙ ap Some (sym here);
  few = f.few;
  slots = f.slots;
  lanes = f.lanes;
  inlets = f.inlets;
  owners = f.owners;
  scripts = f.scripts;
  lane_actors = f.lane_actors;
  conn_actors = f.conn_actors;
  order = f.order;
  certs = subst (λ key. All (IsLaneOf key) e.lanes) (sym here) f.certs;
  conns = subst (λ key. All (LeadsTo key (map name_of_inlet e.inlets)) e.conns) (sym here) f.conns;
  named_procs = rw (here, rows) f.named_procs;
  named_boxes = rw (here, rows) f.named_boxes;
  named_conns = rw (here, rows) f.named_conns;
  usable = rw (here, rows) f.usable;
  hands = f.hands;
  going = f.going;
  passed = f.passed;
  hellos = f.hellos;
}
