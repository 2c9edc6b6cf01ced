use Rattle.std.proofs.Common.{refl}
use Rattle.ds_model.specs.Access.{InDesk}
use Rattle.ds_model.specs.Desk.{Ticked}
use Rattle.ds_desk.specs.Desks.{kept_of}
use Rattle.ds_exporter.specs.Conditions.{clock_actor}
use Rattle.ds_exporter.specs.Entering.{tick_access}
use Rattle.ds_exporter.specs.HostStates.{state_of}
use Rattle.ds_exporter.proofs.Entering.{enters_at_desk, enters_by, enters_same, ticks, ticks_none}
use Rattle.ds_exporter.proofs.exporter.Exporter.tick.Goals as goal

pub returns-then-to-self-clause-entered : goal.returns-then-to-self-clause-entered
returns-then-to-self-clause-entered c =
    let e = c.args.self.now in
    enters_same c.args.stamp (clock_actor e.host) (tick_access c.args.to e) e e (ticks_none e c.args.to (rw (← c.self.view_is) c.if-to-self.true)) refl

pub returns-clause-entered : goal.returns-clause-entered
returns-clause-entered c =
    let e = state_of c.self.inside.parts in
    rw (← c.self.view_is)
    (enters_by c.args.stamp (clock_actor e.host) (tick_access c.args.to e) (InDesk (Ticked c.args.to)) e (record e { desk = kept_of c.tick.new.self }) (ticks e c.args.to c.if-to-self.false)
    (enters_at_desk c.args.stamp (clock_actor e.host) (Ticked c.args.to) e (kept_of c.tick.new.self) e.conns c.in_ok-tick.ensures.entry))
