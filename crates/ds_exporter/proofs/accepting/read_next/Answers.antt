use Rattle.std.proofs.Common.{map, sym, ap, ◌∙◌}
use Rattle.std.specs.Prelude.{is_some}
use Rattle.ds_exporter.specs.HostStates.{inlet_of}
use Rattle.ds_exporter.proofs.Accepts.{hello_is, frame_is, open_is, fails_is}
use Rattle.ds_exporter.proofs.accepting.read_next.Goals as goal

pub returns-in-Ok-Hello-clause-ok : goal.returns-in-Ok-Hello-clause-ok
returns-in-Ok-Hello-clause-ok c =
    hello_is c.args.stamp c.args.conn.now.conn c.read.new.self.conn (map inlet_of c.args.inlets.now.items) c.requires.free
    c.in-Ok-Hello.field-0 c.in-Ok-Hello.field-0-is c.in-Ok-Hello.ensures.exact (λ s plan link. c.in-Ok-Hello.ensures.accepts s plan link)

pub returns-in-Ok-Frame-clause-ok : goal.returns-in-Ok-Frame-clause-ok
returns-in-Ok-Frame-clause-ok c =
    frame_is c.args.stamp c.args.conn.now.conn c.read.new.self.conn (map inlet_of c.args.inlets.now.items) c.requires.free
    c.in-Ok-Frame.field-0 c.in-Ok-Frame.inlet c.in-Ok-Frame.number c.settle_offered.new.conn.conn (map inlet_of c.settle_offered.new.inlets.items)
    c.in-Ok-Frame.field-0-is c.in-Ok-Frame.ensures.exact (λ s plan link. c.in-Ok-Frame.ensures.accepts s plan link) c.in-Ok-Frame.ensures.inlet
    c.settle_offered.ensures.conn c.settle_offered.ensures.inlets

pub returns-in-Err-NotYet-clause-ok : goal.returns-in-Err-NotYet-clause-ok
returns-in-Err-NotYet-clause-ok c =
    open_is c.args.stamp c.args.conn.now.conn c.read.new.self.conn (map inlet_of c.args.inlets.now.items) c.requires.free
    c.in-Err-NotYet.field-0 c.in-Err-NotYet.field-0-is c.in-Err-NotYet.ensures.exact (λ s plan link. c.in-Err-NotYet.ensures.accepts s plan link)

pub returns-else-failed-clause-ok : goal.returns-else-failed-clause-ok
returns-else-failed-clause-ok c =
    fails_is c.args.stamp c.args.conn.now.conn c.read.new.self.conn (map inlet_of c.args.inlets.now.items) c.requires.free
    c.in-Err-BadFrame.field-0 c.in-Err-BadFrame._cause c.in-Err-BadFrame._place c.in-Err-BadFrame.field-0-is
    (ap is_some (sym c.failure.ensures) ∙ (sym c.is_some-failed.ensures ∙ c.if-failed.false))
    c.in-Err-BadFrame.ensures.exact (λ s plan link. c.in-Err-BadFrame.ensures.accepts s plan link)
