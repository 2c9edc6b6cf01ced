use Rattle.std.proofs.Common.{map}
use Rattle.ds_model.specs.Access.{NoAccess}
use Rattle.ds_exporter.specs.HostStates.{connection_of, state_of}
use Rattle.ds_exporter.proofs.OneConn.{fits_arrived, seen_arrived, seen_none, still_none}
use Rattle.ds_exporter.proofs.Entering.{enters_beside, enters_nothing}
use Rattle.ds_exporter.proofs.exporter.Exporter.arrive.Goals as goal

pub returns-then-is_empty-clause-ok : goal.returns-then-is_empty-clause-ok
returns-then-is_empty-clause-ok c = still_none c.args.self.now c.args.conn c.args.piece.now c.is_empty.result c.is_empty.ensures c.if-is_empty.true

pub returns-then-is_empty-clause-plain : goal.returns-then-is_empty-clause-plain
returns-then-is_empty-clause-plain c = λ link later whole. seen_none c.args.self.now c.args.conn c.args.piece.now link later c.is_empty.result c.is_empty.ensures c.if-is_empty.true c.requires.there whole

pub invariant_of-self-2 : goal.invariant_of-self-2
invariant_of-self-2 c = rw c.in_ok-arrive_at.ensures.ok (fits_arrived (state_of c.self.inside.parts) c.args.conn c.args.piece.now c.self.invariant)

pub returns-clause-plain : goal.returns-clause-plain
returns-clause-plain c =
    let within = rw (← c.self.view_is) at c.requires.there in
    rw (c.in_ok-arrive_at.ensures.ok, ← c.self.view_is) (λ link later whole. seen_arrived (state_of c.self.inside.parts) c.args.conn c.args.piece.now link later within whole)

pub returns-then-is_empty-clause-entered : goal.returns-then-is_empty-clause-entered
returns-then-is_empty-clause-entered c = λ who. enters_nothing c.args.stamp who c.args.self.now

pub returns-clause-entered : goal.returns-clause-entered
returns-clause-entered c =
    let e = state_of c.self.inside.parts in
    rw (← c.self.view_is) (λ who. enters_beside c.args.stamp who NoAccess e e e.procs (map connection_of c.arrive_at.new.conns.items) (enters_nothing c.args.stamp who e))
