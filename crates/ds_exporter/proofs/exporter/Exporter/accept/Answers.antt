use Rattle.std.proofs.Common.{◌≡◌, Some, map, slice_get, subst}
use Rattle.ds_inlet.specs.Connections.{Connection}
use Rattle.ds_exporter.specs.Entering.{Enters, accept_access}
use Rattle.ds_model.specs.ConnectionStep.{accept}
use Rattle.ds_model.specs.Step.{perform_conn}
use Rattle.ds_scheme.specs.TheScheme.{scheme}
use Rattle.ds_exporter.specs.HostStates.{HostState, connection_of, inlet_of, state_of}
use Rattle.ds_exporter.specs.PlainHosts.{arrived_at, conn_at, ends_of, host_of, site_of}
use Rattle.ds_exporter.specs.Moving.{Moves}
use Rattle.ds_exporter.proofs.Ends.{arrived_all, below_all, enters_next, fits_all, moves_all, others_all, site_all, still_all}
use Rattle.ds_exporter.proofs.IfDone.{still_is}
use Rattle.ds_exporter.proofs.exporter.Exporter.accept.Goals as goal

pub invariant_of-self-2 : goal.invariant_of-self-2
invariant_of-self-2 c =
    let within = rw (← c.self.view_is) at c.requires.there in
    fits_all (state_of c.self.inside.parts) c.args.conn c.args.stamp c.in_ok-moved.moved (map connection_of c.accept_at.new.conns.items) (map inlet_of c.accept_at.new.inlets.items) within (λ k h. c.in_ok-moved.ensures.ok k h) c.self.invariant

pub returns-clause-ok : goal.returns-clause-ok
returns-clause-ok c =
    let e = state_of c.self.inside.parts in
    let within = rw (← c.self.view_is) at c.requires.there in
    λ link. subst (λ (s : HostState). Moves c.in_ok-moved.moved (ends_of link c.args.conn s)
    (ends_of link c.args.conn (record e { conns = map connection_of c.accept_at.new.conns.items; inlets = map inlet_of c.accept_at.new.inlets.items }))
    (perform_conn scheme (site_of s) (host_of s) (conn_at link c.args.conn s) (accept scheme (site_of s) (conn_at link c.args.conn s) (arrived_at c.args.conn s)))) c.self.view_is
    (moves_all e c.args.conn c.args.stamp c.in_ok-moved.moved (map connection_of c.accept_at.new.conns.items) (map inlet_of c.accept_at.new.inlets.items) within (λ k h. c.in_ok-moved.ensures.ok k h) c.self.invariant link)

pub returns-clause-others : goal.returns-clause-others
returns-clause-others c =
    let within = rw (← c.self.view_is) at c.requires.there in
    rw (← c.self.view_is)
    (λ place apart. others_all (state_of c.self.inside.parts) c.args.conn c.args.stamp c.in_ok-moved.moved (map connection_of c.accept_at.new.conns.items) (map inlet_of c.accept_at.new.inlets.items) within (λ k h. c.in_ok-moved.ensures.ok k h) place apart)

pub returns-clause-arrived : goal.returns-clause-arrived
returns-clause-arrived c =
    let within = rw (← c.self.view_is) at c.requires.there in
    rw (← c.self.view_is)
    (arrived_all (state_of c.self.inside.parts) c.args.conn c.args.stamp c.in_ok-moved.moved (map connection_of c.accept_at.new.conns.items) (map inlet_of c.accept_at.new.inlets.items) within (λ k h. c.in_ok-moved.ensures.ok k h))

pub returns-clause-site : goal.returns-clause-site
returns-clause-site c =
    let within = rw (← c.self.view_is) at c.requires.there in
    rw (← c.self.view_is)
    (site_all (state_of c.self.inside.parts) c.args.conn c.args.stamp c.in_ok-moved.moved (map connection_of c.accept_at.new.conns.items) (map inlet_of c.accept_at.new.inlets.items) within (λ k h. c.in_ok-moved.ensures.ok k h))

pub returns-clause-still : goal.returns-clause-still
returns-clause-still c =
    let within = rw (← c.self.view_is) at c.requires.there in
    rw (← c.self.view_is)
    (λ still. still_all (state_of c.self.inside.parts) c.args.conn c.args.stamp c.in_ok-moved.moved (map connection_of c.accept_at.new.conns.items) (map inlet_of c.accept_at.new.inlets.items) within (λ k h. c.in_ok-moved.ensures.ok k h) (still_is c.in_ok-moved.moved still))

pub returns-clause-stamps : goal.returns-clause-stamps
returns-clause-stamps c =
    let within = rw (← c.self.view_is) at c.requires.there in
    let below = rw (← c.self.view_is) at c.requires.later in
    below_all (state_of c.self.inside.parts) c.args.conn c.args.stamp c.in_ok-moved.moved (map connection_of c.accept_at.new.conns.items) (map inlet_of c.accept_at.new.inlets.items) within (λ k h. c.in_ok-moved.ensures.ok k h) below

pub returns-clause-entered : goal.returns-clause-entered
returns-clause-entered c =
    let e = state_of c.self.inside.parts in
    let conns = map connection_of c.accept_at.new.conns.items in
    let later = map inlet_of c.accept_at.new.inlets.items in
    λ link. subst (λ (s : HostState). (k : Connection) → slice_get s.conns c.args.conn ≡ Some k → Enters c.args.stamp k.who (accept_access link c.args.conn s) s (record e { conns = conns; inlets = later })) c.self.view_is
    (λ k h. enters_next e c.args.conn c.args.stamp c.in_ok-moved.moved k (c.in_ok-moved.ensures.ok k h).0 later h (c.in_ok-moved.ensures.ok k h).2 c.self.invariant link conns)
