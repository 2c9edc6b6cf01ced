use Rattle.std.proofs.Common.{◌≡◌, map, refl, sym, ap, subst, slice_set, ◌∙◌}
use Rattle.ds_inlet.specs.Connections.{Connection}
use Rattle.ds_exporter.specs.HostStates.{connection_of, inlet_of}
use Rattle.ds_exporter.specs.Accepting.{IsNext}
use Rattle.ds_exporter.proofs.IfDone.{on_err}
use Rattle.ds_exporter.proofs.Places.{map_at_here, map_same, some_is, stands_now}
use Rattle.ds_exporter.proofs.accepting.accept_at.Goals as goal

pub accept_next-requires-clause-names : goal.accept_next-requires-clause-names
accept_next-requires-clause-names c =
    c.requires.names (connection_of c.index_mut.result.now) (stands_now connection_of c.args.conns.now.items c.args.place c.index_mut.result.now c.requires.place c.index_mut.ensures.value)

pub returns-clause-ok : goal.returns-clause-ok
returns-clause-ok c =
    let there = stands_now connection_of c.args.conns.now.items c.args.place c.index_mut.result.now c.requires.place c.index_mut.ensures.value in
    λ k h. (
      connection_of c.accept_next.new.conn,
      map_at_here connection_of (λ _. connection_of c.accept_next.new.conn) c.args.place c.args.conns.now.items c.index_mut.result.now c.accept_next.new.conn c.requires.place refl,
      subst (λ (x : Connection). IsNext c.in_ok-moved.moved c.args.stamp x (connection_of c.accept_next.new.conn) (map inlet_of c.args.inlets.now.items) (map inlet_of c.accept_next.new.inlets.items))
          (some_is (connection_of c.index_mut.result.now) k (sym there ∙ h)) c.in_ok-moved.ensures.ok,
    )

pub returns-in_err-moved-clause-conns : goal.returns-in_err-moved-clause-conns
returns-in_err-moved-clause-conns c =
    on_err (map connection_of (slice_set c.args.conns.now.items c.args.place c.accept_next.new.conn) ≡ map connection_of c.args.conns.now.items) c.from_residual.result
    (map_same connection_of c.args.place c.args.conns.now.items c.index_mut.result.now c.accept_next.new.conn c.requires.place (c.in_err-moved.ensures.conn ∙ ap connection_of c.index_mut.ensures.value))
