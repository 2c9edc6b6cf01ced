use Rattle.std.proofs.Common.{◌≡◌, map, refl, sym, ap, subst, slice_set, ◌∙◌}
use Rattle.ds_inlet.specs.Connections.{Connection}
use Rattle.ds_exporter.specs.HostStates.{box_of, connection_of}
use Rattle.ds_exporter.specs.Delivering.{IsPut}
use Rattle.ds_exporter.proofs.IfDone.{on_err}
use Rattle.ds_exporter.proofs.Places.{map_at_here, map_same, some_is, stands_now}
use Rattle.ds_exporter.proofs.posting.put_passed.Goals as goal

pub put_next-requires-clause-mailbox : goal.put_next-requires-clause-mailbox
put_next-requires-clause-mailbox c =
    (c.requires.ready (connection_of c.index_mut.result.now) (stands_now connection_of c.args.conns.now.items c.args.place c.index_mut.result.now c.requires.place c.index_mut.ensures.value)).1

pub returns-in_err-put_next-clause-conns : goal.returns-in_err-put_next-clause-conns
returns-in_err-put_next-clause-conns c =
    on_err (map connection_of (slice_set c.args.conns.now.items c.args.place c.put_next.new.conn) ≡ map connection_of c.args.conns.now.items) c.from_residual.result
    (map_same connection_of c.args.place c.args.conns.now.items c.index_mut.result.now c.put_next.new.conn c.requires.place (c.in_err-put_next.ensures.conn ∙ ap connection_of c.index_mut.ensures.value))

pub returns-clause-ok : goal.returns-clause-ok
returns-clause-ok c =
    let there = stands_now connection_of c.args.conns.now.items c.args.place c.index_mut.result.now c.requires.place c.index_mut.ensures.value in
    λ k h. (
      connection_of c.put_next.new.conn,
      map_at_here connection_of (λ _. connection_of c.put_next.new.conn) c.args.place c.args.conns.now.items c.index_mut.result.now c.put_next.new.conn c.requires.place refl,
      subst (λ (x : Connection). IsPut c.args.stamp x (connection_of c.put_next.new.conn) (map box_of c.args.boxes.now.items) (map box_of c.put_next.new.boxes.items))
          (some_is (connection_of c.index_mut.result.now) k (sym there ∙ h)) c.in_ok-put_next.ensures.ok,
    )
