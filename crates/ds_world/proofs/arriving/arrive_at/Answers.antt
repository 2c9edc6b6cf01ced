use Rattle.std.proofs.Common.{◌≡◌, map, slice_set, refl, sym, ap, ◌∙◌, subst}
use Rattle.ds_exporter.proofs.IfDone.{on_err}
use Rattle.ds_exporter.proofs.Places.{map_at_here, map_same, some_is, stands_now}
use Rattle.ds_hosts.specs.Nodes.{NodeState, node_of}
use Rattle.ds_world.specs.Afters.{IsFed}
use Rattle.ds_world.proofs.OneHost.{still_is}
use Rattle.ds_world.proofs.arriving.arrive_at.Goals as goal

pub returns-clause-ok : goal.returns-clause-ok
returns-clause-ok c = λ x h.
    let there = stands_now node_of c.args.nodes.now.items c.args.host c.index_mut.result.now c.requires.there c.index_mut.ensures.value in (
      node_of c.arrive.new.self,
      map_at_here node_of (λ _. node_of c.arrive.new.self) c.args.host c.args.nodes.now.items c.index_mut.result.now c.arrive.new.self c.requires.there refl,
      subst (λ (z : NodeState). IsFed c.args.piece.now c.in_ok-moved.moved c.args.stamp c.args.place z (node_of c.arrive.new.self))
          (some_is (node_of c.index_mut.result.now) x (sym there ∙ h))
          (record {
            moves = λ link stream later whole within. c.in_ok-moved.ensures.ok link stream later whole within;
            bytes = λ within. c.in_ok-moved.ensures.arrived within;
            host = c.in_ok-moved.ensures.host;
            others = λ link other apart. c.in_ok-moved.ensures.others link other apart;
            arrived = λ other apart. c.in_ok-moved.ensures.bytes other apart;
            plan = λ plan is. c.in_ok-moved.ensures.plan plan is;
            count = c.in_ok-moved.ensures.count;
            still = λ s. c.in_ok-moved.ensures.still (still_is c.in_ok-moved.moved s);
            stamps = c.in_ok-moved.ensures.stamps;
          }),
    )

pub returns-in_err-moved-clause-err : goal.returns-in_err-moved-clause-err
returns-in_err-moved-clause-err c =
    on_err (map node_of (slice_set c.args.nodes.now.items c.args.host c.arrive.new.self) ≡ map node_of c.args.nodes.now.items) c.from_residual.result
    (map_same node_of c.args.host c.args.nodes.now.items c.index_mut.result.now c.arrive.new.self c.requires.there (c.in_err-moved.ensures.err ∙ ap node_of c.index_mut.ensures.value))

pub returns-clause-still : goal.returns-clause-still
returns-clause-still c = λ s. map_same node_of c.args.host c.args.nodes.now.items c.index_mut.result.now c.arrive.new.self c.requires.there (c.in_ok-moved.ensures.still s ∙ ap node_of c.index_mut.ensures.value)
