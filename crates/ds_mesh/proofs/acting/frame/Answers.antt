use Rattle.std.proofs.Common.{◌+◌, ◌-◌, ◌<◌, slice_get, refl, arith}
use Rattle.ds_model.specs.Plan.{HostPlan}
use Rattle.ds_model.specs.World.{Host}
use Rattle.ds_model.specs.Step.{step_lane}
use Rattle.ds_delivery.proofs.Arrivals.{lane_grows}
use Rattle.ds_scheme.specs.TheScheme.{scheme}
use Rattle.ds_plan.specs.declared.event.Event.{Event}
use Rattle.ds_plan.specs.declared.event.Event.TheVariants as written
use Rattle.ds_hosts.specs.Nodes.{NodeState, node_of}
use Rattle.ds_world.specs.Afters.{IsStepped}
use Rattle.ds_world.proofs.OneHost.{still_is}
use Rattle.ds_mesh.specs.declared.task.Task.{Task}
use Rattle.ds_mesh.proofs.Works.{did_step, works_event, works_none, works_still}
use Rattle.ds_mesh.proofs.acting.frame.Goals as goal

pub returns-then-task-eq0 : goal.returns-then-task-eq0
returns-then-task-eq0 c = works_none c.args.doc.now c.args.task.now c.requires

pub returns-in-Still : goal.returns-in-Still
returns-in-Still c = works_still c.args.doc.now c.args.task.now c.frame.new.self c.requires (c.in_ok-frame.ensures.still (still_is c.in_ok-frame.field-0 c.in-Still.is))

pub returns-in_ok-keep-in-Changed : goal.returns-in_ok-keep-in-Changed
returns-in_ok-keep-in-Changed c =
    let t : Task = c.args.task.now in
    let x : NodeState = node_of t.node in
    let y : NodeState = node_of c.frame.new.self in
    let becomes : HostPlan → Host → Host = λ plan z. step_lane scheme plan z (c.args.lane - 1) (slice_get z.workers (c.args.lane - 1)) in
    let event : Event = written.Frame t.host c.args.lane in
    let some : 0 < t.left = omega (arith, c.if-task-eq0.false) in
    let stepped : IsStepped becomes c.in_ok-frame.field-0 (t.stamp + 1) x y = record {
      moves = λ plan is. c.in_ok-frame.ensures.ok plan is;
      same = c.in_ok-frame.ensures.same;
      plan = λ plan is. c.in_ok-frame.ensures.plan plan is;
      count = c.in_ok-frame.ensures.count;
      still = λ s. c.in_ok-frame.ensures.still (still_is c.in_ok-frame.field-0 s);
      stamps = c.in_ok-frame.ensures.stamps;
    } in
    works_event c.args.doc.now t c.keep.new.task c.frame.new.self event c.requires some
    (did_step c.args.doc.now t.host t.stamp becomes c.in_ok-frame.field-0 event x y (λ plan z. lane_grows scheme plan z (c.args.lane - 1) (slice_get z.workers (c.args.lane - 1))) (λ w. refl) stepped c.hands.ensures)
    c.in_ok-keep-in-Changed.ensures.rest c.in_ok-keep-in-Changed.ensures.counts c.in_ok-keep-in-Changed.ensures.events
