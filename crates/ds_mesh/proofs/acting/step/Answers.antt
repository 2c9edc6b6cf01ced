use Rattle.std.proofs.Common.{◌+◌, ◌<◌, slice_get, refl, arith}
use Rattle.ds_model.specs.Plan.{HostPlan}
use Rattle.ds_model.specs.World.{Host}
use Rattle.ds_model.specs.Step.{step_proc}
use Rattle.ds_delivery.proofs.Arrivals.{proc_grows}
use Rattle.ds_scheme.specs.TheScheme.{scheme}
use Rattle.ds_plan.specs.declared.event.Event.{Event}
use Rattle.ds_plan.specs.declared.event.Event.TheVariants as written
use Rattle.ds_hosts.specs.Nodes.{NodeState, node_of}
use Rattle.ds_world.specs.Afters.{IsStepped}
use Rattle.ds_world.proofs.OneHost.{still_is}
use Rattle.ds_mesh.specs.declared.task.Task.{Task}
use Rattle.ds_mesh.proofs.Works.{did_step, works_event, works_none, works_still}
use Rattle.ds_mesh.proofs.acting.step.Goals as goal

pub returns-then-task-eq0 : goal.returns-then-task-eq0
returns-then-task-eq0 c = works_none c.args.doc.now c.args.task.now c.requires

pub returns-in-Still : goal.returns-in-Still
returns-in-Still c = works_still c.args.doc.now c.args.task.now c.step.new.self c.requires (c.in_ok-step.ensures.still (still_is c.in_ok-step.field-0 c.in-Still.is))

pub returns-in_ok-keep-in-Changed : goal.returns-in_ok-keep-in-Changed
returns-in_ok-keep-in-Changed c =
    let t : Task = c.args.task.now in
    let x : NodeState = node_of t.node in
    let y : NodeState = node_of c.step.new.self in
    let becomes : HostPlan → Host → Host = λ plan z. step_proc scheme plan z c.args.index (slice_get z.procs c.args.index) in
    let event : Event = written.Step t.host c.args.index in
    let some : 0 < t.left = omega (arith, c.if-task-eq0.false) in
    let stepped : IsStepped becomes c.in_ok-step.field-0 (t.stamp + 1) x y = record {
      moves = λ plan is. c.in_ok-step.ensures.ok plan is;
      same = c.in_ok-step.ensures.same;
      plan = λ plan is. c.in_ok-step.ensures.plan plan is;
      count = c.in_ok-step.ensures.count;
      still = λ s. c.in_ok-step.ensures.still (still_is c.in_ok-step.field-0 s);
      stamps = c.in_ok-step.ensures.stamps;
    } in
    works_event c.args.doc.now t c.keep.new.task c.step.new.self event c.requires some
    (did_step c.args.doc.now t.host t.stamp becomes c.in_ok-step.field-0 event x y (λ plan z. proc_grows scheme plan z c.args.index (slice_get z.procs c.args.index)) (λ w. refl) stepped c.hands.ensures)
    c.in_ok-keep-in-Changed.ensures.rest c.in_ok-keep-in-Changed.ensures.counts c.in_ok-keep-in-Changed.ensures.events
