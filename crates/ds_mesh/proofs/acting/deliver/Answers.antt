use Rattle.std.proofs.Common.{ℕ, ◌+◌, ◌<◌, List, [], ◌∷◌, refl, subst, arith}
use Rattle.ds_model.specs.Plan.{HostPlan}
use Rattle.ds_model.specs.World.{Conn}
use Rattle.ds_model.specs.ConnectionStep.{ConnAsk, deliver as asks_to}
use Rattle.ds_scheme.specs.TheScheme.{scheme}
use Rattle.ds_plan.specs.declared.event.Event.{Event}
use Rattle.ds_plan.specs.declared.event.Event.TheVariants as written
use Rattle.ds_hosts.specs.Nodes.{NodeState, node_of}
use Rattle.ds_world.specs.Afters.{IsAnswered}
use Rattle.ds_world.proofs.OneHost.{still_is}
use Rattle.ds_mesh.specs.declared.task.Task.{Task}
use Rattle.ds_mesh.specs.Workings.{Did}
use Rattle.ds_mesh.proofs.Works.{did_answer, works_event, works_none, works_still}
use Rattle.ds_mesh.proofs.acting.deliver.Goals as goal

pub returns-then-task-eq0 : goal.returns-then-task-eq0
returns-then-task-eq0 c = works_none c.args.doc.now c.args.task.now c.requires.ready

pub returns-in-Still : goal.returns-in-Still
returns-in-Still c = works_still c.args.doc.now c.args.task.now c.deliver.new.self c.requires.ready (c.in_ok-deliver.ensures.still (still_is c.in_ok-deliver.field-0 c.in-Still.is))

pub returns-in_ok-keep-in-Changed : goal.returns-in_ok-keep-in-Changed
returns-in_ok-keep-in-Changed c =
    let t : Task = c.args.task.now in
    let x : NodeState = node_of t.node in
    let y : NodeState = node_of c.deliver.new.self in
    let asks : HostPlan → Conn → List ℕ → ConnAsk = λ plan k bytes. asks_to scheme plan k bytes in
    let event : Event = written.Deliver c.args.conn in
    let some : 0 < t.left = omega (arith, c.if-task-eq0.false) in
    let answered : IsAnswered asks c.in_ok-deliver.field-0 (t.stamp + 1) c.args.route.place x y = record {
      moves = λ link plan is. c.in_ok-deliver.ensures.ok link plan is;
      others = λ link other apart. c.in_ok-deliver.ensures.others link other apart;
      arrived = λ other. c.in_ok-deliver.ensures.arrived other;
      plan = λ plan is. c.in_ok-deliver.ensures.plan plan is;
      count = c.in_ok-deliver.ensures.count;
      still = λ s. c.in_ok-deliver.ensures.still (still_is c.in_ok-deliver.field-0 s);
      stamps = c.in_ok-deliver.ensures.stamps;
    } in
    works_event c.args.doc.now t c.keep.new.task c.deliver.new.self event c.requires.ready some
    (subst (λ (h : ℕ). Did c.args.doc.now h t.stamp (event ∷ []) x y) c.requires.host
    (did_answer c.args.doc.now c.args.conn t.stamp c.args.route asks c.in_ok-deliver.field-0 event x y (λ w. refl) c.requires.route answered c.hands.ensures))
    c.in_ok-keep-in-Changed.ensures.rest c.in_ok-keep-in-Changed.ensures.counts c.in_ok-keep-in-Changed.ensures.events
