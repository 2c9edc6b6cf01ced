-- Tasks over many phases.
use Rattle.std.proofs.Common.{◌≡◌, ℕ, ◌+◌, List, Option, Some, None, slice_get, subst, ◌∙◌}
use Rattle.ds_share.specs.declared.desk_act.TurnFault.{TurnFault}
use Rattle.ds_turn.specs.declared.node.Node.{Node}
use Rattle.ds_turn.specs.Nodes.{seen_of}
use Rattle.ds_turn.specs.ProcTurns.{TookProcTurn}
use Rattle.ds_turn.specs.LaneTurns.{TookTurn}
use Rattle.ds_worker.specs.declared.task.Task.{Task}
use Rattle.ds_worker.specs.declared.task.TaskActor.{TaskActor}
use Rattle.ds_worker.specs.declared.task.TaskActor.TheVariants.{Proc, Lane, Conn}
use Rattle.ds_worker.specs.Actors.{ConnMoved, ConnTurned, Turned}
use Rattle.ds_worker.specs.Logs.{Grew, log_of_conn, log_of_lane, log_of_proc}
use Rattle.ds_worker.specs.Tasks.{HasRun, HasWorked, IsWorked, log_of_actor}
use Rattle.ds_worker.proofs.Growing.{conn_grows, lane_grows, proc_grows}
use Rattle.ds_worker.proofs.Logging.{grew_run}
use Rattle.ds_worker.proofs.Running.{ran_as, ran_join}
use Rattle.ds_worker.proofs.Stopping.{conn_made, lane_made, proc_made}

same_node : (o : Option Node) (x y : Node) → o ≡ Some x → o ≡ Some y → x ≡ y
same_node o x y one two = cc

module _ {K : Type 0} where
  -- ONE PHASE

  run_of : (faults_of : K → ℕ) (node : Node) (n : ℕ) (a b : TaskActor K) → IsWorked faults_of node None n a b → HasRun node n a b
  run_of faults_of node n (Proc p k) (Proc q l) w = w.0.ran
  run_of faults_of node n (Proc p k) (Lane i q l) w = absurd w
  run_of faults_of node n (Proc p k) (Conn q) w = absurd w
  run_of faults_of node n (Lane i p k) (Proc q l) w = absurd w
  run_of faults_of node n (Lane i p k) (Lane j q l) w = (w.0, w.1.ran)
  run_of faults_of node n (Lane i p k) (Conn q) w = absurd w
  run_of faults_of node n (Conn p) (Proc q l) w = absurd w
  run_of faults_of node n (Conn p) (Lane j q l) w = absurd w
  run_of faults_of node n (Conn p) (Conn q) w =
      ran_as (ConnTurned node.boxes.items) (ConnMoved node.boxes.items) (λ x y turn. Turned turn) n p.link q.link w.0.ran

  pub task_run : (faults_of : K → ℕ) (nodes : List Node) (node : Node) (a b : Task K) → HasWorked faults_of nodes a b → b.fault ≡ None → slice_get nodes a.host ≡ Some node
      → HasRun node b.made a.actor b.actor
  task_run faults_of nodes node a b w none there =
      let here : w.node ≡ node = same_node (slice_get nodes a.host) w.node node w.there there in
      let whole : IsWorked faults_of w.node None b.made a.actor b.actor = subst (λ (f : Option TurnFault). IsWorked faults_of w.node f b.made a.actor b.actor) none w.worked in
      subst (λ (x : Node). HasRun x b.made a.actor b.actor) here (run_of faults_of w.node b.made a.actor b.actor whole)

  made_logs : (faults_of : K → ℕ) (node : Node) (fault : Option TurnFault) (n : ℕ) (a b : TaskActor K) → IsWorked faults_of node fault n a b → Grew n (log_of_actor a) (log_of_actor b)
  made_logs faults_of node fault n (Proc p k) (Proc q l) w = proc_made (seen_of node) fault n p.proc q.proc w.0
  made_logs faults_of node fault n (Proc p k) (Lane i q l) w = absurd w
  made_logs faults_of node fault n (Proc p k) (Conn q) w = absurd w
  made_logs faults_of node fault n (Lane i p k) (Proc q l) w = absurd w
  made_logs faults_of node fault n (Lane i p k) (Lane j q l) w = lane_made fault n p.lane q.lane w.1
  made_logs faults_of node fault n (Lane i p k) (Conn q) w = absurd w
  made_logs faults_of node fault n (Conn p) (Proc q l) w = absurd w
  made_logs faults_of node fault n (Conn p) (Lane j q l) w = absurd w
  made_logs faults_of node fault n (Conn p) (Conn q) w = conn_made node.boxes.items fault n p.link q.link w.0

  pub task_grew : (faults_of : K → ℕ) (nodes : List Node) (a b : Task K) → HasWorked faults_of nodes a b → Grew b.made (log_of_actor a.actor) (log_of_actor b.actor)
  task_grew faults_of nodes a b w = made_logs faults_of w.node b.fault b.made a.actor b.actor w.worked

  -- MANY PHASES

  pub actor_joins : (node : Node) (n m : ℕ) (a b c : TaskActor K) → HasRun node n a b → HasRun node m b c → HasRun node (n + m) a c
  actor_joins node n m (Proc p k) (Proc q l) (Proc r h) one two = ran_join (TookProcTurn (seen_of node)) n m p.proc q.proc r.proc one two
  actor_joins node n m (Lane i p k) (Lane j q l) (Lane t r h) one two = (two.0 ∙ one.0, ran_join TookTurn n m p.lane q.lane r.lane one.1 two.1)
  actor_joins node n m (Conn p) (Conn q) (Conn r) one two = ran_join (ConnMoved node.boxes.items) n m p.link q.link r.link one two
  actor_joins node n m (Proc p k) (Lane j q l) c one two = absurd one
  actor_joins node n m (Proc p k) (Conn q) c one two = absurd one
  actor_joins node n m (Lane i p k) (Proc q l) c one two = absurd one
  actor_joins node n m (Lane i p k) (Conn q) c one two = absurd one
  actor_joins node n m (Conn p) (Proc q l) c one two = absurd one
  actor_joins node n m (Conn p) (Lane j q l) c one two = absurd one
  actor_joins node n m (Proc p k) (Proc q l) (Lane t r h) one two = absurd two
  actor_joins node n m (Proc p k) (Proc q l) (Conn r) one two = absurd two
  actor_joins node n m (Lane i p k) (Lane j q l) (Proc r h) one two = absurd two
  actor_joins node n m (Lane i p k) (Lane j q l) (Conn r) one two = absurd two
  actor_joins node n m (Conn p) (Conn q) (Proc r h) one two = absurd two
  actor_joins node n m (Conn p) (Conn q) (Lane t r h) one two = absurd two

  pub actor_grew : (node : Node) (n : ℕ) (a b : TaskActor K) → HasRun node n a b → Grew n (log_of_actor a) (log_of_actor b)
  actor_grew node n (Proc p k) (Proc q l) run = grew_run (TookProcTurn (seen_of node)) log_of_proc (proc_grows (seen_of node)) n p.proc q.proc run
  actor_grew node n (Proc p k) (Lane j q l) run = absurd run
  actor_grew node n (Proc p k) (Conn q) run = absurd run
  actor_grew node n (Lane i p k) (Proc q l) run = absurd run
  actor_grew node n (Lane i p k) (Lane j q l) run = grew_run TookTurn log_of_lane lane_grows n p.lane q.lane run.1
  actor_grew node n (Lane i p k) (Conn q) run = absurd run
  actor_grew node n (Conn p) (Proc q l) run = absurd run
  actor_grew node n (Conn p) (Lane j q l) run = absurd run
  actor_grew node n (Conn p) (Conn q) run = grew_run (ConnMoved node.boxes.items) log_of_conn (conn_grows node.boxes.items) n p.link q.link run
