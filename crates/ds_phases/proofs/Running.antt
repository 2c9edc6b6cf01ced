-- What arrives at a task is a run of its actor.
use Rattle.std.proofs.Common.{◌≡◌, ◌≢◌, ℕ, ◌+◌, List, [], ◌∷◌, ◌++◌, length, refl, sym, subst, ap, ◌∙◌, arith, length-append}
use Rattle.ds_merge.specs.declared.recorded.Recorded.{Recorded}
use Rattle.ds_share.specs.Receipts.{next_stamp}
use Rattle.ds_turn.specs.declared.node.Node.{Node}
use Rattle.ds_turn.specs.declared.node.BoxSeat.{BoxSeat}
use Rattle.ds_turn.specs.LaneRecords.{LaneRecord}
use Rattle.std.specs.Prelude.{Option}
use Rattle.ds_turn.specs.ConnRecords.{ConnRecord}
use Rattle.ds_turn.specs.ConnTurns.{arrive_event}
use Rattle.ds_worker.specs.declared.task.Task.{Task}
use Rattle.ds_worker.specs.declared.task.TaskActor.{TaskActor}
use Rattle.ds_worker.specs.declared.task.TaskActor.TheVariants.{Proc, Lane, Conn}
use Rattle.ds_worker.specs.Actors.{Arrived, Arrives, ConnRan}
use Rattle.ds_worker.specs.Runs.{Ran}
use Rattle.ds_worker.specs.Tasks.{HasRun, log_of_actor}
use Rattle.ds_phases.specs.Arrivals.{HasArrived, TookBytes, after_arrival, arrived_at, bytes_left, events_of, last_stamp}

pub arrives : (piece : List ℕ) (least : ℕ) (a b : ConnRecord) → piece ≢ [] → b ≡ after_arrival piece least a → Arrives a b
arrives [] least a b some e = absurd (some refl)
arrives (byte ∷ bytes) least a b some e = record { piece = byte ∷ bytes; least = least; becomes = e }

one_longer : (xs ys : List Recorded) (x : Recorded) → ys ≡ xs ++ x ∷ [] → length ys ≡ length xs + 1
one_longer xs ys x e = ap length e ∙ length-append xs (x ∷ [])

conn_runs : (boxes : List BoxSeat) (piece : List ℕ) (least : ℕ) (a b : ConnRecord) → b ≡ after_arrival piece least a → (n : ℕ) × ConnRan boxes n a b × (length b.events ≡ length a.events + n)
unfolding Ran
conn_runs boxes [] least a b e = (0, e, ap (λ (r : ConnRecord). length r.events) e ∙ omega arith)
conn_runs boxes (byte ∷ bytes) least a b e = (
  1,
  record { mid = a; before = refl; turn = Arrived (record { piece = byte ∷ bytes; least = least; becomes = e }) },
  one_longer a.events b.events (arrive_event a.conn.who (next_stamp a.stamp least) (byte ∷ bytes)) (ap (λ (r : ConnRecord). r.events) e),
)

module _ {K : Type 0} where
  still_runs : (node : Node) (a : TaskActor K) → (n : ℕ) × HasRun node n a a × (length (log_of_actor a).events ≡ length (log_of_actor a).events + n)
  unfolding Ran
  still_runs node (Proc p k) = (0, refl, omega arith)
  still_runs node (Lane i p k) = (0, (refl, refl), omega arith)
  still_runs node (Conn p) = (0, refl, omega arith)

  actor_runs : (node : Node) (piece : List ℕ) (least : ℕ) (a b : TaskActor K) → TookBytes piece least a b
      → (n : ℕ) × HasRun node n a b × (length (log_of_actor b).events ≡ length (log_of_actor a).events + n)
  actor_runs node piece least (Proc p k) b e =
      subst (λ (x : TaskActor K). (n : ℕ) × HasRun node n (Proc p k) x × (length (log_of_actor x).events ≡ length p.proc.events + n)) (sym e) (still_runs node (Proc p k))
  actor_runs node piece least (Lane i p k) b e =
      subst (λ (x : TaskActor K). (n : ℕ) × HasRun node n (Lane i p k) x × (length (log_of_actor x).events ≡ length p.lane.events + n)) (sym e) (still_runs node (Lane i p k))
  actor_runs node piece least (Conn p) (Proc q l) e = absurd e
  actor_runs node piece least (Conn p) (Lane i q l) e = absurd e
  actor_runs node piece least (Conn p) (Conn q) e = conn_runs node.boxes.items piece least p.link q.link e

  pub task_runs : (node : Node) (source : Option LaneRecord) (a b : Task K) → HasArrived source a b → (n : ℕ) × HasRun node n a.actor b.actor × (events_of b ≡ events_of a + n)
  task_runs node source a b given = actor_runs node (bytes_left source (arrived_at a.actor)) (last_stamp source) a.actor b.actor given.actor
