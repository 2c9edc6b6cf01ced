-- How setup leaves a plan and a world.
use Rattle.std.specs.Prelude.{◌≡◌, ℕ, [], Some, None, slice_get}
use Rattle.ds_model.specs.Scheme.{Scheme}
use Rattle.ds_model.specs.Plan.{Plan, OfLane, IsLane, host_plan, conn_plan, lane_plan}
use Rattle.ds_model.specs.World.{Process, Queue, Worker, Conn, Host, World}

-- The connection of a lane is that of a lane of the plan. Nothing is judged, waits, is in hand or is passed, and each
-- lane's stream is its hello.
pub record IsSetup (s : Scheme) (plan : Plan) (w : World) : Type 0 where
  pub conn_plans : (k h l : ℕ) → (conn_plan plan k).source ≡ OfLane h l → IsLane plan h l
  pub procs : (h : ℕ) (x : Host) (p : ℕ) (y : Process) → slice_get w.hosts h ≡ Some x → slice_get x.procs p ≡ Some y →
      y.hand ≡ None
  pub queues : (h : ℕ) (x : Host) (l : ℕ) (q : Queue) → slice_get w.hosts h ≡ Some x → slice_get x.queues l ≡ Some q →
      q ≡ []
  pub workers : (h : ℕ) (x : Host) (l : ℕ) (e : Worker) → slice_get w.hosts h ≡ Some x →
      slice_get x.workers l ≡ Some e →
      (e.hand ≡ []) × (e.stream ≡ s.hello (lane_plan (host_plan plan h) l).cert)
  pub conns : (k : ℕ) (y : Conn) → slice_get w.conns k ≡ Some y → (y.hand ≡ []) × (y.passed ≡ None)
