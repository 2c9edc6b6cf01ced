-- Each actor becomes what it asked and the answer alone say, in a whole world.
use Rattle.std.proofs.Common.{◌≡◌, ℕ, Option, Some, None, slice_get, option_map, refl, sym, ◌∙◌, ap}
use Rattle.ds_model.specs.Scheme.{Scheme}
use Rattle.ds_model.specs.Plan.{HostPlan, Plan, host_plan, lane_plan, conn_plan}
use Rattle.ds_model.specs.World.{Process, Worker, Conn, Host, World}
use Rattle.ds_model.specs.ProcessStep.{ask}
use Rattle.ds_model.specs.WorkerStep.{lane_ask}
use Rattle.ds_model.specs.ConnectionStep.{ConnAsk, accept, deliver}
use Rattle.ds_model.specs.Step.{Step, Frame, Accept, Deliver, arrived, step_proc, step_lane, worker_at, perform_conn, step_conn}
use Rattle.ds_model.specs.Views.{proc_in}
use Rattle.ds_model.specs.Replies.{proc_reply, proc_after_reply, worker_reply, worker_after_reply, conn_after_reply}
use Rattle.ds_model.proofs.Places.{at_here}
use Rattle.ds_model.proofs.Answers.{processes_told, workers_told, connections_told}
use Rattle.ds_replay.specs.Told.{answer_to_proc, answer_to_worker, answer_to_conn, answer_in}
use Rattle.ds_replay.specs.Laws.{ProcessesLearn, WorkersLearn, ConnectionsLearn}

module _ (s : Scheme) (plan : HostPlan) (x : Host) where
  proc_learns : (p : ℕ) (o : Option Process) → slice_get x.procs p ≡ o → slice_get (step_proc s plan x p o).procs p ≡ option_map (λ y. proc_after_reply (ask plan p y) (answer_to_proc s plan x p o) y) o
  proc_learns p None e = e
  proc_learns p (Some y) e = processes_told s plan x p (ask plan p y) ∙ ap (option_map (proc_after_reply (ask plan p y) (proc_reply s plan x (ask plan p y)))) e

  worker_learns : (l : ℕ) (o : Option Worker) → slice_get x.workers l ≡ o → slice_get (step_lane s plan x l o).workers l ≡ option_map (λ e. worker_after_reply s plan l (lane_ask s (lane_plan plan l) e) (answer_to_worker s plan x l o) e) o
  worker_learns l None e = e
  worker_learns l (Some k) e = workers_told s plan x l (lane_ask s (lane_plan plan l) k) ∙ ap (option_map (worker_after_reply s plan l (lane_ask s (lane_plan plan l) k) (worker_reply s x l (lane_ask s (lane_plan plan l) k)))) e

module _ (s : Scheme) (plan : Plan) (w : World) where
  proc_learns_in : (h p : ℕ) (q : Option Host) → proc_in (option_map (λ x. step_proc s (host_plan plan h) x p (slice_get x.procs p)) q) p ≡ option_map (λ y. proc_after_reply (ask (host_plan plan h) p y) (answer_in s plan w (Step h p) q) y) (proc_in q p)
  proc_learns_in h p None = refl
  proc_learns_in h p (Some x) = proc_learns s (host_plan plan h) x p (slice_get x.procs p) refl

  worker_learns_in : (h l : ℕ) (q : Option Host) → worker_at (option_map (λ x. step_lane s (host_plan plan h) x l (slice_get x.workers l)) q) l ≡ option_map (λ e. worker_after_reply s (host_plan plan h) l (lane_ask s (lane_plan (host_plan plan h) l) e) (answer_in s plan w (Frame h l) q) e) (worker_at q l)
  worker_learns_in h l None = refl
  worker_learns_in h l (Some x) = worker_learns s (host_plan plan h) x l (slice_get x.workers l) refl

  conn_learns : (h k : ℕ) (asks : Conn → ConnAsk) (x : Host) (o : Option Conn) → slice_get w.conns k ≡ o → slice_get (step_conn s plan w h k asks (Some x) o).conns k ≡ option_map (λ y. conn_after_reply (asks y) (answer_to_conn s (host_plan plan h) asks x o) y) o
  conn_learns h k asks x None e = e
  conn_learns h k asks x (Some y) e = at_here k (λ _. (perform_conn s (host_plan plan h) x y (asks y)).conn) w.conns ∙ (ap (option_map (λ _. (perform_conn s (host_plan plan h) x y (asks y)).conn)) e ∙ ap Some (connections_told s (host_plan plan h) x y (asks y)))

pub processes_learn : ProcessesLearn
processes_learn s plan w h p = ap (λ q. proc_in q p) (at_here h (λ x. step_proc s (host_plan plan h) x p (slice_get x.procs p)) w.hosts) ∙ proc_learns_in s plan w h p (slice_get w.hosts h)

pub workers_learn : WorkersLearn
workers_learn s plan w h l = ap (λ q. worker_at q l) (at_here h (λ x. step_lane s (host_plan plan h) x l (slice_get x.workers l)) w.hosts) ∙ worker_learns_in s plan w h l (slice_get w.hosts h)

pub connections_learn : ConnectionsLearn
connections_learn s plan w k x there = (
  ap (λ o. slice_get (step_conn s plan w (conn_plan plan k).host k (λ conn. accept s (host_plan plan (conn_plan plan k).host) conn (arrived w (conn_plan plan k).source conn)) o (slice_get w.conns k)).conns k) there
      ∙ (conn_learns s plan w (conn_plan plan k).host k (λ conn. accept s (host_plan plan (conn_plan plan k).host) conn (arrived w (conn_plan plan k).source conn)) x (slice_get w.conns k) refl
      ∙ ap (λ o. option_map (λ y. conn_after_reply (accept s (host_plan plan (conn_plan plan k).host) y (arrived w (conn_plan plan k).source y)) (answer_in s plan w (Accept k) o) y) (slice_get w.conns k)) (sym there)),
  ap (λ o. slice_get (step_conn s plan w (conn_plan plan k).host k (λ conn. deliver s (host_plan plan (conn_plan plan k).host) conn (arrived w (conn_plan plan k).source conn)) o (slice_get w.conns k)).conns k) there
      ∙ (conn_learns s plan w (conn_plan plan k).host k (λ conn. deliver s (host_plan plan (conn_plan plan k).host) conn (arrived w (conn_plan plan k).source conn)) x (slice_get w.conns k) refl
      ∙ ap (λ o. option_map (λ y. conn_after_reply (deliver s (host_plan plan (conn_plan plan k).host) y (arrived w (conn_plan plan k).source y)) (answer_in s plan w (Deliver k) o) y) (slice_get w.conns k)) (sym there)),
)
