-- What stands in a world after an event.
use Rattle.std.proofs.Common.{◌≡◌, ℕ, List, Option, Some, slice_get, option_map, ◌∙◌, ap, ap₂}
use Rattle.ds_model.specs.Lists.{at}
use Rattle.ds_model.specs.Scheme.{Scheme}
use Rattle.ds_model.specs.Plan.{Plan, host_plan, conn_plan, lane_plan}
use Rattle.ds_model.specs.World.{Process, Worker, Conn, Host, World}
use Rattle.ds_model.specs.ProcessStep.{Ask, ask}
use Rattle.ds_model.specs.WorkerStep.{LaneAsk, lane_ask}
use Rattle.ds_model.specs.ConnectionStep.{ConnAsk, accept, deliver}
use Rattle.ds_model.specs.Step.{Event, Step, Frame, Accept, Deliver, resolve, happens, arrived, perform, step_proc, perform_lane, step_lane, perform_conn, step_conn, step}
use Rattle.ds_model.proofs.Places.{at_here}

-- what stands at a place that was changed
pub changed : {X : Type 0} (i : ℕ) (f : X → X) (xs : List X) (x : X) → slice_get xs i ≡ Some x → slice_get (at i f xs) i ≡ Some (f x)
changed i f xs x e = at_here i f xs ∙ ap (option_map f) e

module _ (s : Scheme) (plan : Plan) (w : World) where
  module _ (h p : ℕ) (x : Host) (y : Process) (stands : slice_get w.hosts h ≡ Some x) (acts : slice_get x.procs p ≡ Some y) where
    pub host_after : (a : Ask) → ask (host_plan plan h) p y ≡ a → slice_get (step s plan w (Step h p)).hosts h ≡ Some (perform s (host_plan plan h) x p a)
    host_after a is = changed h (λ x'. step_proc s (host_plan plan h) x' p (slice_get x'.procs p)) w.hosts x stands
        ∙ (ap (λ o. Some (step_proc s (host_plan plan h) x p o)) acts ∙ ap (λ b. Some (perform s (host_plan plan h) x p b)) is)

  pub frame_after : (h l : ℕ) (x : Host) (e : Worker) (a : LaneAsk) → slice_get w.hosts h ≡ Some x → slice_get x.workers l ≡ Some e → lane_ask s (lane_plan (host_plan plan h) l) e ≡ a → slice_get (step s plan w (Frame h l)).hosts h ≡ Some (perform_lane s (host_plan plan h) x l a)
  frame_after h l x e a stands works is = changed h (λ x'. step_lane s (host_plan plan h) x' l (slice_get x'.workers l)) w.hosts x stands
      ∙ (ap (λ o. Some (step_lane s (host_plan plan h) x l o)) works ∙ ap (λ b. Some (perform_lane s (host_plan plan h) x l b)) is)

  pub conn_after : (k : ℕ) (asks : Conn → ConnAsk) (x : Host) (y : Conn) (o : Option Host) (q : Option Conn) → o ≡ Some x → q ≡ Some y → slice_get w.conns k ≡ Some y → (a : ConnAsk) → asks y ≡ a →
      slice_get (step_conn s plan w (conn_plan plan k).host k asks o q).conns k ≡ Some (perform_conn s (host_plan plan (conn_plan plan k).host) x y a).conn
  conn_after k asks x y o q there here e a is =
      ap₂ (λ u v. slice_get (step_conn s plan w (conn_plan plan k).host k asks u v).conns k) there here
      ∙ (changed k (λ _. (perform_conn s (host_plan plan (conn_plan plan k).host) x y (asks y)).conn) w.conns y e
      ∙ ap (λ b. Some (perform_conn s (host_plan plan (conn_plan plan k).host) x y b).conn) is)

  pub end_after : (k : ℕ) (asks : Conn → ConnAsk) (x : Host) (y : Conn) (o : Option Host) (q : Option Conn) → o ≡ Some x → q ≡ Some y → slice_get w.hosts (conn_plan plan k).host ≡ Some x → (a : ConnAsk) → asks y ≡ a →
      slice_get (step_conn s plan w (conn_plan plan k).host k asks o q).hosts (conn_plan plan k).host ≡ Some (perform_conn s (host_plan plan (conn_plan plan k).host) x y a).host
  end_after k asks x y o q there here e a is =
      ap₂ (λ u v. slice_get (step_conn s plan w (conn_plan plan k).host k asks u v).hosts (conn_plan plan k).host) there here
      ∙ (changed (conn_plan plan k).host (λ _. (perform_conn s (host_plan plan (conn_plan plan k).host) x y (asks y)).host) w.hosts x e
      ∙ ap (λ b. Some (perform_conn s (host_plan plan (conn_plan plan k).host) x y b).host) is)

  module _ (k : ℕ) (x : Host) (y : Conn) (stands : slice_get w.hosts (conn_plan plan k).host ≡ Some x) (here : slice_get w.conns k ≡ Some y) where
    pub accept_after : (a : ConnAsk) → accept s (host_plan plan (conn_plan plan k).host) y (arrived w (conn_plan plan k).source y) ≡ a → slice_get (step s plan w (Accept k)).conns k ≡ Some (perform_conn s (host_plan plan (conn_plan plan k).host) x y a).conn
    accept_after a is = conn_after k (λ conn. accept s (host_plan plan (conn_plan plan k).host) conn (arrived w (conn_plan plan k).source conn)) x y (slice_get w.hosts (conn_plan plan k).host) (slice_get w.conns k) stands here here a is

    pub deliver_after : (a : ConnAsk) → deliver s (host_plan plan (conn_plan plan k).host) y (arrived w (conn_plan plan k).source y) ≡ a → slice_get (step s plan w (Deliver k)).conns k ≡ Some (perform_conn s (host_plan plan (conn_plan plan k).host) x y a).conn
    deliver_after a is = conn_after k (λ conn. deliver s (host_plan plan (conn_plan plan k).host) conn (arrived w (conn_plan plan k).source conn)) x y (slice_get w.hosts (conn_plan plan k).host) (slice_get w.conns k) stands here here a is

    pub accept_end : (a : ConnAsk) → accept s (host_plan plan (conn_plan plan k).host) y (arrived w (conn_plan plan k).source y) ≡ a → slice_get (step s plan w (Accept k)).hosts (conn_plan plan k).host ≡ Some (perform_conn s (host_plan plan (conn_plan plan k).host) x y a).host
    accept_end a is = end_after k (λ conn. accept s (host_plan plan (conn_plan plan k).host) conn (arrived w (conn_plan plan k).source conn)) x y (slice_get w.hosts (conn_plan plan k).host) (slice_get w.conns k) stands here stands a is

    pub deliver_end : (a : ConnAsk) → deliver s (host_plan plan (conn_plan plan k).host) y (arrived w (conn_plan plan k).source y) ≡ a → slice_get (step s plan w (Deliver k)).hosts (conn_plan plan k).host ≡ Some (perform_conn s (host_plan plan (conn_plan plan k).host) x y a).host
    deliver_end a is = end_after k (λ conn. deliver s (host_plan plan (conn_plan plan k).host) conn (arrived w (conn_plan plan k).source conn)) x y (slice_get w.hosts (conn_plan plan k).host) (slice_get w.conns k) stands here stands a is

-- an event that means another one is followed by the same world
pub means_after : (s : Scheme) (plan : Plan) (w : World) (e f : Event) → resolve plan w e ≡ f → step s plan w e ≡ happens s plan w f
means_after s plan w e f is = ap (happens s plan w) is
