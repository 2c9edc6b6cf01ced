-- What an event of a host leaves of its connections.
use Rattle.std.proofs.Common.{◌≡◌, ℕ, List, [], Option, Some, None, length, map, get_or, slice_get, option_map, refl, sym, ap, ◌∙◌, subst}
use Rattle.std.specs.Prelude.{Result, Ok, Err, IfOk, OnErr, unwrap_or}
use Rattle.std.specs.declared.alloc.AllocError.{AllocError}
use Rattle.std.proofs.lemmas.Option.{slice_get-map, unwrap_or-slice_get}
use Rattle.std.proofs.lemmas.List.{length-map}
use Rattle.ds_model.specs.Scheme.{Scheme}
use Rattle.ds_model.specs.Plan.{HostPlan, lane_plan}
use Rattle.ds_model.specs.Desk.{Desk}
use Rattle.ds_model.specs.World.{Conn, Host, Worker}
use Rattle.ds_model.specs.WorkerStep.{LaneAsk, WorkerWaits, Lifts, AsksRecheck, lane_ask}
use Rattle.ds_model.specs.ConnectionStep.{ConnAsk, ConnWaits, ConnInternal, AsksInlet, AsksArrival, PutsPassed}
use Rattle.ds_model.specs.Step.{HostAndConn, perform_conn, perform_lane, step_lane, ticked}
use Rattle.ds_inlet.specs.Connections.{Connection}
use Rattle.ds_scheme.specs.TheScheme.{scheme}
use Rattle.ds_exporter.specs.declared.moved.Moved.{Moved}
use Rattle.ds_exporter.specs.HostStates.{HostState}
use Rattle.ds_exporter.specs.Moving.{Moves}
use Rattle.ds_exporter.specs.PlainHosts.{arrived_of, conn_at, conn_of, ends_of, host_of, no_conn, site_of}
use Rattle.ds_hosts.specs.Nodes.{NodeState, Running, SameConns}

pub get_alike : {X : Type 0} (xs ys : List X) (i : ℕ) (d : X) → slice_get xs i ≡ slice_get ys i → get_or xs i d ≡ get_or ys i d
get_alike xs ys i d e = sym (unwrap_or-slice_get xs i d) ∙ (ap (λ o. unwrap_or o d) e ∙ unwrap_or-slice_get ys i d)

-- A DESK'S ROWS are touched by no worker, no connection and no clock

perform_lane_desk : (s : Scheme) (plan : HostPlan) (x : Host) (l : ℕ) (a : LaneAsk) → (perform_lane s plan x l a).desk ≡ x.desk
perform_lane_desk s plan x l WorkerWaits = refl
perform_lane_desk s plan x l Lifts = refl
perform_lane_desk s plan x l (AsksRecheck hand) = refl

pub lane_desk : (s : Scheme) (plan : HostPlan) (x : Host) (l : ℕ) (o : Option Worker) → (step_lane s plan x l o).desk ≡ x.desk
lane_desk s plan x l None = refl
lane_desk s plan x l (Some e) = perform_lane_desk s plan x l (lane_ask s (lane_plan plan l) e)

pub conn_desk : (s : Scheme) (plan : HostPlan) (x : Host) (k : Conn) (a : ConnAsk) → (perform_conn s plan x k a).host.desk ≡ x.desk
conn_desk s plan x k ConnWaits = refl
conn_desk s plan x k (ConnInternal next) = refl
conn_desk s plan x k (AsksInlet i number fresh stale) = refl
conn_desk s plan x k (AsksArrival lane m rest) = refl
conn_desk s plan x k (PutsPassed b m next) = refl

-- ALL CONNECTIONS

pub same_self : (x : NodeState) → SameConns x x
same_self x = record { conns = λ link place. refl; arrived = λ place. refl }

pub same_by : (x y : NodeState) → y ≡ x → SameConns x y
same_by x y e = subst (SameConns x) (sym e) (same_self x)

same_conns : (e d : HostState) → d.conns ≡ e.conns → site_of d ≡ site_of e → d.desk.desk.rows ≡ e.desk.desk.rows → SameConns (Running e) (Running d)
same_conns e d conns site rows =
    let here : d.desk.here ≡ e.desk.here = ap (λ (p : HostPlan). p.key) site in
    record {
      conns = λ link place. λ i. get_or (map (conn_of (here i) (rows i) link) (conns i)) place no_conn;
      arrived = λ place. ap (λ (cs : List Connection). get_or (map arrived_of cs) place []) conns;
    }

-- after an event that touches no row
pub same_after : (e d : HostState) (next : Host) (r : Result Moved AllocError) → next.desk.rows ≡ e.desk.desk.rows → IfOk r (λ moved. Moves moved (host_of e) (host_of d) next) → OnErr r (d ≡ e)
    → d.conns ≡ e.conns → site_of d ≡ site_of e → SameConns (Running e) (Running d)
same_after e d next (Ok moved) rows ok err conns site = same_conns e d conns site (ap (λ (x : Host). x.desk.rows) ok.0 ∙ rows)
same_after e d next (Err x) rows ok err conns site = subst (λ (s : HostState). SameConns (Running e) (Running s)) (sym err) (same_self (Running e))

pub same_after_lane : (e d : HostState) (l : ℕ) (o : Option Worker) (r : Result Moved AllocError) → IfOk r (λ moved. Moves moved (host_of e) (host_of d) (step_lane scheme (site_of e) (host_of e) l o)) → OnErr r (d ≡ e)
    → d.conns ≡ e.conns → site_of d ≡ site_of e → SameConns (Running e) (Running d)
same_after_lane e d l o r ok err conns site = same_after e d (step_lane scheme (site_of e) (host_of e) l o) r (ap (λ (k : Desk). k.rows) (lane_desk scheme (site_of e) (host_of e) l o)) ok err conns site

pub same_after_tick : (e d : HostState) (to : ℕ) (r : Result Moved AllocError) → IfOk r (λ moved. Moves moved (host_of e) (host_of d) (ticked (site_of e) to (host_of e))) → OnErr r (d ≡ e)
    → d.conns ≡ e.conns → site_of d ≡ site_of e → SameConns (Running e) (Running d)
same_after_tick e d to r ok err conns site = same_after e d (ticked (site_of e) to (host_of e)) r refl ok err conns site

-- ALL BUT ONE

-- an ask at a connection leaves the rows
pub rows_after : (e d : HostState) (conn : ℕ) (ask : ConnAsk) (r : Result Moved AllocError) → IfOk r (λ moved. Moves moved (ends_of [] conn e) (ends_of [] conn d) (perform_conn scheme (site_of e) (host_of e) (conn_at [] conn e) ask)) → OnErr r (d ≡ e)
    → d.desk.desk.rows ≡ e.desk.desk.rows
rows_after e d conn ask (Ok moved) ok err = ap (λ (x : HostAndConn). x.host.desk.rows) ok.0 ∙ ap (λ (k : Desk). k.rows) (conn_desk scheme (site_of e) (host_of e) (conn_at [] conn e) ask)
rows_after e d conn ask (Err x) ok err = ap (λ (s : HostState). s.desk.desk.rows) err

pub other_conn : (e d : HostState) (link : List ℕ) (place : ℕ) → d.desk.desk.rows ≡ e.desk.desk.rows → site_of d ≡ site_of e → slice_get d.conns place ≡ slice_get e.conns place → conn_at link place d ≡ conn_at link place e
other_conn e d link place rows site same =
    let here : d.desk.here ≡ e.desk.here = ap (λ (p : HostPlan). p.key) site in
    get_alike (map (conn_of d.desk.here d.desk.desk.rows link) d.conns) (map (conn_of e.desk.here e.desk.desk.rows link) e.conns) place no_conn
    (slice_get-map (conn_of d.desk.here d.desk.desk.rows link) d.conns place
    ∙ ((λ i. option_map (conn_of (here i) (rows i) link) (same i))
    ∙ sym (slice_get-map (conn_of e.desk.here e.desk.desk.rows link) e.conns place)))

-- as many as before
pub as_many : (before after : List Connection) → map arrived_of after ≡ map arrived_of before → length after ≡ length before
as_many before after e = sym (length-map after arrived_of) ∙ (ap length e ∙ length-map before arrived_of)
