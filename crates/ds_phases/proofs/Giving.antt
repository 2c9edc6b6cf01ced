-- What arrives at one task.
use Rattle.std.proofs.Common.{◌≡◌, ℕ, ◌+◌, ◌<◌, ◌≤◌, List, [], ◌∷◌, ◌++◌, drop, length, Option, Some, None, slice_get, slice_set, refl, sym, subst, ap, ◌∙◌, arith, length-append, length-drop}
use Rattle.std.specs.Prelude.{Result, Ok, Err, OnErr, slice_index_or}
use Rattle.std.proofs.lemmas.List.{append-nil, drop_all, set-get_or}
use Rattle.std.proofs.lemmas.Option.{slice_get-get_or, slice_get_read}
use Rattle.ds_turn.specs.declared.node.Node.{Node}
use Rattle.ds_turn.specs.LaneRecords.{LaneRecord}
use Rattle.ds_turn.specs.ConnRecords.{ConnRecord}
use Rattle.ds_turn.specs.ConnTurns.{LeadsTo}
use Rattle.ds_worker.specs.declared.task.Task.{Task}
use Rattle.ds_worker.specs.declared.task.TaskActor.{TaskActor}
use Rattle.ds_worker.specs.declared.task.TaskActor.TheVariants.{Proc, Lane, Conn}
use Rattle.ds_worker.specs.Tasks.{MayTurn, MayWork, log_of_actor}
use Rattle.ds_phases.specs.Arrivals.{ArrivedOne, HasArrived, IsGiven, TookBytes, after_arrival, arrived_at, bytes_left, events_of, lane_in, last_stamp}

-- what was read at a place is there
pub there : {X : Type 0} (xs : List X) (i : ℕ) (x : X) → i < length xs → x ≡ slice_index_or xs i x → slice_get xs i ≡ Some x
there xs i x within is = slice_get_read xs (length xs) i x refl within is

same_some : {X : Type 0} (o : Option X) (x y : X) → o ≡ Some x → o ≡ Some y → x ≡ y
same_some o x y one two = cc

pub read_twice : {X : Type 0} (xs : List X) (i : ℕ) (x y : X) → i < length xs → x ≡ slice_index_or xs i x → y ≡ slice_index_or xs i y → x ≡ y
read_twice xs i x y within one two = same_some (slice_get xs i) x y (there xs i x within one) (there xs i y within two)

-- A CONNECTION

arrived_grew : (piece : List ℕ) (least : ℕ) (r : ConnRecord) → (after_arrival piece least r).conn.arrived ≡ r.conn.arrived ++ piece
arrived_grew [] least r = sym (append-nil r.conn.arrived)
arrived_grew (byte ∷ bytes) least r = refl

nothing_behind : (n k : ℕ) (stream : List ℕ) → k ≡ n + length (drop n stream) → drop k stream ≡ []
nothing_behind n k stream e = drop_all k stream (omega (arith, e, length-drop n stream))

-- nothing of the stream is left behind what was left of it
nothing_left : (source : Option LaneRecord) (least : ℕ) (r b : ConnRecord) → b ≡ after_arrival (bytes_left source (Some (length r.conn.arrived))) least r
    → bytes_left source (Some (length b.conn.arrived)) ≡ []
nothing_left None least r b e = refl
nothing_left (Some lane) least r b e =
    let piece : List ℕ = drop (length r.conn.arrived) lane.worker.stream in
    let grew : b.conn.arrived ≡ r.conn.arrived ++ piece = ap (λ (x : ConnRecord). x.conn.arrived) e ∙ arrived_grew piece least r in
    nothing_behind (length r.conn.arrived) (length b.conn.arrived) lane.worker.stream (ap length grew ∙ length-append r.conn.arrived piece)

-- an arrival leaves where a connection leads
leads_on : (node : Node) (piece : List ℕ) (least : ℕ) (r : ConnRecord) → LeadsTo node r.conn → LeadsTo node (after_arrival piece least r).conn
leads_on node [] least r leads = leads
leads_on node (byte ∷ bytes) least r leads = record { here = leads.here; inlets = leads.inlets; passed = leads.passed; hello = leads.hello }

reads_nothing : (source : Option LaneRecord) → bytes_left source None ≡ []
reads_nothing None = refl
reads_nothing (Some lane) = refl

-- A FAULT

pub on_error : {T E : Type 0} (r : Result T E) (P : Type 0) → P → OnErr r P
on_error (Ok x) P p = tt
on_error (Err e) P p = p

module _ {K : Type 0} where
  -- AN ACTOR

  whole_actor : (source : Option LaneRecord) (least : ℕ) (a b : TaskActor K) → TookBytes (bytes_left source (arrived_at a)) least a b → bytes_left source (arrived_at b) ≡ []
  whole_actor source least (Proc p k) b e = ap (λ (x : TaskActor K). bytes_left source (arrived_at x)) e ∙ reads_nothing source
  whole_actor source least (Lane i p k) b e = ap (λ (x : TaskActor K). bytes_left source (arrived_at x)) e ∙ reads_nothing source
  whole_actor source least (Conn p) (Proc q l) e = absurd e
  whole_actor source least (Conn p) (Lane i q l) e = absurd e
  whole_actor source least (Conn p) (Conn q) e = nothing_left source least p.link q.link e

  pub whole_after : (source : Option LaneRecord) (a b : Task K) → HasArrived source a b → bytes_left source (arrived_at b.actor) ≡ []
  whole_after source a b given = whole_actor source (last_stamp source) a.actor b.actor given.actor

  same_lane_in : (piece : List ℕ) (least : ℕ) (a b : TaskActor K) → TookBytes piece least a b → lane_in b ≡ lane_in a
  same_lane_in piece least (Proc p k) b e = ap lane_in e
  same_lane_in piece least (Lane i p k) b e = ap lane_in e
  same_lane_in piece least (Conn p) (Proc q l) e = absurd e
  same_lane_in piece least (Conn p) (Lane i q l) e = absurd e
  same_lane_in piece least (Conn p) (Conn q) e = refl

  pub lane_stays : (piece : List ℕ) (least : ℕ) (a b : Task K) → IsGiven piece least a b → lane_in b.actor ≡ lane_in a.actor
  lane_stays piece least a b given = same_lane_in piece least a.actor b.actor given.actor

  may_actor : (node : Node) (piece : List ℕ) (least : ℕ) (a b : TaskActor K) → TookBytes piece least a b → MayTurn node a → MayTurn node b
  may_actor node piece least (Proc p k) b e may = subst (MayTurn node) (sym e) may
  may_actor node piece least (Lane i p k) b e may = subst (MayTurn node) (sym e) may
  may_actor node piece least (Conn p) (Proc q l) e may = absurd e
  may_actor node piece least (Conn p) (Lane i q l) e may = absurd e
  may_actor node piece least (Conn p) (Conn q) e may = subst (λ (r : ConnRecord). LeadsTo node r.conn) (sym e) (leads_on node piece least p.link may)

  pub may_after : (nodes : List Node) (piece : List ℕ) (least : ℕ) (a b : Task K) → IsGiven piece least a b → MayWork nodes a → MayWork nodes b
  may_after nodes piece least a b given may = record {
    node = may.node;
    there = ap (slice_get nodes) given.host ∙ may.there;
    may = may_actor may.node piece least a.actor b.actor given.actor may.may;
  }

  same_actor : (a : TaskActor K) → TookBytes [] 0 a a
  same_actor (Proc p k) = refl
  same_actor (Lane i p k) = refl
  same_actor (Conn p) = refl

  -- nothing came
  pub given_none : (a : Task K) → IsGiven [] 0 a a
  given_none a = record { host = refl; made = refl; fault = refl; actor = same_actor a.actor }

  -- AT A PLACE

  pub one_came : (place : ℕ) (source : Option LaneRecord) (made : ℕ) (tasks : List (Task K)) (x y t : Task K) (arrived : Option ℕ) (items piece : List ℕ) (least : ℕ) → place < length tasks
      → x ≡ slice_index_or tasks place x → y ≡ slice_index_or tasks place y → arrived ≡ arrived_at (slice_index_or tasks place x).actor → items ≡ bytes_left source arrived → piece ≡ items → least ≡ last_stamp source
      → IsGiven piece least (slice_index_or tasks place y) t → events_of t ≡ events_of (slice_index_or tasks place y) + made → made ≤ 1 → (made ≡ 0 → IsGiven [] 0 (slice_index_or tasks place y) t)
      → ArrivedOne place source made tasks (slice_set tasks place t)
  one_came place source made tasks x y t arrived items piece least within first second reads left is stamp given events one still =
      let was : Task K = slice_index_or tasks place y in
      let same : slice_index_or tasks place x ≡ was = sym first ∙ (read_twice tasks place x y within first second ∙ second) in
      let all : piece ≡ bytes_left source (arrived_at was.actor) = is ∙ (left ∙ ap (bytes_left source) (reads ∙ ap (λ (z : Task K). arrived_at z.actor) same)) in
      record {
        was = was;
        there = slice_get-get_or tasks place y within;
        task = t;
        becomes = refl;
        one = one;
        fed = subst (λ (bytes : List ℕ). IsGiven bytes (last_stamp source) was t) all (subst (λ (n : ℕ). IsGiven piece n was t) stamp given);
        events = events;
        still = still;
      }

  same_events : (a b : TaskActor K) → TookBytes [] 0 a b → length (log_of_actor b).events ≡ length (log_of_actor a).events
  same_events (Proc p k) b e = ap (λ (x : TaskActor K). length (log_of_actor x).events) e
  same_events (Lane i p k) b e = ap (λ (x : TaskActor K). length (log_of_actor x).events) e
  same_events (Conn p) (Proc q l) e = absurd e
  same_events (Conn p) (Lane i q l) e = absurd e
  same_events (Conn p) (Conn q) e = ap (λ (r : ConnRecord). length r.events) e

  same_reading : (a b : TaskActor K) → TookBytes [] 0 a b → arrived_at b ≡ arrived_at a
  same_reading (Proc p k) b e = ap arrived_at e
  same_reading (Lane i p k) b e = ap arrived_at e
  same_reading (Conn p) (Proc q l) e = absurd e
  same_reading (Conn p) (Lane i q l) e = absurd e
  same_reading (Conn p) (Conn q) e = ap (λ (r : ConnRecord). Some (length r.conn.arrived)) e

  -- memory ran out before anything came
  pub kept_there : (place : ℕ) (tasks : List (Task K)) (x t : Task K) → place < length tasks → IsGiven [] 0 (slice_index_or tasks place x) t → ArrivedOne place None 0 tasks (slice_set tasks place t)
  kept_there place tasks x t within given = record {
    was = slice_index_or tasks place x;
    there = slice_get-get_or tasks place x within;
    task = t;
    becomes = refl;
    one = omega arith;
    fed = given;
    events = same_events (slice_index_or tasks place x).actor t.actor given.actor ∙ omega arith;
    still = λ none. given;
  }

  pub none_came : (place : ℕ) (tasks : List (Task K)) (x : Task K) → place < length tasks → ArrivedOne place None 0 tasks tasks
  none_came place tasks x within =
      let here : Task K = slice_index_or tasks place x in
      let one : ArrivedOne place None 0 tasks (slice_set tasks place here) = kept_there place tasks x here within (given_none here) in
      subst (ArrivedOne place None 0 tasks) (set-get_or tasks place x) one
