-- Bytes that arrive at one connection of a world.
use Rattle.std.proofs.Common.{◌≡◌, ℕ, ◌+◌, List, ◌++◌, Some, None, length, take, drop, min, slice_get, refl, sym, ap, ◌∙◌, subst, arith}
use Rattle.std.specs.Prelude.{◌≢◌, Result, Ok, Err, IfOk}
use Rattle.std.specs.declared.alloc.AllocError.{AllocError}
use native.Mathlib.Decide.{ℕ_discrete}
use Rattle.std.proofs.Math.Seq.{drop-append_seam}
use Rattle.std.proofs.lemmas.List.{append_assoc, length-append, length-take, take-append-drop}
use Rattle.std.proofs.lemmas.Option.{none-some}
use Rattle.ds_model.specs.Plan.{conn_plan}
use Rattle.ds_model.specs.World.{Conn, Host, World}
use Rattle.ds_model.specs.ConnectionStep.{arrive as arrives}
use Rattle.ds_model.specs.Step.{Arrive, step, stream_from, stream_of, worker_at}
use Rattle.ds_model.proofs.Places.{at_alike, at_still, some_is}
use Rattle.ds_setup.specs.Plans.{plan_of}
use Rattle.ds_scheme.specs.TheScheme.{scheme}
use Rattle.ds_exporter.specs.declared.moved.Moved.{Moved}
use Rattle.ds_exporter.specs.declared.moved.Moved.TheVariants.{Still}
use Rattle.ds_exporter.specs.Moving.{Moves}
use Rattle.ds_exporter.proofs.Places.{there_is}
use Rattle.ds_hosts.specs.Nodes.{NodeState, arrived_in, conn_in}
use Rattle.ds_world.specs.declared.route.Feed.{Feed}
use Rattle.ds_world.specs.declared.route.Feed.TheVariants as feeds
use Rattle.ds_world.specs.declared.route.Route.{Route}
use Rattle.ds_world.specs.Worlds.{WorldState, IsFront, IsWorld, arrived_by, conn_by, conns_in, link_at, node_at, routes_of, stream_by, world_of}
use Rattle.ds_world.specs.Afters.{IsAfter, IsFed, IsFedAt, counted}
use Rattle.ds_world.proofs.Routes.{two_places}
use Rattle.ds_world.proofs.Changes.{conn_none, conn_there, front_same, hosts_same, node_here, node_other, node_was, with_node, world_kept}
use Rattle.ds_world.proofs.OneHost.{nothing_after}
use Rattle.ds_world.proofs.OneConn.{arrived_is, conn_count, conn_is, conn_same, conns_become, stream_is, within}

-- where there is no connection
pub no_conn_arrives : (w : WorldState) (k n : ℕ) → IsWorld w → slice_get (routes_of w.doc) k ≡ None → IsAfter Still (Arrive k n) w (counted w.count w)
no_conn_arrives w k n is none = nothing_after w (Arrive k n) is
    (λ i. record {
      hosts = (world_of w).hosts;
      conns = at_still k (λ (conn : Conn). arrives (stream_of (world_of w) (conn_plan (plan_of w.doc) k).source conn) n conn) (world_of w).conns
          (λ c h. absurd (none-some c (sym (conn_none w k none) ∙ h))) i;
    })

-- so many of the bytes that are left
module _ (front stream later piece : List ℕ) (n : ℕ) (whole : stream ≡ front ++ later) (next : piece ≡ take n (drop (length front) stream)) where
  next_is : piece ≡ take n later
  next_is = next ∙ ap (take n) (ap (drop (length front)) whole ∙ drop-append_seam front later)

  pub next_whole : stream ≡ (front ++ piece) ++ drop n later
  next_whole = whole ∙ (ap (λ (xs : List ℕ). front ++ xs) (sym (take-append-drop n later) ∙ ap (λ (xs : List ℕ). xs ++ drop n later) (sym next_is)) ∙ sym (append_assoc front piece (drop n later)))

  pub next_count : min (length stream) (length front + length piece) ≡ min (length stream) (length front + n)
  next_count =
      let size : length piece ≡ min n (length later) = ap length next_is ∙ length-take n later in
      let all : length stream ≡ length front + length later = ap length whole ∙ length-append front later in
      omega (arith, size, all)

module _ (w : WorldState) (k n : ℕ) (r : Route) (x y : NodeState) (route : slice_get (routes_of w.doc) k ≡ Some r) (there : slice_get w.nodes r.host ≡ Some x) (is : IsWorld w)
    (piece : List ℕ) (next : piece ≡ take n (drop (length (arrived_by w r)) (stream_by w k r.source))) (moved : Moved) (fed : IsFed piece moved (w.count + 1) r.place x y) where
  abbrev link : List ℕ
  link = link_at k w

  abbrev stream : List ℕ
  stream = stream_by w k r.source

  abbrev later : List ℕ
  later = (is.routes k r route).front.0

  abbrev old : Conn
  old = conn_in link r.place x

  abbrev after : WorldState
  after = with_node w r.host x y there

  whole : stream ≡ (arrived_by w r ++ piece) ++ drop n later
  whole = next_whole (arrived_by w r) stream later piece n (is.routes k r route).front.1 next

  -- so many bytes are as many as there are
  same_count : arrives stream (length piece) (conn_by w k r) ≡ arrives stream n (conn_by w k r)
  same_count =
      let count = conn_count w k r x route there is in
      λ i. record (conn_by w k r) { count = ((λ j. min (length stream) (count j + length piece)) ∙ (next_count (arrived_by w r) stream later piece n (is.routes k r route).front.1 next ∙ (λ j. min (length stream) (sym count j + n)))) i }

  moves_conn : Moves moved old (conn_in link r.place y) (arrives stream (length piece) old)
  moves_conn = fed.moves link stream (drop n later) (whole ∙ ap (λ (bytes : List ℕ). (bytes ++ piece) ++ drop n later) (arrived_is w k r x route there is)) (within w k r x route there is)

  becomes : conn_in link r.place y ≡ arrives (stream_of (world_of w) (conn_plan (plan_of w.doc) k).source (conn_by w k r)) n (conn_by w k r)
  becomes =
      moves_conn.0 ∙ (ap (arrives stream (length piece)) (sym (conn_is w k r x route there is))
      ∙ (same_count ∙ ap (λ (bytes : List ℕ). arrives bytes n (conn_by w k r)) (sym (stream_is w k r x route there is))))

  world_becomes : world_of after ≡ step scheme (plan_of w.doc) (world_of w) (Arrive k n)
  world_becomes =
      let conns = conns_become w k r x route there is y fed.others
      ∙ at_alike k (λ _. conn_in link r.place y) (λ (conn : Conn). arrives (stream_of (world_of w) (conn_plan (plan_of w.doc) k).source conn) n conn) (world_of w).conns
      (λ c h. becomes ∙ ap (λ (conn : Conn). arrives (stream_of (world_of w) (conn_plan (plan_of w.doc) k).source conn) n conn) (some_is (conn_by w k r) c (sym (conn_there w k r route) ∙ h))) in
      λ i. record { hosts = hosts_same w r.host x y there fed.host i; conns = conns i }

  same_node : (z : NodeState) → slice_get w.nodes r.host ≡ Some z → z ≡ x
  same_node z h = some_is z x (sym h ∙ there)

  moves_world : Moves moved (world_of w) (world_of after) (step scheme (plan_of w.doc) (world_of w) (Arrive k n))
  moves_world = (
    world_becomes,
    (
      λ still. ap (λ (ns : List NodeState). world_of (record w { nodes = ns })) (at_still r.host (λ _. y) w.nodes (λ z h. fed.still still ∙ sym (same_node z h))),
      λ same. moves_conn.1.1 (conn_same w k r x route there is y fed.others (ap (λ (v : World). v.conns) same)),
    ),
  )

  -- streams are the same
  same_stream : (j : ℕ) (feed : Feed) → stream_by after j feed ≡ stream_by w j feed
  same_stream j feeds.Link = refl
  same_stream j (feeds.Lane h l) = ap (λ (hs : List Host). stream_from (worker_at (slice_get hs h) l)) (hosts_same w r.host x y there fed.host)

  mine : IsFront (arrived_by after r) (stream_by after k r.source)
  mine = (
    drop n later,
    same_stream k r.source ∙ (whole ∙ ap (λ (bytes : List ℕ). bytes ++ drop n later) (sym (
        ap (arrived_in r.place) (node_here w r.host x y there) ∙ (fed.bytes (within w k r x route there is) ∙ ap (λ (bytes : List ℕ). bytes ++ piece) (sym (arrived_is w k r x route there is)))))),
  )

  other_bytes : (j : ℕ) (q : Route) → slice_get (routes_of w.doc) j ≡ Some q → j ≢ k → arrived_by after q ≡ arrived_by w q
  other_bytes j q h apart = go (ℕ_discrete q.host r.host)
    where
      go : Dec (q.host ≡ r.host) → arrived_by after q ≡ arrived_by w q
      go (yes same) =
          ap (arrived_in q.place) (ap (λ (m : ℕ). node_at m after) same ∙ node_here w r.host x y there)
          ∙ (fed.arrived q.place (two_places (conns_in w.doc) k j r q route h same apart)
          ∙ sym (ap (arrived_in q.place) (ap (λ (m : ℕ). node_at m w) same ∙ node_was w r.host x y there)))
      go (no differ) = ap (arrived_in q.place) (node_other w r.host x y there q.host differ)

  fronts : (j : ℕ) (q : Route) → slice_get (routes_of w.doc) j ≡ Some q → IsFront (arrived_by after q) (stream_by after j q.source)
  fronts j q h = go (ℕ_discrete j k)
    where
      go : Dec (j ≡ k) → IsFront (arrived_by after q) (stream_by after j q.source)
      go (yes same) =
          let one : r ≡ q = some_is r q (sym route ∙ (ap (slice_get (routes_of w.doc)) (sym same) ∙ h)) in
          subst (λ (p : Route). IsFront (arrived_by after p) (stream_by after j p.source)) one (subst (λ (m : ℕ). IsFront (arrived_by after r) (stream_by after m r.source)) (sym same) mine)
      go (no apart) =
          subst (λ (bytes : List ℕ). IsFront (arrived_by after q) bytes) (sym (same_stream j q.source))
          (front_same (arrived_by w q) (arrived_by after q) (stream_by w j q.source) (other_bytes j q h apart) (is.routes j q h).front)

  pub fed_after : IsAfter moved (Arrive k n) w (counted w.count after)
  fed_after =
      let node = is.nodes r.host x there in
      record {
        moves = moves_world;
        world = world_kept w r.host x y there is (record { plan = fed.plan _ node.plan; conns = fed.count ∙ node.conns; stamps = fed.stamps }) fronts;
        doc = refl;
        count = refl;
      }

-- as the code's call says
module _ (w : WorldState) (k n : ℕ) (r : Route) (route : slice_get (routes_of w.doc) k ≡ Some r) (is : IsWorld w) (piece : List ℕ) (next : piece ≡ take n (drop (length (arrived_by w r)) (stream_by w k r.source))) where
  conn_arrives : (nodes : List NodeState) (moved : Moved) → IsFedAt piece moved (w.count + 1) r.host r.place w.nodes nodes → IsAfter moved (Arrive k n) w (counted w.count (record w { nodes = nodes }))
  conn_arrives nodes moved fed = there_is (IsAfter moved (Arrive k n) w (counted w.count (record w { nodes = nodes }))) w.nodes r.host (is.routes k r route).leads
      (λ x h.
      let q = fed x h in
      subst (λ (ns : List NodeState). IsAfter moved (Arrive k n) w (counted w.count (record w { nodes = ns }))) (sym q.1) (fed_after w k n r x q.0 route h is piece next moved q.2))

  pub conn_arrives_if : (nodes : List NodeState) (result : Result Moved AllocError) → IfOk result (λ moved. IsFedAt piece moved (w.count + 1) r.host r.place w.nodes nodes) → IfOk result (λ moved. IsAfter moved (Arrive k n) w (counted w.count (record w { nodes = nodes })))
  conn_arrives_if nodes (Ok moved) fed = conn_arrives nodes moved fed
  conn_arrives_if nodes (Err e) fed = tt
