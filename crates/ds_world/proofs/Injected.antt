-- An outsider's bytes on a link.
use Rattle.std.proofs.Common.{◌≡◌, ℕ, zero, suc, ◌<◌, List, [], ◌∷◌, ◌++◌, Option, Some, None, length, map, take, drop, get_or, slice_get, option_map, refl, sym, ap, ◌∙◌, subst, arith}
use Rattle.std.specs.Prelude.{◌≢◌, ◌==◌, ◌↔◌, Bool, true, false, IsTrue, Result, Ok, Err, IfOk, slice_index_or, slice_set}
use Rattle.std.specs.declared.alloc.AllocError.{AllocError}
use native.Mathlib.Decide.{ℕ_discrete}
use Rattle.std.proofs.lemmas.Bool.Decides.{nat_tests}
use Rattle.std.proofs.lemmas.List.{append-nil, length-append}
use Rattle.std.proofs.lemmas.Option.{none-some, get_or_from_slice_get, slice_get_within}
use Rattle.ds_model.specs.Lists.{at}
use Rattle.ds_model.specs.Plan.{Source, Link, OfLane, conn_plan}
use Rattle.ds_model.specs.World.{Conn, World}
use Rattle.ds_model.specs.Step.{Inject, Copy, injected, step, stream_at}
use Rattle.ds_model.proofs.Places.{at_each, at_here, at_other, at_still, some_is}
use Rattle.ds_delivery.proofs.Lists.{Grows, grows_same, grows_self}
use Rattle.ds_setup.specs.Plans.{plan_of}
use Rattle.ds_scheme.specs.TheScheme.{scheme}
use Rattle.ds_inlet.specs.Connections.{Connection}
use Rattle.ds_inlet.specs.PlainConnections.{plain_conn}
use Rattle.ds_exporter.specs.declared.moved.Moved.{Moved}
use Rattle.ds_exporter.specs.declared.moved.Moved.TheVariants.{Changed, Still}
use Rattle.ds_exporter.specs.PlainHosts.{conn_of, no_conn}
use Rattle.ds_exporter.proofs.Places.{length_at, there_is}
use Rattle.ds_hosts.specs.Nodes.{NodeState, Running, Silent, conn_in, conns_of}
use Rattle.ds_hosts.proofs.Keeps.{get_alike}
use Rattle.ds_world.specs.declared.route.Feed.{Feed}
use Rattle.ds_world.specs.declared.route.Feed.TheVariants as feeds
use Rattle.ds_world.specs.declared.route.Route.{Route}
use Rattle.ds_world.specs.Worlds.{WorldState, IsWorld, conn_by, feed_of, link_at, longer, node_at, routes_of, stream_by, world_of}
use Rattle.ds_world.specs.Afters.{IsAfter, counted}
use Rattle.ds_world.proofs.Routes.{is_link, same_lists}
use Rattle.ds_world.proofs.Changes.{conn_none, conn_there, front_grows, later_node, node_was}
use Rattle.ds_world.proofs.OneHost.{nothing_after}
use Rattle.ds_world.proofs.OneConn.{planned_source, stands, stream_is, within}

-- WHERE NOTHING IS INJECTED

still_conns : (w : WorldState) (k : ℕ) (bytes : List ℕ) → ((c : Conn) → slice_get (world_of w).conns k ≡ Some c → injected (conn_plan (plan_of w.doc) k).source bytes c ≡ c)
    → step scheme (plan_of w.doc) (world_of w) (Inject k bytes) ≡ world_of w
still_conns w k bytes same = λ i. record { hosts = (world_of w).hosts; conns = at_still k (injected (conn_plan (plan_of w.doc) k).source bytes) (world_of w).conns same i }

pub no_conn_injects : (w : WorldState) (k : ℕ) (bytes : List ℕ) → IsWorld w → slice_get (routes_of w.doc) k ≡ None → IsAfter Still (Inject k bytes) w (counted w.count w)
no_conn_injects w k bytes is none = nothing_after w (Inject k bytes) is (still_conns w k bytes (λ c h. absurd (none-some c (sym (conn_none w k none) ∙ h))))

not_link : (s : Source) (bytes : List ℕ) (c : Conn) → (feed_of s ≡ feeds.Link → ⊥) → injected s bytes c ≡ c
not_link Link bytes c other = absurd (other refl)
not_link (OfLane h l) bytes c other = refl

no_bytes : (s : Source) (c : Conn) → injected s [] c ≡ c
no_bytes Link c = λ i. record c { link = append-nil c.link i }
no_bytes (OfLane h l) c = refl

none_injected : (s : Source) (bytes : List ℕ) (c : Conn) (b : Bool) → b ≡ (length bytes == 0) → b ≡ true → injected s bytes c ≡ c
none_injected s [] c b e t = no_bytes s c
none_injected s (x ∷ bytes) c b e t = absurd (grind (arith, nat_tests))

pub some_bytes : (bytes : List ℕ) (b : Bool) → b ≡ (length bytes == 0) → b ≡ false → 0 < length bytes
some_bytes [] b e t = absurd (grind (arith, nat_tests))
some_bytes (x ∷ bytes) b e t = omega arith

pub nothing_injected : (w : WorldState) (k : ℕ) (bytes : List ℕ) (b : Bool) → IsWorld w → b ≡ (length bytes == 0) → b ≡ true → IsAfter Still (Inject k bytes) w (counted w.count w)
nothing_injected w k bytes b is e t = nothing_after w (Inject k bytes) is (still_conns w k bytes (λ c h. none_injected (conn_plan (plan_of w.doc) k).source bytes c b e t))

-- IN A LINK

longer_in : (bytes : List ℕ) (f g : Connection → Conn) (ks : List Connection) (place : ℕ) → ((k : Connection) → g k ≡ injected Link bytes (f k)) → place < length ks → get_or (map g ks) place no_conn ≡ injected Link bytes (get_or (map f ks) place no_conn)
longer_in bytes f g ks place same within = there_is (get_or (map g ks) place no_conn ≡ injected Link bytes (get_or (map f ks) place no_conn)) ks place within
    (λ k h. stands g ks place k no_conn h ∙ (same k ∙ ap (injected Link bytes) (sym (stands f ks place k no_conn h))))

longer_conn : (link bytes : List ℕ) (place : ℕ) (x : NodeState) → place < length (conns_of x) → conn_in (link ++ bytes) place x ≡ injected Link bytes (conn_in link place x)
longer_conn link bytes place (Running e) within = longer_in bytes (conn_of e.desk.here e.desk.desk.rows link) (conn_of e.desk.here e.desk.desk.rows (link ++ bytes)) e.conns place (λ k. refl) within
longer_conn link bytes place (Silent conns) within = longer_in bytes (plain_conn link None) (plain_conn (link ++ bytes) None) conns place (λ k. refl) within

get_here : {X : Type 0} (f : X → X) (xs : List X) (i : ℕ) (d : X) → i < length xs → get_or (at i f xs) i d ≡ f (get_or xs i d)
get_here f xs i d within = there_is (get_or (at i f xs) i d ≡ f (get_or xs i d)) xs i within
    (λ x h. get_or_from_slice_get (at i f xs) i (f x) d (at_here i f xs ∙ ap (option_map f) h) ∙ ap f (sym (get_or_from_slice_get xs i x d h)))

module _ (w : WorldState) (k : ℕ) (r : Route) (x : NodeState) (route : slice_get (routes_of w.doc) k ≡ Some r) (there : slice_get w.nodes r.host ≡ Some x) (is : IsWorld w) (bytes : List ℕ) where
  abbrev after : WorldState
  after = record w { links = at k (longer bytes) w.links }

  pub link_within : k < length w.links
  link_within = subst (λ (n : ℕ). k < n) (sym is.links) (slice_get_within (routes_of w.doc) k r route)

  link_here : link_at k after ≡ link_at k w ++ bytes
  link_here = get_here (longer bytes) w.links k [] link_within

  link_other : (j : ℕ) → j ≢ k → link_at j after ≡ link_at j w
  link_other j apart = get_alike (at k (longer bytes) w.links) w.links j [] (at_other k j (longer bytes) w.links apart)

  node_within : r.place < length (conns_of (node_at r.host w))
  node_within = subst (λ (n : NodeState). r.place < length (conns_of n)) (sym (node_was w r.host x x there)) (within w k r x route there is)

  conn_here : conn_by after k r ≡ injected Link bytes (conn_by w k r)
  conn_here = ap (λ (link : List ℕ). conn_in link r.place (node_at r.host w)) link_here ∙ longer_conn (link_at k w) bytes r.place (node_at r.host w) node_within

  other_place : (j : ℕ) → j ≢ k → (o : Option Route) → slice_get (routes_of w.doc) j ≡ o → slice_get (world_of after).conns j ≡ slice_get (world_of w).conns j
  other_place j apart None h = conn_none after j h ∙ sym (conn_none w j h)
  other_place j apart (Some q) h = conn_there after j q h ∙ (ap (λ (link : List ℕ). Some (conn_in link q.place (node_at q.host w))) (link_other j apart) ∙ sym (conn_there w j q h))

  conns_become : (world_of after).conns ≡ at k (injected Link bytes) (world_of w).conns
  conns_become = same_lists (world_of after).conns (at k (injected Link bytes) (world_of w).conns)
      (λ j. at_each (λ (i : ℕ). slice_get (world_of after).conns i ≡ slice_get (at k (injected Link bytes) (world_of w).conns) i) k
      (conn_there after k r route ∙ (ap (λ (c : Conn). Some c) conn_here ∙ sym (at_here k (injected Link bytes) (world_of w).conns ∙ ap (option_map (injected Link bytes)) (conn_there w k r route))))
      (λ i apart. other_place i apart (slice_get (routes_of w.doc) i) refl ∙ sym (at_other k i (injected Link bytes) (world_of w).conns apart)) j)

  differs : 0 < length bytes → world_of after ≡ world_of w → ⊥
  differs some same =
      let one : injected Link bytes (conn_by w k r) ≡ conn_by w k r =
      sym conn_here ∙ some_is (conn_by after k r) (conn_by w k r) (sym (conn_there after k r route) ∙ (ap (λ (v : World). slice_get v.conns k) same ∙ conn_there w k r route)) in
      let size : length ((conn_by w k r).link ++ bytes) ≡ length (conn_by w k r).link = ap (λ (c : Conn). length c.link) one in
      absurd (omega (arith, size, some, length-append (conn_by w k r).link bytes))

  streams_grow : (j : ℕ) (feed : Feed) → Grows (stream_by w j feed) (stream_by after j feed)
  streams_grow j (feeds.Lane h l) = grows_self (stream_by w j (feeds.Lane h l))
  streams_grow j feeds.Link = go (ℕ_discrete j k)
    where
      go : Dec (j ≡ k) → Grows (link_at j w) (link_at j after)
      go (yes same) = subst (λ (m : ℕ). Grows (link_at m w) (link_at m after)) (sym same) (bytes, link_here)
      go (no apart) = grows_same (link_at j w) (link_at j after) (link_other j apart)

  world_after : IsWorld (counted w.count after)
  world_after = record {
    hosts = is.hosts;
    links = length_at k (longer bytes) w.links ∙ is.links;
    nodes = λ h z at. later_node w.doc w.count h z (is.nodes h z at);
    routes = λ j q h. record { leads = (is.routes j q h).leads; front = front_grows _ (stream_by w j q.source) (stream_by after j q.source) (is.routes j q h).front (streams_grow j q.source) };
  }

  injected_after : r.source ≡ feeds.Link → 0 < length bytes → IsAfter Changed (Inject k bytes) w (counted w.count after)
  injected_after link some =
      let source : (conn_plan (plan_of w.doc) k).source ≡ Link = is_link (conn_plan (plan_of w.doc) k).source (planned_source w k r x route there is ∙ link) in
      record {
        moves = (
          (λ i. record { hosts = (world_of w).hosts; conns = (conns_become ∙ ap (λ (s : Source). at k (injected s bytes) (world_of w).conns) (sym source)) i }),
          (λ s. absurd cc, λ same. absurd (differs some same)),
        );
        world = world_after;
        doc = refl;
        count = refl;
      }

  lane_injects : (r.source ≡ feeds.Link → ⊥) → IsAfter Still (Inject k bytes) w (counted w.count w)
  lane_injects other = nothing_after w (Inject k bytes) is
      (still_conns w k bytes (λ c h. not_link (conn_plan (plan_of w.doc) k).source bytes c (λ link. other (sym (planned_source w k r x route there is) ∙ link))))

-- as the code's calls say
module _ (w : WorldState) (k : ℕ) (r : Route) (route : slice_get (routes_of w.doc) k ≡ Some r) (is : IsWorld w) where
  pub conn_injects : (bytes : List ℕ) (links : List (List ℕ)) → links ≡ at k (longer bytes) w.links → r.source ≡ feeds.Link → 0 < length bytes → IsAfter Changed (Inject k bytes) w (counted w.count (record w { links = links }))
  conn_injects bytes links same link some = there_is (IsAfter Changed (Inject k bytes) w (counted w.count (record w { links = links }))) w.nodes r.host (is.routes k r route).leads
      (λ x h. subst (λ (ls : List (List ℕ)). IsAfter Changed (Inject k bytes) w (counted w.count (record w { links = ls }))) (sym same) (injected_after w k r x route h is bytes link some))

  pub lane_conn_injects : (bytes : List ℕ) (b : Bool) → (IsTrue b ↔ (r.source ≡ feeds.Link)) → b ≡ false → IsAfter Still (Inject k bytes) w (counted w.count w)
  lane_conn_injects bytes b says none = there_is (IsAfter Still (Inject k bytes) w (counted w.count w)) w.nodes r.host (is.routes k r route).leads
      (λ x h. lane_injects w k r x route h is bytes (λ link. not_both b (says.1 link) none))
    where
      not_both : (b : Bool) → b ≡ true → b ≡ false → ⊥
      not_both true t f = cc
      not_both false t f = cc

  pub link_there : k < length w.links
  link_there = subst (λ (n : ℕ). k < n) (sym is.links) (slice_get_within (routes_of w.doc) k r route)

-- what is written at a place is a change there
pub set_at : {X : Type 0} (g : X → X) (i : ℕ) (xs : List X) (d new : X) → i < length xs → new ≡ g (slice_index_or xs i d) → slice_set xs i new ≡ at i g xs
set_at g i [] d new w e = refl
set_at g zero (y ∷ xs) d new w e = λ j. e j ∷ xs
set_at g (suc i) (y ∷ xs) d new w e = ap (λ ys. y ∷ ys) (set_at g i xs d new (omega (arith, w)) e)

-- COPIES

nothing_of_nothing : (n m : ℕ) → ◌≡◌ {A = List ℕ} (drop n (take m [])) []
nothing_of_nothing zero zero = refl
nothing_of_nothing zero (suc m) = refl
nothing_of_nothing (suc n) zero = refl
nothing_of_nothing (suc n) (suc m) = refl

pub stream_none : (w : WorldState) (k from until : ℕ) → slice_get (routes_of w.doc) k ≡ None → [] ≡ drop from (take until (stream_at (world_of w) (plan_of w.doc) k (slice_get (world_of w).conns k)))
stream_none w k from until none = sym (ap (λ (o : Option Conn). drop from (take until (stream_at (world_of w) (plan_of w.doc) k o))) (conn_none w k none) ∙ nothing_of_nothing from until)

pub stream_some : (w : WorldState) (k : ℕ) (r : Route) → slice_get (routes_of w.doc) k ≡ Some r → IsWorld w → stream_by w k r.source ≡ stream_at (world_of w) (plan_of w.doc) k (slice_get (world_of w).conns k)
stream_some w k r route is = there_is (stream_by w k r.source ≡ stream_at (world_of w) (plan_of w.doc) k (slice_get (world_of w).conns k)) w.nodes r.host (is.routes k r route).leads
    (λ x h. sym (ap (stream_at (world_of w) (plan_of w.doc) k) (conn_there w k r route) ∙ stream_is w k r x route h is))

pub part_some : (w : WorldState) (k from until : ℕ) (r : Route) (result : Result (List ℕ) AllocError) → slice_get (routes_of w.doc) k ≡ Some r → IsWorld w → IfOk result (λ piece. piece ≡ drop from (take until (stream_by w k r.source)))
    → IfOk result (λ piece. piece ≡ drop from (take until (stream_at (world_of w) (plan_of w.doc) k (slice_get (world_of w).conns k))))
part_some w k from until r (Ok piece) route is e = e ∙ ap (λ (bytes : List ℕ). drop from (take until bytes)) (stream_some w k r route is)
part_some w k from until r (Err x) route is e = tt

pub copies : (w v : WorldState) (k j from until : ℕ) (bytes : List ℕ) (result : Result Moved AllocError) → bytes ≡ drop from (take until (stream_at (world_of w) (plan_of w.doc) j (slice_get (world_of w).conns j)))
    → IfOk result (λ moved. IsAfter moved (Inject k bytes) w v) → IfOk result (λ moved. IsAfter moved (Copy k j from until) w v)
copies w v k j from until bytes (Ok moved) e done =
    let a = subst (λ (b : List ℕ). IsAfter moved (Inject k b) w v) e done in
    record { moves = a.moves; world = a.world; doc = a.doc; count = a.count }
copies w v k j from until bytes (Err x) e done = tt
