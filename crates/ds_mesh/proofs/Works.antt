-- What a host does by itself, one thing after another.
use Rattle.std.proofs.Common.{◌≡◌, ℕ, zero, suc, ◌+◌, ◌-◌, ◌<◌, ◌≤◌, ◌^◌, List, [], ◌∷◌, ◌++◌, Some, length, map, slice_get, option_map, refl, sym, ap, ◌∙◌, subst, arith}
use Rattle.std.proofs.lemmas.List.{append-nil, append_assoc, length-append, map-append}
use Rattle.std.proofs.lemmas.Option.{slice_get_within, slice_get-map}
use Rattle.ds_model.specs.Lists.{at}
use Rattle.ds_model.specs.Plan.{HostPlan, Plan, host_plan}
use Rattle.ds_model.specs.World.{Conn, Host, World}
use Rattle.ds_model.specs.ConnectionStep.{ConnAsk}
use Rattle.ds_model.specs.Step.{on_host, run, step}
use Rattle.ds_model.proofs.Places.{at_each, at_here, at_other, at_still, some_is}
use Rattle.ds_plan.specs.declared.doc.Doc.{Doc}
use Rattle.ds_plan.specs.declared.event.Event.{Event as DocEvent}
use Rattle.ds_setup.specs.Events.{meant}
use Rattle.ds_setup.specs.Plans.{plan_of}
use Rattle.ds_scheme.specs.TheScheme.{scheme}
use Rattle.ds_exporter.specs.declared.moved.Moved.{Moved}
use Rattle.ds_hosts.specs.declared.node.Node.{Node}
use Rattle.ds_hosts.specs.Nodes.{NodeState, SpellsHands, IsUntil, node_of, plain_host}
use Rattle.ds_world.specs.declared.route.Route.{Route}
use Rattle.ds_world.specs.Worlds.{WorldState, IsWorld, routes_of, world_of}
use Rattle.ds_world.specs.Hands.{AreSpelledAfter, HandsAreSpelled}
use Rattle.ds_world.specs.Afters.{IsAfter, IsAnswered, IsStepped, counted}
use Rattle.ds_world.proofs.Answered.{asked, conn_asks}
use Rattle.ds_world.proofs.Changes.{host_there, until_more}
use Rattle.ds_world.proofs.Hands.{run_join, spelled_end, spelled_join}
use Rattle.ds_world.proofs.OneHost.{StreamsGrow, one_host}
use Rattle.ds_mesh.specs.declared.task.Task.{Task}
use Rattle.ds_mesh.specs.Workings.{Did, Happened, IsReady, Works, with_host}

-- IN A WORLD

pub happened_none : (w : WorldState) → IsWorld w → Happened w w []
happened_none w is = record { world = is; doc = refl; count = omega arith; ran = refl; spelled = λ hands. hands }

pub happened_join : (w v u : WorldState) (one two : List DocEvent) → Happened w v one → Happened v u two → Happened w u (one ++ two)
happened_join w v u one two a b =
    let plan : Plan = plan_of w.doc in
    let start : World = world_of w in
    let joined : map meant (one ++ two) ≡ map meant one ++ map meant two = map-append meant one two in
    record {
      world = b.world;
      doc = b.doc ∙ a.doc;
      count = omega (arith, a.count, b.count, length-append one two);
      ran = b.ran ∙ ((λ i. run scheme (plan_of (a.doc i)) (a.ran i) (map meant two))
          ∙ (sym (run_join plan start (map meant one) (map meant two)) ∙ ap (run scheme plan start) (sym joined)));
      spelled = λ hands.
          let first : AreSpelledAfter plan start (map meant one) = a.spelled hands in
          let between : HandsAreSpelled (world_of v) = subst HandsAreSpelled (sym a.ran) (spelled_end plan start (map meant one) first) in
          let later : AreSpelledAfter plan (run scheme plan start (map meant one)) (map meant two)
          = subst (λ u. AreSpelledAfter plan u (map meant two)) a.ran (subst (λ d. AreSpelledAfter (plan_of d) (world_of v) (map meant two)) a.doc (b.spelled between)) in
          subst (AreSpelledAfter plan start) (sym joined) (spelled_join plan start (map meant one) (map meant two) first later);
    }

at_again : {X : Type 0} (i : ℕ) (x y : X) (xs : List X) → at i (λ _. y) (at i (λ _. x) xs) ≡ at i (λ _. y) xs
at_again i x y [] = refl
at_again zero x y (z ∷ xs) = refl
at_again (suc i) x y (z ∷ xs) = ap (λ zs. z ∷ zs) (at_again i x y xs)

module _ (w : WorldState) (host : ℕ) (x : NodeState) (there : slice_get w.nodes host ≡ Some x) where
  -- the same host, and no event
  with_same : with_host host x 0 w ≡ w
  with_same = λ i. record w {
    nodes = at_still host (λ _. x) w.nodes (λ z h. some_is x z (sym there ∙ h)) i;
    count = same_count i;
  }
    where
      same_count : w.count + 0 ≡ w.count
      same_count = omega arith

  with_again : (y z : NodeState) (n m k : ℕ) → n + m ≡ k → with_host host z m (with_host host y n w) ≡ with_host host z k w
  with_again y z n m k sum = λ i. record w { nodes = at_again host y z w.nodes i; count = same_count i }
    where
      same_count : (w.count + n) + m ≡ w.count + k
      same_count = omega (arith, sum)

  stands_after : (y : NodeState) (n : ℕ) → slice_get (with_host host y n w).nodes host ≡ Some y
  stands_after y n = at_here host (λ _. y) w.nodes ∙ ap (option_map (λ _. y)) there

-- OF ONE HOST

until_later : (n k : ℕ) (x : NodeState) → IsUntil n x → IsUntil (n + k) x
until_later n zero x is = let e : n ≡ n + 0 = omega arith in subst (λ m. IsUntil m x) e is
until_later n (suc k) x is = let e : (n + k) + 1 ≡ n + suc k = omega arith in subst (λ m. IsUntil m x) e (until_more (n + k) x (until_later n k x is))

until_at_most : (n m : ℕ) (x : NodeState) → n ≤ m → IsUntil n x → IsUntil m x
until_at_most n m x le is = let e : n + (m - n) ≡ m = omega (arith, le) in subst (λ k. IsUntil k x) e (until_later n (m - n) x is)

pub did_none : (d : Doc) (host since : ℕ) (x : NodeState) → IsUntil since x → Did d host since [] x x
did_none d host since x is = let e : since ≡ since + 0 = omega arith in record {
  stamps = subst (λ n. IsUntil n x) e is;
  happens = λ w world same there later. subst (λ v. Happened w v []) (sym (with_same w host x there)) (happened_none w world);
}

pub did_join : (d : Doc) (host since : ℕ) (one two : List DocEvent) (x y z : NodeState) → Did d host since one x y → Did d host (since + length one) two y z → Did d host since (one ++ two) x z
did_join d host since one two x y z a b =
    let sum : length one + length two ≡ length (one ++ two) = sym (length-append one two) in
    let e : (since + length one) + length two ≡ since + length (one ++ two) = omega (arith, sum) in
    record {
      stamps = subst (λ n. IsUntil n z) e b.stamps;
      happens = λ w world same there later.
          let first : Happened w (with_host host y (length one) w) one = a.happens w world same there later in
          let le : since + length one ≤ w.count + length one = omega (arith, later) in
          let second : Happened (with_host host y (length one) w) (with_host host z (length two) (with_host host y (length one) w)) two
          = b.happens (with_host host y (length one) w) first.world same (stands_after w host x there y (length one)) le in
          subst (λ v. Happened w v (one ++ two)) (with_again w host x there y z (length one) (length two) (length (one ++ two)) sum)
          (happened_join w (with_host host y (length one) w) (with_host host z (length two) (with_host host y (length one) w)) one two first second);
    }

-- hands of a world in which one host changes
hands_with : (w : WorldState) (host : ℕ) (x y : NodeState) → slice_get w.nodes host ≡ Some x → SpellsHands (plain_host y) → HandsAreSpelled (world_of w)
    → HandsAreSpelled (world_of (with_host host y 1 w))
hands_with w host x y there spells hands =
    let v : WorldState = with_host host y 1 w in
    at_each (λ (h : ℕ). (q : Host) → slice_get (world_of v).hosts h ≡ Some q → SpellsHands q) host
    (λ q h. subst SpellsHands (some_is (plain_host y) q (sym (host_there v host y (stands_after w host x there y 1)) ∙ h)) spells)
    (λ j apart q h. hands j q (slice_get-map plain_host w.nodes j ∙ (ap (option_map plain_host) (sym (at_other host j (λ _. y) w.nodes apart)) ∙ (sym (slice_get-map plain_host v.nodes j) ∙ h))))

-- what happened in one event
after_one : (w : WorldState) (host : ℕ) (x y : NodeState) (e : DocEvent) (moved : Moved) → slice_get w.nodes host ≡ Some x → SpellsHands (plain_host y)
    → IsAfter moved (meant e) w (counted w.count (record w { nodes = at host (λ _. y) w.nodes })) → Happened w (with_host host y 1 w) (e ∷ [])
after_one w host x y e moved there spells after = record {
  world = after.world;
  doc = refl;
  count = refl;
  ran = after.moves.0;
  spelled = λ hands. (hands, subst HandsAreSpelled after.moves.0 (hands_with w host x y there spells hands));
}

stepped_later : (becomes : HostPlan → Host → Host) (moved : Moved) (n m : ℕ) (x y : NodeState) → n ≤ m → IsStepped becomes moved n x y → IsStepped becomes moved m x y
stepped_later becomes moved n m x y le is = record {
  moves = λ plan h. is.moves plan h;
  same = is.same;
  plan = λ plan h. is.plan plan h;
  count = is.count;
  still = is.still;
  stamps = until_at_most n m y le is.stamps;
}

answered_later : (asks : HostPlan → Conn → List ℕ → ConnAsk) (moved : Moved) (n m place : ℕ) (x y : NodeState) → n ≤ m → IsAnswered asks moved n place x y → IsAnswered asks moved m place x y
answered_later asks moved n m place x y le is = record {
  moves = λ link plan h. is.moves link plan h;
  others = λ link other apart. is.others link other apart;
  arrived = λ other. is.arrived other;
  plan = λ plan h. is.plan plan h;
  count = is.count;
  still = is.still;
  stamps = until_at_most n m y le is.stamps;
}

-- an event of the host alone
pub did_step : (d : Doc) (host since : ℕ) (becomes : HostPlan → Host → Host) (moved : Moved) (e : DocEvent) (x y : NodeState) → StreamsGrow becomes
    → ((w : WorldState) → step scheme (plan_of w.doc) (world_of w) (meant e) ≡ on_host host (becomes (host_plan (plan_of w.doc) host)) (world_of w))
    → IsStepped becomes moved (since + 1) x y → SpellsHands (plain_host y) → Did d host since (e ∷ []) x y
did_step d host since becomes moved e x y grow event stepped spells = record {
  stamps = stepped.stamps;
  happens = λ w is same there later.
      let le : since + 1 ≤ w.count + 1 = omega (arith, later) in
      let at_count : IsStepped becomes moved (w.count + 1) x y = stepped_later becomes moved (since + 1) (w.count + 1) x y le stepped in
      after_one w host x y e moved there spells
      (one_host w host (at host (λ _. y) w.nodes) becomes moved (meant e) is (slice_get_within w.nodes host x there) grow (event w)
      (λ z h. (y, refl, subst (λ (q : NodeState). IsStepped becomes moved (w.count + 1) q y) (some_is x z (sym there ∙ h)) at_count)));
}

-- an event of a connection to it
pub did_answer : (d : Doc) (k since : ℕ) (r : Route) (asks : HostPlan → Conn → List ℕ → ConnAsk) (moved : Moved) (e : DocEvent) (x y : NodeState)
    → ((w : WorldState) → step scheme (plan_of w.doc) (world_of w) (meant e) ≡ asked asks k w) → slice_get (routes_of d) k ≡ Some r
    → IsAnswered asks moved (since + 1) r.place x y → SpellsHands (plain_host y) → Did d r.host since (e ∷ []) x y
did_answer d k since r asks moved e x y event route answered spells = record {
  stamps = answered.stamps;
  happens = λ w is same there later.
      let le : since + 1 ≤ w.count + 1 = omega (arith, later) in
      let at_count : IsAnswered asks moved (w.count + 1) r.place x y = answered_later asks moved (since + 1) (w.count + 1) r.place x y le answered in
      let here : slice_get (routes_of w.doc) k ≡ Some r = ap (λ (c : Doc). slice_get (routes_of c) k) same ∙ route in
      after_one w r.host x y e moved there spells
      (conn_asks asks w k (meant e) (event w) is r here (at r.host (λ _. y) w.nodes) moved
      (λ z h. (y, refl, subst (λ (q : NodeState). IsAnswered asks moved (w.count + 1) r.place q y) (some_is x z (sym there ∙ h)) at_count)));
}

-- OF ONE WORKER

pub works_none : (d : Doc) (a : Task) → IsReady a → Works d a a
works_none d a ready = record {
  more = [];
  host = refl;
  events = sym (append-nil a.events.items);
  stamp = omega arith;
  left = omega arith;
  did = did_none d a.host a.stamp (node_of a.node) ready.stamps;
  ready = ready;
}

pub works_then : (d : Doc) (a b c : Task) → Works d a b → Works d b c → Works d a c
works_then d a b c one two = record {
  more = one.more ++ two.more;
  host = two.host ∙ one.host;
  events = two.events ∙ (ap (λ es. es ++ two.more) one.events ∙ append_assoc a.events.items one.more two.more);
  stamp = omega (arith, one.stamp, two.stamp, length-append one.more two.more);
  left = omega (arith, one.left, two.left, length-append one.more two.more);
  did = did_join d a.host a.stamp one.more two.more (node_of a.node) (node_of b.node) (node_of c.node) one.did
      (subst (λ h. Did d h (a.stamp + length one.more) two.more (node_of b.node) (node_of c.node)) one.host
      (subst (λ n. Did d b.host n two.more (node_of b.node) (node_of c.node)) one.stamp two.did));
  ready = two.ready;
}

-- an event that was still
pub works_still : (d : Doc) (a : Task) (node : Node) → IsReady a → node_of node ≡ node_of a.node → Works d a (record a { node = node })
works_still d a node ready same = record {
  more = [];
  host = refl;
  events = sym (append-nil a.events.items);
  stamp = omega arith;
  left = omega arith;
  did = subst (λ y. Did d a.host a.stamp [] (node_of a.node) y) (sym same) (did_none d a.host a.stamp (node_of a.node) ready.stamps);
  ready = record { stamps = subst (λ y. IsUntil a.stamp y) (sym same) ready.stamps; room = ready.room };
}

-- one that was kept
pub works_event : (d : Doc) (a b : Task) (node : Node) (e : DocEvent) → IsReady a → 0 < a.left → Did d a.host a.stamp (e ∷ []) (node_of a.node) (node_of node)
    → (b.host ≡ a.host) × (b.node ≡ node) → (b.stamp ≡ a.stamp + 1) × (b.left ≡ a.left - 1) → b.events.items ≡ a.events.items ++ e ∷ [] → Works d a b
works_event d a b node e ready some did rest counts events =
    let room : b.stamp + b.left < 2 ^ 64 = omega (arith, counts.0, counts.1, some, ready.room) in
    record {
      more = e ∷ [];
      host = rest.0;
      events = events;
      stamp = counts.0;
      left = omega (arith, counts.1, some);
      did = subst (λ (n : Node). Did d a.host a.stamp (e ∷ []) (node_of a.node) (node_of n)) (sym rest.1) did;
      ready = record {
        stamps = subst (λ (n : Node). IsUntil b.stamp (node_of n)) (sym rest.1) (subst (λ k. IsUntil k (node_of node)) (sym counts.0) did.stamps);
        room = room;
      };
    }
