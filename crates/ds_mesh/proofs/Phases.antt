-- From what each host did by itself to what happened in the world.
use Rattle.std.proofs.Common.{◌≡◌, ℕ, zero, suc, ◌+◌, ◌*◌, ◌<◌, ◌≤◌, ◌^◌, ◌⊎◌, false, List, [], ◌∷◌, ◌++◌, Some, length, map, flat_map, slice_get, option_map, refl, sym, ap, ◌∙◌, subst, arith}
use Rattle.std.specs.Prelude.{All, slice_index_or}
use Rattle.std.proofs.lemmas.List.{append-nil, append_assoc, length-append, length-map, map-append}
use Rattle.std.proofs.Math.Nat.{suc-mul, zero-mul}
use Rattle.std.proofs.lemmas.Option.{none-some, slice_get-get_or, slice_get-map}
use Rattle.ds_model.specs.Lists.{at}
use Rattle.ds_model.specs.Step.{step}
use Rattle.ds_plan.specs.declared.doc.Doc.{Doc}
use Rattle.ds_plan.specs.declared.event.Event.{Event}
use Rattle.ds_setup.specs.Events.{meant}
use Rattle.ds_setup.specs.Plans.{plan_of}
use Rattle.ds_scheme.specs.TheScheme.{scheme}
use Rattle.ds_hosts.specs.declared.node.Node.{Node}
use Rattle.ds_model.proofs.Places.{some_is}
use Rattle.ds_hosts.specs.Nodes.{NodeState, IsUntil, node_of}
use Rattle.ds_world.specs.Worlds.{WorldState, IsWorld, world_of}
use Rattle.ds_world.specs.Hands.{HandsAreSpelled}
use Rattle.ds_mesh.specs.declared.task.Task.{Task}
use Rattle.ds_mesh.specs.Workings.{Did, Happened, IsReady, Works, with_host}
use Rattle.ds_mesh.specs.Phases.{AreFreshTasks, IsAtRest, IsFreshTask, Went}
use Rattle.ds_mesh.specs.Runs.{RanTo}
use Rattle.ds_mesh.proofs.Works.{happened_join, happened_none}

-- ONE THING AFTER ANOTHER

pub went_none : (w : WorldState) (events : List Event) → IsWorld w → Went w w events events
went_none w events is = record { more = []; grew = sym (append-nil events); happened = happened_none w is }

pub went_then : (w v u : WorldState) (one two three : List Event) → Went w v one two → Went v u two three → Went w u one three
went_then w v u one two three a b = record {
  more = a.more ++ b.more;
  grew = b.grew ∙ (ap (λ es. es ++ b.more) a.grew ∙ append_assoc one a.more b.more);
  happened = happened_join w v u a.more b.more a.happened b.happened;
}

-- as many are counted as there are in the list
pub went_count : (w v : WorldState) (one two : List Event) → w.count ≡ length one → Went w v one two → v.count ≡ length two
went_count w v one two e a = omega (arith, e, a.happened.count, ap length a.grew, length-append one a.more)

pub went_world : (w v : WorldState) (one two : List Event) → Went w v one two → IsWorld v
went_world w v one two a = a.happened.world

-- one event
pub went_one : (w v : WorldState) (events : List Event) (e : Event) → IsWorld v → v.doc ≡ w.doc → v.count ≡ w.count + 1
    → world_of v ≡ step scheme (plan_of w.doc) (world_of w) (meant e) → HandsAreSpelled (world_of w) → HandsAreSpelled (world_of v)
    → Went w v events (events ++ e ∷ [])
went_one w v events e is doc count steps before after = record {
  more = e ∷ [];
  grew = refl;
  happened = record {
    world = is;
    doc = doc;
    count = count;
    ran = steps;
    spelled = λ hands. (hands, subst HandsAreSpelled steps after);
  };
}

-- ALL HOSTS

abbrev pub state_at : Task → NodeState
state_at t = node_of t.node

abbrev pub made : List Task → List Event
made tasks = flat_map (λ (t : Task). t.events.items) tasks

-- what each did, from a host on
abbrev pub Pairs : Doc → (stamp left host : ℕ) → List Task → List Task → Type 0
Pairs d stamp left host [] [] = Unit {0}
Pairs d stamp left host [] (n ∷ ns) = ⊥
Pairs d stamp left host (o ∷ os) [] = ⊥
Pairs d stamp left host (o ∷ os) (n ∷ ns) = (IsFreshTask stamp left host o × Works d o n) × Pairs d stamp left (suc host) os ns

-- the state with those hosts behind others
abbrev pub with_nodes : List NodeState → (count : ℕ) → WorldState → WorldState
with_nodes nodes count w = record w { nodes = nodes; count = count }

at_seam : {X : Type 0} (before : List X) (x y : X) (later : List X) → at (length before) (λ _. y) (before ++ x ∷ later) ≡ before ++ y ∷ later
at_seam [] x y later = refl
at_seam (b ∷ before) x y later = ap (λ xs. b ∷ xs) (at_seam before x y later)

get_seam : {X : Type 0} (before : List X) (x : X) (later : List X) → slice_get (before ++ x ∷ later) (length before) ≡ Some x
get_seam [] x later = refl
get_seam (b ∷ before) x later = get_seam before x later

pub all_happened : (d : Doc) (stamp left : ℕ) (before : List NodeState) (os ns : List Task) (w : WorldState) → IsWorld w → w.doc ≡ d → stamp ≤ w.count
    → w.nodes ≡ before ++ map state_at os → Pairs d stamp left (length before) os ns
    → Happened w (with_nodes (before ++ map state_at ns) (w.count + length (made ns)) w) (made ns)
all_happened d stamp left before [] [] w is doc later nodes pairs =
    let count : w.count ≡ w.count + 0 = omega arith in
    subst (λ v. Happened w v []) (λ i. record w { nodes = nodes i; count = count i }) (happened_none w is)
all_happened d stamp left before [] (n ∷ ns) w is doc later nodes pairs = absurd pairs
all_happened d stamp left before (o ∷ os) [] w is doc later nodes pairs = absurd pairs
all_happened d stamp left before (o ∷ os) (n ∷ ns) w is doc later nodes pairs =
    let works : Works d o n = pairs.0.1 in
    let fresh : IsFreshTask stamp left (length before) o = pairs.0.0 in
    let x : NodeState = state_at o in
    let y : NodeState = state_at n in
    let more : List Event = works.more in
    let there : slice_get w.nodes (length before) ≡ Some x = ap (λ xs. slice_get xs (length before)) nodes ∙ get_seam before x (map state_at os) in
    let did : Did d (length before) stamp more x y
    = subst (λ s. Did d (length before) s more x y) fresh.stamp_is (subst (λ h. Did d h o.stamp more x y) fresh.host_is works.did) in
    let v : WorldState = with_host (length before) y (length more) w in
    let first : Happened w v more = did.happens w is doc there later in
    let seam : v.nodes ≡ (before ++ y ∷ []) ++ map state_at os
    = ap (at (length before) (λ _. y)) nodes ∙ (at_seam before x y (map state_at os) ∙ sym (append_assoc before (y ∷ []) (map state_at os))) in
    let past : length (before ++ y ∷ []) ≡ suc (length before) = omega (arith, length-append before (y ∷ [])) in
    let le : stamp ≤ v.count = omega (arith, later) in
    let rest : Pairs d stamp left (length (before ++ y ∷ [])) os ns = subst (λ h. Pairs d stamp left h os ns) (sym past) pairs.1 in
    let second : Happened v (with_nodes ((before ++ y ∷ []) ++ map state_at ns) (v.count + length (made ns)) v) (made ns)
    = all_happened d stamp left (before ++ y ∷ []) os ns v first.world (first.doc ∙ doc) le seam rest in
    let all : Happened w (with_nodes ((before ++ y ∷ []) ++ map state_at ns) (v.count + length (made ns)) v) (more ++ made ns)
    = happened_join w v (with_nodes ((before ++ y ∷ []) ++ map state_at ns) (v.count + length (made ns)) v) more (made ns) first second in
    let events : n.events.items ≡ more = works.events ∙ ap (λ es. es ++ more) fresh.events_none in
    let sum : v.count + length (made ns) ≡ w.count + length (more ++ made ns) = omega (arith, length-append more (made ns)) in
    let same : with_nodes ((before ++ y ∷ []) ++ map state_at ns) (v.count + length (made ns)) v ≡ with_nodes (before ++ map state_at (n ∷ ns)) (w.count + length (more ++ made ns)) w
    = λ i. record w { nodes = append_assoc before (y ∷ []) (map state_at ns) i; count = sum i } in
    subst (λ es. Happened w (with_nodes (before ++ map state_at (n ∷ ns)) (w.count + length (es ++ made ns)) w) (es ++ made ns)) (sym events)
    (subst (λ u. Happened w u (more ++ made ns)) same all)

-- fewer times as many are fewer
times_least : (n m k : ℕ) → n ≤ m → n * k ≤ m * k
times_least zero m k le = omega (arith, zero-mul k)
times_least (suc n) zero k le = absurd (omega (arith, le))
times_least (suc n) (suc m) k le =
    let less : n ≤ m = omega (arith, le) in
    omega (arith, suc-mul n k, suc-mul m k, times_least n m k less)

-- how many they made: each at most its share
pub all_few : (d : Doc) (stamp left host : ℕ) (os ns : List Task) → Pairs d stamp left host os ns → length (made ns) ≤ length os * left
all_few d stamp left host [] [] pairs = omega arith
all_few d stamp left host [] (n ∷ ns) pairs = absurd pairs
all_few d stamp left host (o ∷ os) [] pairs = absurd pairs
all_few d stamp left host (o ∷ os) (n ∷ ns) pairs =
    let works : Works d o n = pairs.0.1 in
    let fresh : IsFreshTask stamp left host o = pairs.0.0 in
    let events : n.events.items ≡ works.more = works.events ∙ ap (λ es. es ++ works.more) fresh.events_none in
    let rest : length (made ns) ≤ length os * left = all_few d stamp left (suc host) os ns pairs.1 in
    let one : length n.events.items ≤ left = omega (arith, works.left, fresh.left_is, ap length events) in
    let both : length (made (n ∷ ns)) ≡ length n.events.items + length (made ns) = length-append n.events.items (made ns) in
    let times : length (o ∷ os) * left ≡ length os * left + left = suc-mul (length os) left in
    omega (arith, rest, one, both, times)

-- as the threads' call says it
pub pairs_of : (d : Doc) (stamp left host : ℕ) (os ns : List Task) → length ns ≡ length os
    → ((i : ℕ) (t : Task) → slice_get os i ≡ Some t → IsFreshTask stamp left (host + i) t)
    → ((i : ℕ) (e : Task) → i < length os → Works d (slice_index_or os i e) (slice_index_or ns i e))
    → Pairs d stamp left host os ns
pairs_of d stamp left host [] [] same fresh works = tt
pairs_of d stamp left host [] (n ∷ ns) same fresh works = absurd (omega (arith, same))
pairs_of d stamp left host (o ∷ os) [] same fresh works = absurd (omega (arith, same))
pairs_of d stamp left host (o ∷ os) (n ∷ ns) same fresh works =
    let here : host + 0 ≡ host = omega arith in
    let fewer : length ns ≡ length os = omega (arith, same) in (
      (subst (λ h. IsFreshTask stamp left h o) here (fresh 0 o refl), works 0 o (omega arith)),
      pairs_of d stamp left (suc host) os ns fewer
          (λ i t h. let next : host + suc i ≡ suc host + i = omega arith in subst (λ k. IsFreshTask stamp left k t) next (fresh (suc i) t h))
          (λ i e within. works (suc i) e (omega (arith, within))),
    )

-- AT THE START OF A PHASE

-- one task more
pub fresh_more : (stamp left : ℕ) (tasks more : List Task) (t : Task) → more ≡ tasks ++ t ∷ [] → AreFreshTasks stamp left tasks → IsFreshTask stamp left (length tasks) t
    → AreFreshTasks stamp left more
fresh_more stamp left tasks more t is fresh one = subst (AreFreshTasks stamp left) (sym is)
    (λ i x h. subst (λ n. IsFreshTask stamp left n x) (sym (none_more i))
    (go tasks 0 (λ j y e. subst (λ n. IsFreshTask stamp left n y) (none_more j) (fresh j y e)) (subst (λ n. IsFreshTask stamp left n t) (none_more (length tasks)) one) i x h))
  where
    none_more : (n : ℕ) → n ≡ 0 + n
    none_more n = omega arith

    go : (xs : List Task) (from : ℕ) → ((i : ℕ) (x : Task) → slice_get xs i ≡ Some x → IsFreshTask stamp left (from + i) x) → IsFreshTask stamp left (from + length xs) t
        → (i : ℕ) (x : Task) → slice_get (xs ++ t ∷ []) i ≡ Some x → IsFreshTask stamp left (from + i) x
    go [] from each last zero x h = subst (λ (y : Task). IsFreshTask stamp left (from + 0) y) (some_is t x h) last
    go [] from each last (suc i) x h = absurd (none-some x h)
    go (y ∷ xs) from each last zero x h = each 0 x h
    go (y ∷ xs) from each last (suc i) x h =
        let next : suc from + i ≡ from + suc i = omega arith in
        let end : from + length (y ∷ xs) ≡ suc from + length xs = omega arith in
        subst (λ n. IsFreshTask stamp left n x) next
        (go xs (suc from) (λ j z e. let step : from + suc j ≡ suc from + j = omega arith in subst (λ n. IsFreshTask stamp left n z) step (each (suc j) z e))
        (subst (λ n. IsFreshTask stamp left n t) end last) i x h)

-- the hosts of one task more
pub more_nodes : (tasks more : List Task) (t : Task) (rest rest' nodes : List Node) → more ≡ tasks ++ t ∷ [] → rest ≡ t.node ∷ rest' → map (λ (x : Task). x.node) tasks ++ rest ≡ nodes
    → map (λ (x : Task). x.node) more ++ rest' ≡ nodes
more_nodes tasks more t rest rest' nodes is next so_far =
    let node : Task → Node = λ x. x.node in
    ap (λ ts. map node ts ++ rest') is
    ∙ (ap (λ xs. xs ++ rest') (map-append node tasks (t ∷ []))
    ∙ (append_assoc (map node tasks) (t.node ∷ []) rest' ∙ (ap (λ r. map node tasks ++ r) (sym next) ∙ so_far)))

-- what stands at a place
at_place : (tasks : List Task) (k : ℕ) (d : Task) → k < length tasks → slice_get tasks k ≡ Some (slice_index_or tasks k d)
at_place tasks k d within = slice_get-get_or tasks k d within

pub all_ready : (w : WorldState) (nodes : List Node) (tasks : List Task) (share : ℕ) → IsWorld w → w.nodes ≡ map node_of nodes → map (λ (t : Task). t.node) tasks ≡ nodes
    → AreFreshTasks w.count share tasks → w.count + share * 16 < 2 ^ 64 → All IsReady tasks
all_ready w nodes tasks share is seen same fresh room = λ k d within.
    let t : Task = slice_index_or tasks k d in
    let here : slice_get tasks k ≡ Some t = at_place tasks k d within in
    let one : IsFreshTask w.count share k t = fresh k t here in
    let node_there : slice_get nodes k ≡ Some t.node = ap (λ (ns : List Node). slice_get ns k) (sym same) ∙ (slice_get-map (λ (x : Task). x.node) tasks k ∙ ap (option_map (λ (x : Task). x.node)) here) in
    let state_there : slice_get w.nodes k ≡ Some (node_of t.node) = ap (λ (ns : List NodeState). slice_get ns k) seen ∙ (slice_get-map node_of nodes k ∙ ap (option_map node_of) node_there) in
    let until : IsUntil w.count (node_of t.node) = (is.nodes k (node_of t.node) state_there).stamps in
    record {
      stamps = subst (λ n. IsUntil n (node_of t.node)) (sym one.stamp_is) until;
      room = omega (arith, one.stamp_is, one.left_is, room);
    }

map_map_nodes : (tasks : List Task) → map state_at tasks ≡ map node_of (map (λ (t : Task). t.node) tasks)
map_map_nodes [] = refl
map_map_nodes (t ∷ tasks) = ap (λ xs. node_of t.node ∷ xs) (map_map_nodes tasks)

-- WHAT A PHASE DID

module _ (w : WorldState) (nodes after : List Node) (os ns : List Task) (share : ℕ) (is : IsWorld w) (seen : w.nodes ≡ map node_of nodes) (before : map (λ (t : Task). t.node) os ≡ nodes)
    (fresh : AreFreshTasks w.count share os) (same : length ns ≡ length os)
    (each : (i : ℕ) (d : Task) → i < length os → (slice_index_or ns i d).fault ≡ false → Works w.doc (slice_index_or os i d) (slice_index_or ns i d))
    (sound : All (λ (t : Task). t.fault ≡ false) ns) (gathered : after ≡ map (λ (t : Task). t.node) ns) where
  pairs : Pairs w.doc w.count share 0 os ns
  pairs = pairs_of w.doc w.count share 0 os ns same
      (λ i t h. let start : i ≡ 0 + i = omega arith in subst (λ k. IsFreshTask w.count share k t) start (fresh i t h))
      (λ i e within. each i e within (sound i e (omega (arith, within, same))))

  pub phase_happened : Happened w (with_nodes (map node_of after) (w.count + length (made ns)) w) (made ns)
  phase_happened =
      let olds : w.nodes ≡ map state_at os = seen ∙ (ap (map node_of) (sym before) ∙ sym (map_map_nodes os)) in
      let news : map state_at ns ≡ map node_of after = map_map_nodes ns ∙ ap (map node_of) (sym gathered) in
      subst (λ xs. Happened w (with_nodes xs (w.count + length (made ns)) w) (made ns)) news
      (all_happened w.doc w.count share [] os ns w is refl (omega arith) olds pairs)

  pub phase_few : length w.nodes ≤ 16 → length (made ns) ≤ share * 16
  phase_few few =
      let size : length os ≡ length w.nodes = omega (arith, ap length seen, length-map nodes node_of, ap length before, length-map os (λ (t : Task). t.node)) in
      let most : length os ≤ 16 = omega (arith, size, few) in
      let all : length (made ns) ≤ length os * share = all_few w.doc w.count share 0 os ns pairs in
      let bound : length os * share ≤ 16 * share = times_least (length os) 16 share most in
      omega (arith, all, bound)

-- THE WHOLE RUN

pub ran_to : (budget : ℕ) (w v u : WorldState) (none two three : List Event) → none ≡ [] → Went w v none two → Went v u two three → length three ≤ budget → (length three ≡ budget) ⊎ IsAtRest u
    → RanTo budget w u three
ran_to budget w v u none two three empty one last few ends =
    let all : Went w u none three = went_then w v u none two three one last in
    let is : three ≡ all.more = all.grew ∙ ap (λ es. es ++ all.more) empty in
    record { happened = subst (λ es. Happened w u es) (sym is) all.happened; few = few; ends = ends }
