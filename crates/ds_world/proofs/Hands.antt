-- Messages in hand have spellings all through a run, so what it delivers it delivers lawfully.
use Rattle.std.proofs.Common.{◌≡◌, ℕ, zero, suc, ◌+◌, ◌<◌, List, [], ◌∷◌, ◌++◌, length, map, slice_get, Some, take, drop, get_or, refl, sym, ap, ◌∙◌, subst, arith}
use Rattle.std.specs.List.{AllByRecursion}
use Rattle.std.proofs.lemmas.List.{append-nil, append_assoc, length-append, map-append, map_more, take-append-drop}
use Rattle.std.proofs.lemmas.Option.{none-some, same_Some}
use Rattle.ds_model.specs.Plan.{Plan}
use Rattle.ds_model.specs.World.{Host, World}
use Rattle.ds_model.specs.Lawful.{Lawful}
use Rattle.ds_model.specs.Step.{Event, run, step}
use Rattle.ds_delivery.specs.Premises.{Spells}
use Rattle.ds_plan.specs.declared.event.Event.{Event as DocEvent}
use Rattle.ds_scheme.specs.Spelled.{has_spelling}
use Rattle.ds_scheme.specs.TheScheme.{scheme}
use Rattle.ds_scheme.proofs.Instances.{delivered}
use Rattle.ds_setup.specs.Events.{meant}
use Rattle.ds_setup.specs.Plans.{plan_of}
use Rattle.ds_setup.specs.Setups.{SetupFits}
use Rattle.ds_setup.specs.Starts.{start_of}
use Rattle.ds_setup.proofs.Setups.{setup_fits}
use Rattle.ds_hosts.specs.declared.node.Node.{Node}
use Rattle.ds_hosts.specs.Nodes.{SpellsHands, node_of, plain_host}
use Rattle.ds_world.specs.declared.scheduling.Making.{Making}
use Rattle.ds_world.specs.Worlds.{WorldState, IsFresh, world_of}
use Rattle.ds_world.specs.Hands.{AreSpelledAfter, HandsAreSpelled}
use Rattle.ds_world.specs.Afters.{IsStoppedIn}
use Rattle.ds_world.specs.Makings.{GoesOn}

-- HOSTS

pub all_hands : (nodes : List Node) → AllByRecursion (λ n. SpellsHands (plain_host (node_of n))) nodes
    → (host : ℕ) (x : Host) → slice_get (map plain_host (map node_of nodes)) host ≡ Some x → SpellsHands x
all_hands [] all host x there = absurd (none-some x there)
all_hands (n ∷ nodes) all zero x there = subst SpellsHands (same_Some (plain_host (node_of n)) x there) all.0
all_hands (n ∷ nodes) all (suc host) x there = all_hands nodes all.1 host x there

-- RUNS

pub run_join : (plan : Plan) (w : World) (one two : List Event) → run scheme plan w (one ++ two) ≡ run scheme plan (run scheme plan w one) two
run_join plan w [] two = refl
run_join plan w (e ∷ one) two = run_join plan (step scheme plan w e) one two

pub spelled_join : (plan : Plan) (w : World) (one two : List Event) → AreSpelledAfter plan w one → AreSpelledAfter plan (run scheme plan w one) two
    → AreSpelledAfter plan w (one ++ two)
spelled_join plan w [] two first later = later
spelled_join plan w (e ∷ one) two first later = (first.0, spelled_join plan (step scheme plan w e) one two first.1 later)

-- at each world of the run
spelled_at : (plan : Plan) (w : World) (before later : List Event) → AreSpelledAfter plan w (before ++ later) → HandsAreSpelled (run scheme plan w before)
spelled_at plan w [] [] all = all
spelled_at plan w [] (e ∷ later) all = all.0
spelled_at plan w (e ∷ before) later all = spelled_at plan (step scheme plan w e) before later all.1

pub spelled_end : (plan : Plan) (w : World) (events : List Event) → AreSpelledAfter plan w events → HandsAreSpelled (run scheme plan w events)
spelled_end plan w events all = spelled_at plan w events [] (subst (AreSpelledAfter plan w) (sym (append-nil events)) all)

spells : (plan : Plan) (w : World) (events : List Event) → AreSpelledAfter plan w events → Spells scheme has_spelling plan w events
spells plan w events all before later is h x p y m there at held = spelled_at plan w before later (subst (AreSpelledAfter plan w) is all) h x there p y m at held

-- of a world as setup makes it
pub is_lawful : (w : WorldState) (events : List Event) → AreSpelledAfter (plan_of w.doc) (world_of w) events → IsFresh w
    → Lawful scheme (plan_of w.doc) (start_of w.doc) events
is_lawful w events all fresh =
    let fits : SetupFits w.doc = setup_fits w.doc fresh.document in
    delivered (plan_of w.doc) (start_of w.doc) events fits.lanes fits.start
    (spells (plan_of w.doc) (start_of w.doc) events (subst (λ v. AreSpelledAfter (plan_of w.doc) v events) fresh.start all))

-- one event after the others
pub ran_next : (plan : Plan) (w v u : World) (events : List DocEvent) (i : ℕ) (e : DocEvent) → i < length events → get_or events i e ≡ e
    → v ≡ run scheme plan w (map meant (take i events)) → u ≡ step scheme plan v (meant e) → u ≡ run scheme plan w (map meant (take (i + 1) events))
ran_next plan w v u events i e within is before steps =
    let listed : map meant (take (i + 1) events) ≡ map meant (take i events) ++ meant e ∷ [] = map_more meant events i e within ∙ ap (λ (x : DocEvent). map meant (take i events) ++ meant x ∷ []) is in
    steps ∙ (ap (λ x. step scheme plan x (meant e)) before
    ∙ (sym (run_join plan w (map meant (take i events)) (meant e ∷ [])) ∙ ap (run scheme plan w) (sym listed)))

pub spelled_next : (plan : Plan) (w v u : World) (events : List DocEvent) (i : ℕ) (e : DocEvent) → i < length events → get_or events i e ≡ e
    → v ≡ run scheme plan w (map meant (take i events)) → u ≡ step scheme plan v (meant e) → AreSpelledAfter plan w (map meant (take i events)) → HandsAreSpelled u
    → AreSpelledAfter plan w (map meant (take (i + 1) events))
spelled_next plan w v u events i e within is before steps so_far hands =
    let listed : map meant (take (i + 1) events) ≡ map meant (take i events) ++ meant e ∷ [] = map_more meant events i e within ∙ ap (λ (x : DocEvent). map meant (take i events) ++ meant x ∷ []) is in
    let last : HandsAreSpelled (step scheme plan (run scheme plan w (map meant (take i events))) (meant e)) = subst HandsAreSpelled (steps ∙ ap (λ x. step scheme plan x (meant e)) before) hands in
    subst (AreSpelledAfter plan w) (sym listed) (spelled_join plan w (map meant (take i events)) (meant e ∷ []) so_far (spelled_end plan w (map meant (take i events)) so_far, last))

pub stopped : (plan : Plan) (w v : World) (events : List DocEvent) (i : ℕ) → v ≡ run scheme plan w (map meant (take i events)) → IsStoppedIn plan (map meant events) w v
stopped plan w v events i done = record {
  done = map meant (take i events);
  left = map meant (drop i events);
  split = ap (map meant) (sym (take-append-drop i events)) ∙ map-append meant (take i events) (drop i events);
  world = done;
}

-- SCHEDULES

pub goes_self : (w v : WorldState) (m n : Making) → n.events ≡ m.events → world_of v ≡ world_of w → v.count ≡ w.count → GoesOn w m v n
goes_self w v m n events world count = record {
  more = [];
  events = events ∙ sym (append-nil m.events);
  world = world;
  spelled = λ hands. hands;
  count = omega (arith, count);
}

pub goes_event : (w v : WorldState) (m n : Making) (e : DocEvent) → n.events ≡ m.events ++ e ∷ [] → world_of v ≡ step scheme (plan_of w.doc) (world_of w) (meant e)
    → v.count ≡ w.count + 1 → HandsAreSpelled (world_of v) → GoesOn w m v n
goes_event w v m n e events world count after = record {
  more = e ∷ [];
  events = events;
  world = world;
  spelled = λ hands. (hands, subst HandsAreSpelled world after);
  count = count;
}

pub goes_more : (w v u : WorldState) (m n k : Making) → v.doc ≡ w.doc → GoesOn w m v n → GoesOn v n u k → GoesOn w m u k
goes_more w v u m n k same one two =
    let start : World = world_of w in
    let plan : Plan = plan_of w.doc in
    let joined : map meant (one.more ++ two.more) ≡ map meant one.more ++ map meant two.more = map-append meant one.more two.more in
    record {
      more = one.more ++ two.more;
      events = two.events ∙ (ap (λ es. es ++ two.more) one.events ∙ append_assoc m.events one.more two.more);
      world = two.world ∙ ((λ i. run scheme (plan_of (same i)) (one.world i) (map meant two.more))
          ∙ (sym (run_join plan start (map meant one.more) (map meant two.more)) ∙ ap (run scheme plan start) (sym joined)));
      spelled = λ hands.
          let first : AreSpelledAfter plan start (map meant one.more) = one.spelled hands in
          let between : HandsAreSpelled (world_of v) = subst HandsAreSpelled (sym one.world) (spelled_end plan start (map meant one.more) first) in
          let later : AreSpelledAfter plan (run scheme plan start (map meant one.more)) (map meant two.more)
          = subst (λ u. AreSpelledAfter plan u (map meant two.more)) one.world (subst (λ d. AreSpelledAfter (plan_of d) (world_of v) (map meant two.more)) same (two.spelled between)) in
          subst (AreSpelledAfter plan start) (sym joined) (spelled_join plan start (map meant one.more) (map meant two.more) first later);
      count = omega (arith, one.count, two.count, length-append one.more two.more);
    }

module _ (w v : WorldState) (m n : Making) (none : m.events ≡ []) (goes : GoesOn w m v n) where
  all_of_it : n.events ≡ goes.more
  all_of_it = goes.events ∙ ap (λ es. es ++ goes.more) none

  pub whole_lawful : HandsAreSpelled (world_of w) → IsFresh w → Lawful scheme (plan_of w.doc) (start_of w.doc) (map meant n.events)
  whole_lawful hands fresh = subst (λ es. Lawful scheme (plan_of w.doc) (start_of w.doc) (map meant es)) (sym all_of_it) (is_lawful w (map meant goes.more) (goes.spelled hands) fresh)

  pub whole_count : v.count ≡ w.count + length n.events
  whole_count = goes.count ∙ ap (λ es. w.count + length es) (sym all_of_it)

  pub whole_spelled : HandsAreSpelled (world_of w) → AreSpelledAfter (plan_of w.doc) (world_of w) (map meant n.events)
  whole_spelled hands = subst (λ es. AreSpelledAfter (plan_of w.doc) (world_of w) (map meant es)) (sym all_of_it) (goes.spelled hands)
