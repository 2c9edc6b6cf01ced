use Rattle.std.proofs.Common.{◌≡◌, ◌+◌, ◌-◌, ◌*◌, ◌≤◌, false, List, length, map, refl, sym, ap, subst, arith}
use Rattle.std.specs.Prelude.{All, IsTrue}
use Rattle.std.proofs.lemmas.List.{length-append}
use Rattle.ds_hosts.specs.Nodes.{node_of}
use Rattle.ds_world.specs.Inside.{state_of}
use Rattle.ds_world.specs.Worlds.{WorldState}
use Rattle.ds_mesh.specs.declared.task.Task.{Task}
use Rattle.ds_mesh.specs.Workings.{Happened}
use Rattle.ds_mesh.proofs.Phases.{all_ready, made, phase_few, phase_happened, with_nodes}
use Rattle.ds_mesh.proofs.phase.phase_of.Goals as goal

pub worked-tasks-requires-clause-ready : goal.worked-tasks-requires-clause-ready
worked-tasks-requires-clause-ready g c = λ lifetimes outlive k d within.
    all_ready (state_of c.args.parts) c.args.parts.nodes.items c.in_ok-tasks.tasks.items c.args.share c.requires.fit.world refl c.in_ok-tasks.ensures.nodes c.in_ok-tasks.ensures.fresh c.requires.room k d within

pub overflow_add-result : goal.overflow_add-result
overflow_add-result g c =
    let w : WorldState = state_of c.args.parts in
    let ns : List Task = c.worked-tasks.result.items in
    let yes : IsTrue c.are_sound.result = c.if-not-are_sound.false in
    let sound : All (λ (t : Task). t.fault ≡ false) ns = subst (λ (xs : List Task). All (λ (t : Task). t.fault ≡ false) xs) c.as_slice.ensures.value (c.are_sound.ensures yes) in
    let hosts : length w.nodes ≤ 16 = omega (arith, c.requires.fit.world.hosts, c.requires.few) in
    let few : length (made ns) ≤ c.args.share * 16 = phase_few w c.args.parts.nodes.items c.in_ok-nodes.nodes.items c.in_ok-tasks.tasks.items ns c.args.share c.requires.fit.world refl c.in_ok-tasks.ensures.nodes c.in_ok-tasks.ensures.fresh
    c.worked-tasks.ensures.count (λ i d within. c.worked-tasks.ensures.each i d within) sound c.in_ok-nodes.ensures.nodes hosts in
    let made_is : c.len.result - c.len-before.result ≡ length (made ns)
    = omega (arith, c.len.ensures, c.len-before.ensures, c.gather.new.events.ok, c.args.events.now.ok, ap length c.in_ok-nodes.ensures.events, length-append c.args.events.now.items (made ns)) in
    omega (arith, few, made_is, c.requires.room)

pub returns-clause-fit : goal.returns-clause-fit
returns-clause-fit g c =
    let w : WorldState = state_of c.args.parts in
    let ns : List Task = c.worked-tasks.result.items in
    let yes : IsTrue c.are_sound.result = c.if-not-are_sound.false in
    let sound : All (λ (t : Task). t.fault ≡ false) ns = subst (λ (xs : List Task). All (λ (t : Task). t.fault ≡ false) xs) c.as_slice.ensures.value (c.are_sound.ensures yes) in
    let hosts : length w.nodes ≤ 16 = omega (arith, c.requires.fit.world.hosts, c.requires.few) in
    let few : length (made ns) ≤ c.args.share * 16 = phase_few w c.args.parts.nodes.items c.in_ok-nodes.nodes.items c.in_ok-tasks.tasks.items ns c.args.share c.requires.fit.world refl c.in_ok-tasks.ensures.nodes c.in_ok-tasks.ensures.fresh
    c.worked-tasks.ensures.count (λ i d within. c.worked-tasks.ensures.each i d within) sound c.in_ok-nodes.ensures.nodes hosts in
    let made_is : c.len.result - c.len-before.result ≡ length (made ns)
    = omega (arith, c.len.ensures, c.len-before.ensures, c.gather.new.events.ok, c.args.events.now.ok, ap length c.in_ok-nodes.ensures.events, length-append c.args.events.now.items (made ns)) in
    let after : WorldState = state_of (record { doc = c.args.parts.doc; nodes = c.in_ok-nodes.nodes; links = c.args.parts.links; routes = c.args.parts.routes; count = c.args.parts.count + (c.len.result - c.len-before.result) }) in
    let same : with_nodes (map node_of c.in_ok-nodes.nodes.items) (w.count + length (made ns)) w ≡ after = λ i. record w { nodes = map node_of c.in_ok-nodes.nodes.items; count = w.count + sym made_is i } in
    let happened : Happened w after (made ns) = subst (λ (v : WorldState). Happened w v (made ns)) same
    (phase_happened w c.args.parts.nodes.items c.in_ok-nodes.nodes.items c.in_ok-tasks.tasks.items ns c.args.share c.requires.fit.world refl c.in_ok-tasks.ensures.nodes c.in_ok-tasks.ensures.fresh
    c.worked-tasks.ensures.count (λ i d within. c.worked-tasks.ensures.each i d within) sound c.in_ok-nodes.ensures.nodes) in
    record { routes = c.requires.fit.routes; world = happened.world }

pub returns-clause-went : goal.returns-clause-went
returns-clause-went g c =
    let w : WorldState = state_of c.args.parts in
    let ns : List Task = c.worked-tasks.result.items in
    let yes : IsTrue c.are_sound.result = c.if-not-are_sound.false in
    let sound : All (λ (t : Task). t.fault ≡ false) ns = subst (λ (xs : List Task). All (λ (t : Task). t.fault ≡ false) xs) c.as_slice.ensures.value (c.are_sound.ensures yes) in
    let hosts : length w.nodes ≤ 16 = omega (arith, c.requires.fit.world.hosts, c.requires.few) in
    let few : length (made ns) ≤ c.args.share * 16 = phase_few w c.args.parts.nodes.items c.in_ok-nodes.nodes.items c.in_ok-tasks.tasks.items ns c.args.share c.requires.fit.world refl c.in_ok-tasks.ensures.nodes c.in_ok-tasks.ensures.fresh
    c.worked-tasks.ensures.count (λ i d within. c.worked-tasks.ensures.each i d within) sound c.in_ok-nodes.ensures.nodes hosts in
    let made_is : c.len.result - c.len-before.result ≡ length (made ns)
    = omega (arith, c.len.ensures, c.len-before.ensures, c.gather.new.events.ok, c.args.events.now.ok, ap length c.in_ok-nodes.ensures.events, length-append c.args.events.now.items (made ns)) in
    let after : WorldState = state_of (record { doc = c.args.parts.doc; nodes = c.in_ok-nodes.nodes; links = c.args.parts.links; routes = c.args.parts.routes; count = c.args.parts.count + (c.len.result - c.len-before.result) }) in
    let same : with_nodes (map node_of c.in_ok-nodes.nodes.items) (w.count + length (made ns)) w ≡ after = λ i. record w { nodes = map node_of c.in_ok-nodes.nodes.items; count = w.count + sym made_is i } in
    let happened : Happened w after (made ns) = subst (λ (v : WorldState). Happened w v (made ns)) same
    (phase_happened w c.args.parts.nodes.items c.in_ok-nodes.nodes.items c.in_ok-tasks.tasks.items ns c.args.share c.requires.fit.world refl c.in_ok-tasks.ensures.nodes c.in_ok-tasks.ensures.fresh
    c.worked-tasks.ensures.count (λ i d within. c.worked-tasks.ensures.each i d within) sound c.in_ok-nodes.ensures.nodes) in
    record { more = made ns; grew = c.in_ok-nodes.ensures.events; happened = happened }

pub returns-clause-few : goal.returns-clause-few
returns-clause-few g c =
    let w : WorldState = state_of c.args.parts in
    let ns : List Task = c.worked-tasks.result.items in
    let yes : IsTrue c.are_sound.result = c.if-not-are_sound.false in
    let sound : All (λ (t : Task). t.fault ≡ false) ns = subst (λ (xs : List Task). All (λ (t : Task). t.fault ≡ false) xs) c.as_slice.ensures.value (c.are_sound.ensures yes) in
    let hosts : length w.nodes ≤ 16 = omega (arith, c.requires.fit.world.hosts, c.requires.few) in
    let few : length (made ns) ≤ c.args.share * 16 = phase_few w c.args.parts.nodes.items c.in_ok-nodes.nodes.items c.in_ok-tasks.tasks.items ns c.args.share c.requires.fit.world refl c.in_ok-tasks.ensures.nodes c.in_ok-tasks.ensures.fresh
    c.worked-tasks.ensures.count (λ i d within. c.worked-tasks.ensures.each i d within) sound c.in_ok-nodes.ensures.nodes hosts in
    let made_is : c.len.result - c.len-before.result ≡ length (made ns)
    = omega (arith, c.len.ensures, c.len-before.ensures, c.gather.new.events.ok, c.args.events.now.ok, ap length c.in_ok-nodes.ensures.events, length-append c.args.events.now.items (made ns)) in
    omega (arith, few, ap length c.in_ok-nodes.ensures.events, length-append c.args.events.now.items (made ns))
