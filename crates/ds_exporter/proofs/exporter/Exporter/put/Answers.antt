use Rattle.std.proofs.Common.{◌≡◌, map, subst}
use Rattle.ds_exporter.specs.HostStates.{HostState, box_of, connection_of, state_of}
use Rattle.ds_exporter.specs.PlainHosts.{ends_of}
use Rattle.ds_exporter.specs.Conditions.{PassedHasBox}
use Rattle.ds_exporter.proofs.Places.{all_get}
use Rattle.ds_exporter.proofs.DeliverPuts.{arrived_put_all, below_put_all, changed_put_all, delivered, ends_put_all, enters_passed, fits_put_all, others_put_all, site_put_all}
use Rattle.ds_exporter.proofs.exporter.Exporter.put.Goals as goal

pub put_passed-requires-clause-ready : goal.put_passed-requires-clause-ready
put_passed-requires-clause-ready c =
    let e = state_of c.self.inside.parts in
    let passed = rw (← c.self.view_is) at c.requires.passed in
    λ k h. (passed k h, all_get (PassedHasBox e.boxes) e.conns c.args.place k c.self.invariant.passed h)

pub put_passed-requires-clause-later : goal.put_passed-requires-clause-later
put_passed-requires-clause-later c =
    let below = rw (← c.self.view_is) at c.requires.later in
    below.boxes

pub invariant_of-self-2 : goal.invariant_of-self-2
invariant_of-self-2 c =
    let e = state_of c.self.inside.parts in
    let within = rw (← c.self.view_is) at c.requires.there in
    fits_put_all e c.args.place c.args.stamp (map connection_of c.put_passed.new.conns.items) (map box_of c.put_passed.new.boxes.items) within c.self.invariant (λ k h. c.in_ok-put_passed.ensures.ok k h)

pub returns-clause-ends : goal.returns-clause-ends
returns-clause-ends c =
    let e = state_of c.self.inside.parts in
    let within = rw (← c.self.view_is) at c.requires.there in
    λ link. subst (λ (s : HostState). ends_of link c.args.place (record e { boxes = map box_of c.put_passed.new.boxes.items; conns = map connection_of c.put_passed.new.conns.items }) ≡ delivered s c.args.place link) c.self.view_is
    (ends_put_all e c.args.place c.args.stamp (map connection_of c.put_passed.new.conns.items) (map box_of c.put_passed.new.boxes.items) within c.self.invariant (λ k h. c.in_ok-put_passed.ensures.ok k h) link)

pub returns-clause-changed : goal.returns-clause-changed
returns-clause-changed c =
    let e = state_of c.self.inside.parts in
    let within = rw (← c.self.view_is) at c.requires.there in
    rw (← c.self.view_is)
    (λ link. changed_put_all e c.args.place c.args.stamp (map connection_of c.put_passed.new.conns.items) (map box_of c.put_passed.new.boxes.items) within c.self.invariant (λ k h. c.in_ok-put_passed.ensures.ok k h) link)

pub returns-clause-others : goal.returns-clause-others
returns-clause-others c =
    let e = state_of c.self.inside.parts in
    let within = rw (← c.self.view_is) at c.requires.there in
    rw (← c.self.view_is)
    (λ other apart. others_put_all e c.args.place c.args.stamp (map connection_of c.put_passed.new.conns.items) (map box_of c.put_passed.new.boxes.items) within c.self.invariant (λ k h. c.in_ok-put_passed.ensures.ok k h) other apart)

pub returns-clause-arrived : goal.returns-clause-arrived
returns-clause-arrived c =
    let e = state_of c.self.inside.parts in
    let within = rw (← c.self.view_is) at c.requires.there in
    rw (← c.self.view_is)
    (arrived_put_all e c.args.place c.args.stamp (map connection_of c.put_passed.new.conns.items) (map box_of c.put_passed.new.boxes.items) within c.self.invariant (λ k h. c.in_ok-put_passed.ensures.ok k h))

pub returns-clause-site : goal.returns-clause-site
returns-clause-site c =
    let e = state_of c.self.inside.parts in
    let within = rw (← c.self.view_is) at c.requires.there in
    rw (← c.self.view_is)
    (site_put_all e c.args.place c.args.stamp (map connection_of c.put_passed.new.conns.items) (map box_of c.put_passed.new.boxes.items) within c.self.invariant (λ k h. c.in_ok-put_passed.ensures.ok k h))

pub returns-clause-stamps : goal.returns-clause-stamps
returns-clause-stamps c =
    let e = state_of c.self.inside.parts in
    let within = rw (← c.self.view_is) at c.requires.there in
    let below = rw (← c.self.view_is) at c.requires.later in
    below_put_all e c.args.place c.args.stamp (map connection_of c.put_passed.new.conns.items) (map box_of c.put_passed.new.boxes.items) within c.self.invariant (λ k h. c.in_ok-put_passed.ensures.ok k h) below

pub returns-clause-entered : goal.returns-clause-entered
returns-clause-entered c =
    rw (← c.self.view_is)
    (λ link k h. enters_passed (state_of c.self.inside.parts) c.args.place c.args.stamp k (c.in_ok-put_passed.ensures.ok k h).0 (map box_of c.put_passed.new.boxes.items) h c.self.invariant (c.in_ok-put_passed.ensures.ok k h).2 link (map connection_of c.put_passed.new.conns.items))
