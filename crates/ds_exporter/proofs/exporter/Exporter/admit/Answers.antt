use Rattle.std.proofs.Common.{◌≡◌, length, map, ap, ◌∙◌, refl}
use Rattle.ds_map.proofs.Sets.{true_false}
use Rattle.ds_script.specs.declared.actor.Actor.{Actor}
use Rattle.ds_model.specs.Lists.{at}
use Rattle.ds_exporter.specs.HostStates.{lane_of, process_of, state_of}
use Rattle.ds_exporter.specs.Conditions.{IsGoing}
use Rattle.ds_exporter.specs.Queueing.{admitted_lane, queued_proc}
use Rattle.ds_exporter.specs.Stepping.{proc_actor}
use Rattle.ds_exporter.proofs.Places.{all_get, there_is}
use Rattle.ds_exporter.proofs.QueueSteps.{fits_queued, goes_there, on_lane, stepped_queue, with_more}
use Rattle.ds_exporter.proofs.exporter.Exporter.admit.Goals as goal

pub unreachable-requires : goal.unreachable-requires
unreachable-requires c =
    let e = state_of c.self.inside.parts in
    let within = rw (← c.self.view_is) at c.requires.there in
    let some = rw (← c.self.view_is) at c.requires.hand in
    let inside = rw (← c.self.view_is) at c.requires.lane in
    let asks = rw (← c.self.view_is) at c.requires.asks in
    there_is ⊥ e.lanes c.args.lane inside (λ y h. true_false c.goes_onto.result
    (c.goes_onto.ensures.test y h ∙ goes_there e c.args.index c.args.lane c.args.message within (λ x k. some x k) (λ x k. asks x k) y h) c.if-not-goes_onto.true)

pub reserve_proc-requires-clause-going : goal.reserve_proc-requires-clause-going
reserve_proc-requires-clause-going c =
    let e = state_of c.self.inside.parts in
    let some = rw (← c.self.view_is) at c.requires.hand in
    λ x h. with_more x.hand x.process.course.place (length x.process.script) (some x h) (all_get IsGoing e.procs c.args.index x c.self.invariant.going h)

pub admit_at-requires-clause-on : goal.admit_at-requires-clause-on
admit_at-requires-clause-on c =
    let e = state_of c.self.inside.parts in
    let within = rw (← c.self.view_is) at c.requires.there in
    let some = rw (← c.self.view_is) at c.requires.hand in
    let asks = rw (← c.self.view_is) at c.requires.asks in
    rw c.in_ok-reserve_lane.ensures.same (on_lane e c.args.index c.args.lane c.args.message within (λ x k. some x k) (λ x k. asks x k) c.self.invariant (λ y h. c.goes_onto.ensures.equal c.if-not-goes_onto.false y h))

pub invariant_of-self-2 : goal.invariant_of-self-2
invariant_of-self-2 c =
    let e = state_of c.self.inside.parts in
    let within = rw (← c.self.view_is) at c.requires.there in
    let some = rw (← c.self.view_is) at c.requires.hand in
    let asks = rw (← c.self.view_is) at c.requires.asks in
    let who : Actor = proc_actor c.self.inside.parts.host c.args.index in
    let procs : map process_of c.queued_at.new.procs.items ≡ at c.args.index queued_proc e.procs = c.queued_at.ensures ∙ ap (at c.args.index queued_proc) c.in_ok-reserve_proc.ensures.same in
    let lanes : map lane_of c.admit_at.new.lanes.items ≡ at c.args.lane (admitted_lane c.args.stamp who c.args.message) e.lanes = c.admit_at.ensures ∙ ap (at c.args.lane (admitted_lane c.args.stamp who c.args.message)) c.in_ok-reserve_lane.ensures.same in
    rw (procs, lanes) (fits_queued e c.args.index c.args.lane c.args.message within (λ x k. some x k) (λ x k. asks x k) c.args.stamp c.self.inside.parts.host c.self.invariant)

pub returns-clause-ok : goal.returns-clause-ok
returns-clause-ok c =
    let e = state_of c.self.inside.parts in
    let within = rw (← c.self.view_is) at c.requires.there in
    let some = rw (← c.self.view_is) at c.requires.hand in
    let asks = rw (← c.self.view_is) at c.requires.asks in
    let below = rw (← c.self.view_is) at c.requires.later in
    let who : Actor = proc_actor c.self.inside.parts.host c.args.index in
    let procs : map process_of c.queued_at.new.procs.items ≡ at c.args.index queued_proc e.procs = c.queued_at.ensures ∙ ap (at c.args.index queued_proc) c.in_ok-reserve_proc.ensures.same in
    let lanes : map lane_of c.admit_at.new.lanes.items ≡ at c.args.lane (admitted_lane c.args.stamp who c.args.message) e.lanes = c.admit_at.ensures ∙ ap (at c.args.lane (admitted_lane c.args.stamp who c.args.message)) c.in_ok-reserve_lane.ensures.same in
    rw (procs, lanes, ← c.self.view_is) (stepped_queue e c.args.index c.args.lane c.args.message within (λ x k. some x k) (λ x k. asks x k) c.args.stamp c.self.inside.parts.host refl below)
