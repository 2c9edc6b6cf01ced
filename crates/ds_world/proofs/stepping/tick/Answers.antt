use Rattle.std.proofs.Common.{◌≤◌, ◌<◌, length, map, refl, arith}
use Rattle.std.proofs.lemmas.List.{length-map}
use Rattle.ds_model.specs.Plan.{host_plan}
use Rattle.ds_model.specs.Step.{ticked, Tick}
use Rattle.ds_delivery.proofs.Arrivals.{tick_grows}
use Rattle.ds_setup.specs.Plans.{plan_of}
use Rattle.ds_hosts.specs.Nodes.{node_of}
use Rattle.ds_world.specs.Inside.{state_of}
use Rattle.ds_world.proofs.OneHost.{no_host, nothing_after, one_host_if}
use Rattle.ds_world.proofs.stepping.tick.Goals as goal

pub returns-then-host-len-clause-ok : goal.returns-then-host-len-clause-ok
returns-then-host-len-clause-ok c =
    let w = state_of c.args.parts.now in
    let v = c.args.parts.now.nodes in
    let past : length (map node_of v.items) ≤ c.args.host = omega (arith, c.if-host-len.true, c.len.ensures, v.ok, length-map v.items node_of) in
    nothing_after w (Tick c.args.host c.args.to) c.requires.fit.world (no_host w c.args.host (λ x. let plan = host_plan (plan_of w.doc) c.args.host in ticked plan c.args.to x) past)

pub tick_at-requires-clause-later : goal.tick_at-requires-clause-later
tick_at-requires-clause-later c = λ x h. (c.requires.fit.world.nodes c.args.host x h).stamps

pub returns-clause-ok : goal.returns-clause-ok
returns-clause-ok c =
    let w = state_of c.args.parts.now in
    let v = c.args.parts.now.nodes in
    let within : c.args.host < length (map node_of v.items) = omega (arith, c.if-host-len.false, c.len.ensures, v.ok, length-map v.items node_of) in
    one_host_if w c.args.host (map node_of c.tick_at.new.nodes.items) (λ plan x. ticked plan c.args.to x) c.tick_at.result (Tick c.args.host c.args.to) c.requires.fit.world within (λ plan x. tick_grows plan c.args.to x) refl c.tick_at.ensures.ok
