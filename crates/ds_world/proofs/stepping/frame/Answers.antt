use Rattle.std.proofs.Common.{◌-◌, ◌≤◌, ◌<◌, slice_get, length, map, refl, arith}
use Rattle.std.proofs.lemmas.List.{length-map}
use Rattle.ds_model.specs.Plan.{host_plan}
use Rattle.ds_model.specs.Step.{step_lane, Frame}
use Rattle.ds_delivery.proofs.Arrivals.{lane_grows}
use Rattle.ds_scheme.specs.TheScheme.{scheme}
use Rattle.ds_setup.specs.Plans.{plan_of}
use Rattle.ds_hosts.specs.Nodes.{node_of}
use Rattle.ds_world.specs.Inside.{state_of}
use Rattle.ds_world.proofs.OneHost.{no_host, nothing_after, one_host_if}
use Rattle.ds_world.proofs.stepping.frame.Goals as goal

pub returns-then-host-len-clause-ok : goal.returns-then-host-len-clause-ok
returns-then-host-len-clause-ok c =
    let w = state_of c.args.parts.now in
    let v = c.args.parts.now.nodes in
    let past : length (map node_of v.items) ≤ c.args.host = omega (arith, c.if-host-len.true, c.len.ensures, v.ok, length-map v.items node_of) in
    nothing_after w (Frame c.args.host (c.args.lane - 1)) c.requires.fit.world (no_host w c.args.host (λ x. let plan = host_plan (plan_of w.doc) c.args.host in step_lane scheme plan x (c.args.lane - 1) (slice_get x.workers (c.args.lane - 1))) past)

pub frame_at-requires-clause-later : goal.frame_at-requires-clause-later
frame_at-requires-clause-later c = λ x h. (c.requires.fit.world.nodes c.args.host x h).stamps

pub returns-clause-ok : goal.returns-clause-ok
returns-clause-ok c =
    let w = state_of c.args.parts.now in
    let v = c.args.parts.now.nodes in
    let within : c.args.host < length (map node_of v.items) = omega (arith, c.if-host-len.false, c.len.ensures, v.ok, length-map v.items node_of) in
    one_host_if w c.args.host (map node_of c.frame_at.new.nodes.items) (λ plan x. step_lane scheme plan x (c.args.lane - 1) (slice_get x.workers (c.args.lane - 1))) c.frame_at.result (Frame c.args.host (c.args.lane - 1)) c.requires.fit.world within (λ plan x. lane_grows scheme plan x (c.args.lane - 1) (slice_get x.workers (c.args.lane - 1))) refl c.frame_at.ensures.ok
