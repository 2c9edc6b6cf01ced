use Rattle.std.proofs.Common.{◌≡◌, ◌↔◌, Bool, false, [], Some, map, slice_get, sym, ◌∙◌, subst}
use Rattle.ds_exporter.specs.HostStates.{HostLane}
use Rattle.ds_exporter.specs.Lifting.{lifted_lane}
use Rattle.ds_exporter.proofs.IfDone.{if_done}
use Rattle.ds_exporter.specs.HostStates.{lane_of}
use Rattle.ds_exporter.proofs.Places.{some_is, stands_now}
use Rattle.ds_exporter.proofs.framing.lift_at.Goals as goal

pub lift-requires-clause-empty : goal.lift-requires-clause-empty
lift-requires-clause-empty c = (c.requires.ready (lane_of c.index_mut.result.now) (stands_now lane_of c.args.lanes.now.items c.args.place c.index_mut.result.now c.requires.place c.index_mut.ensures.value)).0

pub lift-requires-clause-later : goal.lift-requires-clause-later
lift-requires-clause-later c = (c.requires.ready (lane_of c.index_mut.result.now) (stands_now lane_of c.args.lanes.now.items c.args.place c.index_mut.result.now c.requires.place c.index_mut.ensures.value)).1

pub lift-requires-clause-one : goal.lift-requires-clause-one
lift-requires-clause-one c = (c.requires.ready (lane_of c.index_mut.result.now) (stands_now lane_of c.args.lanes.now.items c.args.place c.index_mut.result.now c.requires.place c.index_mut.ensures.value)).2

pub returns-clause-held : goal.returns-clause-held
returns-clause-held c =
    let there = stands_now lane_of c.args.lanes.now.items c.args.place c.index_mut.result.now c.requires.place c.index_mut.ensures.value in
    if_done (λ (held : Bool). (held ≡ false) ↔ ((lifted_lane c.args.stamp (lane_of c.index_mut.result.now)).worker.hand ≡ []))
    (λ (held : Bool). (l : HostLane) → slice_get (map lane_of c.args.lanes.now.items) c.args.place ≡ Some l → (held ≡ false) ↔ ((lifted_lane c.args.stamp l).worker.hand ≡ []))
    c.lift.result (λ held is l h. subst (λ (x : HostLane). (held ≡ false) ↔ ((lifted_lane c.args.stamp x).worker.hand ≡ [])) (some_is (lane_of c.index_mut.result.now) l (sym there ∙ h)) is) c.lift.ensures.held
