use Rattle.ds_model.specs.Inlet.{Fresh, Stale}
use Rattle.ds_inlet.specs.InletInside.{inlet_of}
use Rattle.ds_inlet.proofs.Counts.{grown, grown_last, stale_may}
use Rattle.ds_inlet.proofs.state.Inlet.accept.Goals as goal

pub invariant_of-self : goal.invariant_of-self
invariant_of-self c =
    let i = inlet_of c.self.inside in
    let change = Stale c.args.number in
    let later = rw (← c.self.view_is) at c.requires.later in
    let old = rw (← c.self.view_is) at c.in-Some.ensures in
    let replay = grown i c.args.stamp c.args.who change c.self.invariant.replay later (stale_may c.args.number i.number c.in-Some.last old.0 old.1) in
    record {
      replay = rw c.push_reserved.ensures.items replay;
      last = rw c.push_reserved.ensures.items (grown_last i c.args.stamp c.args.who change);
    }

pub invariant_of-self-2 : goal.invariant_of-self-2
invariant_of-self-2 c =
    let i = inlet_of c.self.inside in
    let change = Fresh c.args.number in
    let later = rw (← c.self.view_is) at c.requires.later in
    let fresh = rw (← c.self.view_is) at c.in_default.ensures in
    let replay = grown i c.args.stamp c.args.who change c.self.invariant.replay later fresh in
    record {
      replay = rw c.push_reserved-2.ensures.items replay;
      last = rw c.push_reserved-2.ensures.items (grown_last i c.args.stamp c.args.who change);
    }
