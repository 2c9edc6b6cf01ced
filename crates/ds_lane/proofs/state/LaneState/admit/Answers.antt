use Rattle.std.proofs.Common.{length, sym, ◌∙◌, subst}
use Rattle.ds_model.specs.Lane.{Queued, QueueFull}
use Rattle.ds_lane.specs.Lanes.{IsOn, sent_by}
use Rattle.ds_lane.specs.LaneInside.{lane_of}
use Rattle.ds_lane.proofs.Grows.{grown, grown_last, full_may, free_may}
use Rattle.ds_lane.proofs.state.LaneState.admit.Goals as goal

pub invariant_of-self : goal.invariant_of-self
invariant_of-self c =
    let b = lane_of c.self.inside in
    let change = QueueFull (sent_by c.args.who.index c.args.kept) in
    let full = sym (rw (← c.self.view_is) at c.is_full.ensures) ∙ c.if-is_full.true in
    let on = subst (IsOn b.cert) (sym c.requires.same) (rw (← c.self.view_is) at c.requires.on) in
    let later = rw (← c.self.view_is) at c.requires.later in
    let replay = grown b c.args.stamp c.args.who change c.self.invariant.replay later (full_may (length b.waiting) b.room full) on in
    record {
      replay = rw c.push_reserved.ensures.items replay;
      last = rw c.push_reserved.ensures.items (grown_last b c.args.stamp c.args.who change);
      room = c.self.invariant.room;
    }

pub invariant_of-self-2 : goal.invariant_of-self-2
invariant_of-self-2 c =
    let b = lane_of c.self.inside in
    let change = Queued (sent_by c.args.who.index c.args.kept) in
    let free = sym (rw (← c.self.view_is) at c.is_full.ensures) ∙ c.if-is_full.false in
    let on = subst (IsOn b.cert) (sym c.requires.same) (rw (← c.self.view_is) at c.requires.on) in
    let later = rw (← c.self.view_is) at c.requires.later in
    let replay = grown b c.args.stamp c.args.who change c.self.invariant.replay later (free_may (length b.waiting) b.room free) on in
    record {
      replay = rw (c.push_reserved-2.ensures.items, c.in-Ok.ensures.ok, ← c.requires.same) replay;
      last = rw c.push_reserved-2.ensures.items (grown_last b c.args.stamp c.args.who change);
      room = rw c.in-Ok.ensures.ok c.self.invariant.room;
    }
