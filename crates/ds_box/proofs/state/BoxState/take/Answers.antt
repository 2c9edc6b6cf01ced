use Rattle.std.proofs.Common.{drop}
use Rattle.ds_model.specs.Mailbox.{TookOut}
use Rattle.ds_box.specs.Inside.{mailbox_of}
use Rattle.ds_box.proofs.Grows.{grown, grown_last, one_may, one_less}
use Rattle.ds_box.proofs.state.BoxState.take.Goals as goal

pub invariant_of-self-2 : goal.invariant_of-self-2
invariant_of-self-2 c =
    let b = mailbox_of c.self.inside in
    let rest = drop 1 b.waiting in
    let later = rw (← c.self.view_is) at c.requires.later in
    let replay = grown b c.args.stamp c.args.who TookOut c.self.invariant.replay later (one_may b.room c.in-Some.message rest b.waiting c.in-Some.ensures.oldest) tt in
    record {
      replay = rw (c.push_reserved.ensures.items, c.pop.ensures.rest, ← one_less c.in-Some.message rest b.waiting c.in-Some.ensures.oldest) replay;
      last = rw c.push_reserved.ensures.items (grown_last b c.args.stamp c.args.who TookOut);
      room = rw c.pop.ensures.rest c.self.invariant.room;
    }
