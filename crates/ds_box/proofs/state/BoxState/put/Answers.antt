use Rattle.std.proofs.Common.{length, sym, ◌∙◌, subst}
use Rattle.ds_model.specs.Mailbox.{PutIn, FoundFull}
use Rattle.ds_box.specs.Boxes.{IsShortMail}
use Rattle.ds_box.specs.Inside.{mailbox_of}
use Rattle.ds_box.proofs.Grows.{grown, grown_last, full_may, free_may}
use Rattle.ds_box.proofs.state.BoxState.put.Goals as goal

pub invariant_of-self : goal.invariant_of-self
invariant_of-self c =
    let b = mailbox_of c.self.inside in
    let change = FoundFull c.args.kept in
    let full = sym (rw (← c.self.view_is) at c.is_full.ensures) ∙ c.if-is_full.true in
    let short = subst IsShortMail (sym c.requires.same) c.requires.short in
    let later = rw (← c.self.view_is) at c.requires.later in
    let replay = grown b c.args.stamp c.args.who change c.self.invariant.replay later (full_may (length b.waiting) b.room full) short in
    record {
      replay = rw c.push_reserved.ensures.items replay;
      last = rw c.push_reserved.ensures.items (grown_last b c.args.stamp c.args.who change);
      room = c.self.invariant.room;
    }

pub invariant_of-self-2 : goal.invariant_of-self-2
invariant_of-self-2 c =
    let b = mailbox_of c.self.inside in
    let change = PutIn c.args.kept in
    let free = sym (rw (← c.self.view_is) at c.is_full.ensures) ∙ c.if-is_full.false in
    let short = subst IsShortMail (sym c.requires.same) c.requires.short in
    let later = rw (← c.self.view_is) at c.requires.later in
    let replay = grown b c.args.stamp c.args.who change c.self.invariant.replay later (free_may (length b.waiting) b.room free) short in
    record {
      replay = rw (c.push_reserved-2.ensures.items, c.in-Ok.ensures.ok, ← c.requires.same) replay;
      last = rw c.push_reserved-2.ensures.items (grown_last b c.args.stamp c.args.who change);
      room = rw c.in-Ok.ensures.ok c.self.invariant.room;
    }
