use Rattle.ds_turn.proofs.Risings.{last_risen, risen}
use Rattle.ds_turn.proofs.proc_record.RecordedProc.enter.Goals as goal

pub invariant_of-self : goal.invariant_of-self
invariant_of-self c =
    let before = c.self.inside.events.items in
    let after = c.push_reserved.new.self.items in
    let later = rw (← c.self.view_is) at c.requires.later in
    let above = rw c.self.invariant.last at later in
    record {
      rising = risen before after c.args.event c.push_reserved.ensures.items c.self.invariant.rising above;
      last = last_risen before after c.args.event c.push_reserved.ensures.items;
    }
