use Rattle.std.proofs.Common.{subst}
use Rattle.ds_box.specs.Boxes.{IsReplay, MailboxWithCapacity}
use Rattle.ds_box.proofs.state.BoxState.is_replay.Goals as goal

pub returns : goal.returns
returns c = subst (λ (b : MailboxWithCapacity). IsReplay b.mailbox) c.self.view_is c.self.invariant.replay
