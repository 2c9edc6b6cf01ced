use Rattle.std.proofs.Common.{◌≡◌, ◌++◌, drop}
use Rattle.ds_views.proofs.copying.copy_mailboxes.Given as goal

abbrev pub invariant-loop-mailbox : goal.invariant-loop-mailbox
invariant-loop-mailbox l = l.copies ++ drop l.mailbox-index l.boxes ≡ l.boxes
