use Rattle.ds_share.proofs.Judgements.{last_taken}
use Rattle.ds_share.proofs.desk.last_stamp_of.Goals as goal

pub loop-entry-preserved : goal.loop-entry-preserved
loop-entry-preserved c =
    let within = rw c.as_slice-entry-items.ensures at c.loop-entry-test.true in
    let is = rw c.as_slice-entry-items.ensures at c.entry-item.is in
    last_taken c.args.desk.now.opening.before c.args.desk.now.history.items c.loop-entry.entry-index c.entry-item.result within is
