use Rattle.std.proofs.Common.{sym}
use Rattle.ds_desk.specs.Desks.{kept_of}
use Rattle.ds_share.specs.Desks.{change_for}
use Rattle.ds_share.proofs.Judgements.{some_plan, some_scheme, stamp_entered}
use Rattle.ds_share.proofs.desk.act_in.Goals as goal

pub invariant_of-desk-2 : goal.invariant_of-desk-2
invariant_of-desk-2 g c =
    let old = kept_of c.desk.inside.state in
    record {
      kept = c.in_ok-told.ensures.kept;
      last = sym (stamp_entered c.stamp_after-stamp.result c.args.who (change_for some_scheme some_plan old c.args.act) old (kept_of c.done.new.desk) (c.in_ok-told.ensures.state some_scheme some_plan));
    }
